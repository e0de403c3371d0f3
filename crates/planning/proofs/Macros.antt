-- A macro layer is faithful.
use Rattle.std.proofs.Common.{◌≡◌, ℕ, ◌+◌, ◌-◌, ◌<◌, ◌≤◌, T, ◌↔◌, List, [], ◌∷◌, ◌++◌, length, get_or, Some, None, sym, refl, ap, ◌∙◌, subst, ap₂, ⊎_elim, append-nil, arith}
use mathlib.Core.Path.{fun_ext}
use mathlib.Core.Logic.Iff
use Rattle.std.specs.List.{flat_map}
use Rattle.std.proofs.lemmas.Bool.{cases_lt}
use Rattle.std.proofs.lemmas.Bool.Decides.{nat_tests}
use Rattle.std.proofs.lemmas.Grind.{flat_map-append}
use Rattle.std.proofs.lemmas.Option.{some_pair_parts}
use Rattle.std.proofs.ByRecursion.{All-append, All-get_or}
use Rattle.planning.specs.Sets.{AtomSet, ◌⊆◌, Under, none}
use Rattle.planning.specs.Tasks.{Task, after, Reaches, Lawful}
use Rattle.planning.specs.Macros.{blank, by_row, joined_needs, joined_deletes, joined_adds, macro_task, unfolded, spread}
use Rattle.planning.specs.Rows.{RowFits, MacroRows}
use Rattle.planning.specs.declared.join.Join.{Join}
use Rattle.planning.specs.Piles.{Known}
use Rattle.planning.proofs.Marked.{higher_low, higher_up}
use Rattle.std.proofs.lemmas.List.{length-append}
use Rattle.planning.proofs.Joins.{joined_needed}

pub by_row_old : {X : Type 0} (m : ℕ) (rows : List Join) (old : ℕ → X) (new : Join → X) (nothing : X) (a : ℕ) → a < m
    → by_row m rows old new nothing a ≡ old a
by_row_old m rows old new nothing a l = grind (arith, nat_tests)

pub by_row_new : {X : Type 0} (m : ℕ) (rows : List Join) (old : ℕ → X) (new : Join → X) (nothing : X) (a : ℕ) → m ≤ a → a < m + length rows
    → by_row m rows old new nothing a ≡ new (get_or rows (a - m) blank)
by_row_new m rows old new nothing a l h = grind (arith, nat_tests)

by_row_none : {X : Type 0} (m : ℕ) (rows : List Join) (old : ℕ → X) (new : Join → X) (nothing : X) (a : ℕ) → m + length rows ≤ a
    → by_row m rows old new nothing a ≡ nothing
by_row_none m rows old new nothing a h = grind (arith, nat_tests)

pub by_row_split : {X : Type 0} (Q : X → Type 0) (m : ℕ) (rows : List Join) (old : ℕ → X) (new : Join → X) (nothing : X) (a : ℕ)
    → (a < m → Q (old a)) → (m ≤ a → a < m + length rows → Q (new (get_or rows (a - m) blank))) → (m + length rows ≤ a → Q nothing)
    → Q (by_row m rows old new nothing a)
by_row_split Q m rows old new nothing a f g h = ⊎_elim
    (λ l. subst Q (sym (by_row_old m rows old new nothing a l)) (f l))
    (λ l. ⊎_elim
    (λ k. subst Q (sym (by_row_new m rows old new nothing a l k)) (g l k))
    (λ k. subst Q (sym (by_row_none m rows old new nothing a k)) (h k))
    (cases_lt a (m + length rows)))
    (cases_lt a m)

-- one step, with its needs and its next state named
step_as : (t : Task) (s s' : AtomSet) (n : AtomSet) (a : ℕ) (r : List ℕ) → t.needs a ≡ n → after t a s ≡ s'
    → Reaches t s (a ∷ r) ↔ ((a < t.actions) × (n ⊆ s) × Reaches t s' r)
step_as t s s' n a r e f = (
  λ h. (h.0, subst (λ (x : AtomSet). x ⊆ s) e h.1, subst (λ (x : AtomSet). Reaches t x r) f h.2),
  λ h. (h.0, subst (λ (x : AtomSet). x ⊆ s) (sym e) h.1, subst (λ (x : AtomSet). Reaches t x r) (sym f) h.2),
)

module _ (t : Task) (rows : List Join) (fit : MacroRows t rows) where
  pub row_fits : (k : ℕ) → k < length rows → RowFits t (get_or rows k blank)
  row_fits k l = All-get_or (RowFits t) rows k blank l fit.each

  -- a known action's needs and next state
  old_state : (s : AtomSet) (a : ℕ) → a < t.actions → after (macro_task t rows) a s ≡ after t a s
  old_state s a l = fun_ext (λ p. grind (arith, nat_tests))

  new_state : (s : AtomSet) (a : ℕ) → t.actions ≤ a → a < t.actions + length rows
      → after (macro_task t rows) a s ≡ after t (get_or rows (a - t.actions) blank).second (after t (get_or rows (a - t.actions) blank).first s)
  new_state s a l h = fun_ext (λ p. grind (arith, nat_tests))

  pub spread_iff : (s : AtomSet) (plan : List ℕ) → Known (macro_task t rows) plan
      → Reaches (macro_task t rows) s plan ↔ Reaches t s (spread t.actions rows plan)
  spread_iff s [] known = Iff.rfl
  spread_iff s (a ∷ r) known = ⊎_elim
      (λ l. old l (spread_iff (after t a s) r known.1))
      (λ l. new l (spread_iff (after t (get_or rows (a - t.actions) blank).second (after t (get_or rows (a - t.actions) blank).first s)) r known.1))
      (cases_lt a t.actions)
    where
      old : a < t.actions → Reaches (macro_task t rows) (after t a s) r ↔ Reaches t (after t a s) (spread t.actions rows r)
          → Reaches (macro_task t rows) s (a ∷ r) ↔ Reaches t s (unfolded t.actions rows a ++ spread t.actions rows r)
      old l ih =
          rw (by_row_old t.actions rows (λ c. c ∷ []) (λ w. w.first ∷ w.second ∷ []) (a ∷ []) a l)
          (Iff.trans
          (step_as (macro_task t rows) s (after t a s) (t.needs a) a r
          (by_row_old t.actions rows t.needs (joined_needs t) none a l) (old_state s a l))
          (λ h. (l, h.1, ih.0 h.2), λ h. (known.0, h.1, ih.1 h.2)))

      new : t.actions ≤ a
          → Reaches (macro_task t rows) (after t (get_or rows (a - t.actions) blank).second (after t (get_or rows (a - t.actions) blank).first s)) r
          ↔ Reaches t (after t (get_or rows (a - t.actions) blank).second (after t (get_or rows (a - t.actions) blank).first s)) (spread t.actions rows r)
          → Reaches (macro_task t rows) s (a ∷ r) ↔ Reaches t s (unfolded t.actions rows a ++ spread t.actions rows r)
      new l ih =
          let w : Join = get_or rows (a - t.actions) blank in
          let ok = row_fits (a - t.actions) (omega arith) in
          let j = joined_needed t w s ok.joins in
          rw (by_row_new t.actions rows (λ c. c ∷ []) (λ w. w.first ∷ w.second ∷ []) (a ∷ []) a l known.0)
          (Iff.trans
          (step_as (macro_task t rows) s (after t w.second (after t w.first s)) (joined_needs t w) a r
          (by_row_new t.actions rows t.needs (joined_needs t) none a l known.0) (new_state s a l known.0)) (
            λ h. (ok.first_known, (j.0 h.1).0, (ok.second_known, (j.0 h.1).1, ih.0 h.2)),
            λ h. (known.0, j.1 (h.1, h.2.1), ih.1 h.2.2),
          ))

  unfolded_known : (a : ℕ) → a < t.actions + length rows → Known t (unfolded t.actions rows a)
  unfolded_known a h = by_row_split (Known t) t.actions rows (λ c. c ∷ []) (λ w. w.first ∷ w.second ∷ []) (a ∷ []) a
      (λ l. (l, tt))
      (λ l k. let ok = row_fits (a - t.actions) (omega arith) in (ok.first_known, (ok.second_known, tt)))
      (λ k. absurd (omega arith))

  pub spread_known : (plan : List ℕ) → Known (macro_task t rows) plan → Known t (spread t.actions rows plan)
  spread_known [] k = tt
  spread_known (a ∷ r) k =
      All-append (λ a. a < t.actions) (unfolded t.actions rows a) (spread t.actions rows r) (unfolded_known a k.0) (spread_known r k.1)

module _ (t : Task) (rows : List Join) where
  unfolded_based : (a : ℕ) → a < t.actions + length rows → flat_map t.base_steps (unfolded t.actions rows a) ≡ (macro_task t rows).base_steps a
  unfolded_based a h = grind (arith, nat_tests, append-nil {A = ℕ})

  pub spread_based : (plan : List ℕ) → Known (macro_task t rows) plan → flat_map t.base_steps (spread t.actions rows plan) ≡ flat_map (macro_task t rows).base_steps plan
  spread_based [] k = refl
  spread_based (a ∷ r) k =
      flat_map-append t.base_steps (unfolded t.actions rows a) (spread t.actions rows r)
      ∙ (ap (λ x. x ++ flat_map t.base_steps (spread t.actions rows r)) (unfolded_based a k.0)
      ∙ ap (λ x. (macro_task t rows).base_steps a ++ x) (spread_based r k.1))

  -- what a known action's parts are
  old_base : (a : ℕ) → a < t.actions → (macro_task t rows).base_steps a ≡ t.base_steps a
  old_base a l = by_row_old t.actions rows t.base_steps (λ w. t.base_steps w.first ++ t.base_steps w.second) [] a l

  row_of : MacroRows t rows → (c : ℕ) → t.actions ≤ c → c < t.actions + length rows → RowFits t (get_or rows (c - t.actions) blank)
  row_of fit c l m = All-get_or (RowFits t) rows (c - t.actions) blank (omega arith) fit.each

  macro_lower : Lawful t → MacroRows t rows → (c a b : ℕ) → (macro_task t rows).parts c ≡ Some (a, b) → (a < c) × (b < c)
  macro_lower law fit c a b = by_row_split (λ o. o ≡ Some (a, b) → (a < c) × (b < c)) t.actions rows t.parts (λ w. Some (w.first, w.second)) None c
      (λ l. law.parts_lower c a b)
      (λ l m e. let ok = row_of fit c l m in let same = some_pair_parts _ a _ b e in grind (arith, ok.first_known, ok.second_known, same))
      (λ k e. absurd cc)

  macro_base : Lawful t → MacroRows t rows → (c a b : ℕ) → (macro_task t rows).parts c ≡ Some (a, b)
      → (macro_task t rows).base_steps c ≡ (macro_task t rows).base_steps a ++ (macro_task t rows).base_steps b
  macro_base law fit c a b = by_row_split (λ o. o ≡ Some (a, b) → (macro_task t rows).base_steps c ≡ (macro_task t rows).base_steps a ++ (macro_task t rows).base_steps b)
      t.actions rows t.parts (λ w. Some (w.first, w.second)) None c
      (λ l e. let low = law.parts_lower c a b e in old_base c l ∙ law.parts_base c a b e ∙ both a b (omega arith) (omega arith))
      (λ l m e.
      let ok = row_of fit c l m in
      let same = some_pair_parts _ a _ b e in
      by_row_new t.actions rows t.base_steps (λ w. t.base_steps w.first ++ t.base_steps w.second) [] c l m
      ∙ ap₂ (λ x y. t.base_steps x ++ t.base_steps y) same.0 same.1
      ∙ both a b (subst (λ x. x < t.actions) same.0 ok.first_known) (subst (λ x. x < t.actions) same.1 ok.second_known))
      (λ k e. absurd cc)
    where
      both : (a b : ℕ) → a < t.actions → b < t.actions → t.base_steps a ++ t.base_steps b ≡ (macro_task t rows).base_steps a ++ (macro_task t rows).base_steps b
      both a b x y = sym (ap₂ ◌++◌ (old_base a x) (old_base b y))

  -- a set by rows is of the atoms, and of known actions
  by_row_under : (old : ℕ → AtomSet) (new : Join → AtomSet) → ((a : ℕ) → Under t.atoms (old a)) → ((w : Join) → Under t.atoms (new w))
      → (a : ℕ) → Under t.atoms (by_row t.actions rows old new none a)
  by_row_under old new f g a = by_row_split (Under t.atoms) t.actions rows old new none a (λ l. f a) (λ l m. g (get_or rows (a - t.actions) blank)) (λ k p h. absurd h)

  by_row_known : (old : ℕ → AtomSet) (new : Join → AtomSet) (a p : ℕ) → T (by_row t.actions rows old new none a p) → a < t.actions + length rows
  by_row_known old new a p = by_row_split (λ x. T (x p) → a < t.actions + length rows) t.actions rows old new none a
      (λ l h. omega arith) (λ l m h. m) (λ k h. absurd h)

  pub macro_lawful : Lawful t → MacroRows t rows → Lawful (macro_task t rows)
  macro_lawful law fit = record {
    few_atoms = law.few_atoms;
    few_actions = fit.room;
    low = higher_low t.height;
    initial_under = law.initial_under;
    goal_under = law.goal_under;
    needs_under = by_row_under t.needs (joined_needs t) law.needs_under
        (λ w p h. grind (arith, law.needs_under w.first p, law.needs_under w.second p));
    deletes_under = by_row_under t.deletes (joined_deletes t) law.deletes_under
        (λ w p h. grind (arith, law.deletes_under w.first p, law.deletes_under w.second p));
    adds_under = by_row_under t.adds (joined_adds t) law.adds_under
        (λ w p h. grind (arith, law.adds_under w.second p, law.adds_under w.first p));
    needs_known = by_row_known t.needs (joined_needs t);
    deletes_known = by_row_known t.deletes (joined_deletes t);
    adds_known = by_row_known t.adds (joined_adds t);
    kind_known = λ a l. by_row_split (λ k. k ≤ 65534) t.actions rows t.kind (λ w. w.kind) 65535 a
        (λ m. law.kind_known a m) (λ m n. (row_of fit a m n).kind_fits) (λ m. absurd (omega arith));
    kind_unknown = λ a l. by_row_none t.actions rows t.kind (λ w. w.kind) 65535 a l;
    base_known = λ a l. by_row_split (λ k. (1 ≤ length k) × (length k ≤ 8)) t.actions rows t.base_steps (λ w. t.base_steps w.first ++ t.base_steps w.second) [] a
        (λ m. law.base_known a m)
        (λ m n.
        let w : Join = get_or rows (a - t.actions) blank in
        let ok = row_of fit a m n in
        let x = law.base_known w.first ok.first_known in
        let y = ok.short in
        let z = length-append (t.base_steps w.first) (t.base_steps w.second) in
        (omega arith, omega arith))
        (λ m. absurd (omega arith));
    base_unknown = λ a l. by_row_none t.actions rows t.base_steps (λ w. t.base_steps w.first ++ t.base_steps w.second) [] a l;
    parts_unknown = λ a l. by_row_none t.actions rows t.parts (λ w. Some (w.first, w.second)) None a l;
    parts_lower = macro_lower law fit;
    parts_base = macro_base law fit;
    first_known = λ p l. let h = law.first_known p l in let k = higher_up t.height law.low in omega arith;
    first_unknown = law.first_unknown;
  }
