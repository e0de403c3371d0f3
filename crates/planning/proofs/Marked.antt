-- A run of a rule layer's task is a run of the task below, beside a run of each mark.
use Rattle.std.proofs.Common.{◌≡◌, ℕ, ◌+◌, ◌-◌, ◌<◌, ◌≤◌, Bool, not, ◌&&◌, ◌||◌, T, ◌↔◌, List, [], ◌∷◌, length, get_or, sym, subst, arith}
use mathlib.Core.Path.{fun_ext}
use Rattle.std.proofs.lemmas.Bool.Decides.{nat_tests}
use Rattle.planning.specs.Sets.{AtomSet, ◌⊆◌, Under}
use Rattle.planning.specs.Tasks.{Task, after, Reaches, Lawful}
use Rattle.planning.specs.Marks.{higher, marked, Marks, mark_task}
use Rattle.planning.specs.Rows.{RuleRows}

-- a mark's next value, and its run
abbrev pub next : Marks → ℕ → ℕ → Bool → Bool
next m a q b = (b && not (m.deletes a q)) || m.adds a q

abbrev pub Watch : Marks → ℕ → Bool → List ℕ → Type 0
Watch m q b [] = T (m.goal q) → T b
Watch m q b (a ∷ r) = (T (m.needs a q) → T b) × Watch m q (next m a q b) r

marked_state : (t : Task) (listed : List ℕ) (m : Marks) (a : ℕ) (s v : AtomSet)
    → after (mark_task t listed m) a (marked t.atoms listed s v) ≡ marked t.atoms listed (after t a s) (λ q. next m a q (v q))
marked_state t listed m a s v = fun_ext λ p. grind arith

marked_⊆ : (n : ℕ) (listed : List ℕ) (x y s v : AtomSet) → Under n x
    → (marked n listed x y ⊆ marked n listed s v) ↔ ((x ⊆ s) × ((k : ℕ) → k < length listed → T (y (get_or listed k 0)) → T (v (get_or listed k 0))))
marked_⊆ n listed x y s v u = (
  λ h. (λ p k. grind (arith, nat_tests, h p, u p), λ k l g. let e : n + k - n ≡ k = omega arith in grind (arith, nat_tests, h (n + k))),
  λ h p k. grind (arith, h.0 p, h.1 (p - n)),
)

pub marks_split : (t : Task) (listed : List ℕ) (m : Marks) → Lawful t → (s v : AtomSet) (r : List ℕ)
    → Reaches (mark_task t listed m) (marked t.atoms listed s v) r
    ↔ (Reaches t s r × ((k : ℕ) → k < length listed → Watch m (get_or listed k 0) (v (get_or listed k 0)) r))
marks_split t listed m law s v [] = marked_⊆ t.atoms listed t.goal m.goal s v law.goal_under
marks_split t listed m law s v (a ∷ r) =
    let ih = marks_split t listed m law (after t a s) (λ q. next m a q (v q)) r in
    let here = marked_⊆ t.atoms listed (t.needs a) (m.needs a) s v (law.needs_under a) in
    let step = marked_state t listed m a s v in (
      λ h.
          let sub = here.0 h.1 in
          let rest = ih.0 (subst (λ (x : AtomSet). Reaches (mark_task t listed m) x r) step h.2) in
          ((h.0, sub.0, rest.0), λ k l. (sub.1 k l, rest.1 k l)),
      λ h. (
        h.0.0,
        here.1 (h.0.1, λ k l. (h.1 k l).0),
        subst (λ (x : AtomSet). Reaches (mark_task t listed m) x r) (sym step) (ih.1 (h.0.2, λ k l. (h.1 k l).1)),
      ),
    )

marked_under : (n : ℕ) (listed : List ℕ) (s v : AtomSet) → Under (n + length listed) (marked n listed s v)
marked_under n listed s v p h = grind (arith, nat_tests)

pub higher_low : (h : ℕ) → higher h ≤ 255
higher_low h = grind (arith, nat_tests)

pub higher_up : (h : ℕ) → h ≤ 255 → h ≤ higher h
higher_up h l = grind (arith, nat_tests)

-- marks only of known actions
pub record OfKnown (t : Task) (m : Marks) : Type 0 where
  pub needs : (a q : ℕ) → T (m.needs a q) → a < t.actions
  pub deletes : (a q : ℕ) → T (m.deletes a q) → a < t.actions
  pub adds : (a q : ℕ) → T (m.adds a q) → a < t.actions

marked_known : (n : ℕ) (listed : List ℕ) (s v : AtomSet) (Q : Type 0) → ((p : ℕ) → T (s p) → Q) → ((q : ℕ) → T (v q) → Q) → (p : ℕ) → T (marked n listed s v p) → Q
marked_known n listed s v Q f g p h = grind (arith, f p, g (get_or listed (p - n) 0))

pub mark_lawful : (t : Task) (listed : List ℕ) (m : Marks) → Lawful t → RuleRows t listed → OfKnown t m → Lawful (mark_task t listed m)
mark_lawful t listed m law rows known = record {
  few_atoms = rows.room;
  few_actions = law.few_actions;
  low = higher_low t.height;
  initial_under = marked_under t.atoms listed t.initial m.initial;
  goal_under = marked_under t.atoms listed t.goal m.goal;
  needs_under = λ a. marked_under t.atoms listed (t.needs a) (m.needs a);
  deletes_under = λ a. marked_under t.atoms listed (t.deletes a) (m.deletes a);
  adds_under = λ a. marked_under t.atoms listed (t.adds a) (m.adds a);
  needs_known = λ a. marked_known t.atoms listed (t.needs a) (m.needs a) (a < t.actions) (law.needs_known a) (known.needs a);
  deletes_known = λ a. marked_known t.atoms listed (t.deletes a) (m.deletes a) (a < t.actions) (law.deletes_known a) (known.deletes a);
  adds_known = λ a. marked_known t.atoms listed (t.adds a) (m.adds a) (a < t.actions) (law.adds_known a) (known.adds a);
  kind_known = law.kind_known;
  kind_unknown = law.kind_unknown;
  base_known = law.base_known;
  base_unknown = law.base_unknown;
  parts_unknown = law.parts_unknown;
  parts_lower = law.parts_lower;
  parts_base = law.parts_base;
  first_known = λ p l. grind (arith, nat_tests, law.first_known p, higher_up t.height law.low);
  first_unknown = λ p l. grind (arith, nat_tests);
}
