-- A layer with no rows means the task below, one higher.
use Rattle.std.proofs.Common.{◌≡◌, ℕ, ◌<◌, ◌≤◌, T, [], ◌++◌, Some, None, add-zero, arith}
use mathlib.Core.Path.{fun_ext}
use Rattle.std.proofs.lemmas.Bool.Decides.{nat_tests}
use Rattle.planning.specs.Sets.{AtomSet, Under, none}
use Rattle.planning.specs.Tasks.{Task, Lawful}
use Rattle.planning.specs.Marks.{Marks, marked, mark_task, higher}
use Rattle.planning.specs.Macros.{by_row, joined_needs, joined_deletes, joined_adds, macro_task}
use Rattle.planning.specs.Piles.{raised}
use Rattle.planning.specs.declared.join.Join.{Join}

pub no_marks : (n : ℕ) (s m : AtomSet) → Under n s → marked n [] s m ≡ s
no_marks n s m u = fun_ext (λ p. grind (arith, nat_tests, u p))

pub no_rule : (t : Task) (m : Marks) → Lawful t → mark_task t [] m ≡ raised t
no_rule t m law =
    let atoms = add-zero t.atoms in
    let initial = no_marks t.atoms t.initial m.initial law.initial_under in
    let goal = no_marks t.atoms t.goal m.goal law.goal_under in
    let needs : ◌≡◌ {A = ℕ → AtomSet} (mark_task t [] m).needs t.needs = fun_ext (λ a. no_marks t.atoms (t.needs a) (m.needs a) (law.needs_under a)) in
    let deletes : ◌≡◌ {A = ℕ → AtomSet} (mark_task t [] m).deletes t.deletes = fun_ext (λ a. no_marks t.atoms (t.deletes a) (m.deletes a) (law.deletes_under a)) in
    let adds : ◌≡◌ {A = ℕ → AtomSet} (mark_task t [] m).adds t.adds = fun_ext (λ a. no_marks t.atoms (t.adds a) (m.adds a) (law.adds_under a)) in
    let first : ◌≡◌ {A = ℕ → ℕ} (mark_task t [] m).first_height t.first_height = fun_ext (λ p. grind (arith, nat_tests)) in
    λ i. record {
      atoms = atoms i;
      actions = t.actions;
      initial = initial i;
      goal = goal i;
      needs = needs i;
      deletes = deletes i;
      adds = adds i;
      kind = t.kind;
      base_steps = t.base_steps;
      parts = t.parts;
      height = higher t.height;
      first_height = first i;
    }

no_rows : {X : Type 0} (m : ℕ) (old : ℕ → X) (new : Join → X) (nothing : X) → ((a : ℕ) → m ≤ a → old a ≡ nothing) → by_row m [] old new nothing ≡ old
no_rows m old new nothing h = fun_ext (λ a. grind (arith, nat_tests, h a))

none_beyond : (t : Task) (f : ℕ → AtomSet) → ((a p : ℕ) → T (f a p) → a < t.actions) → (a : ℕ) → t.actions ≤ a → f a ≡ none
none_beyond t f h a l = fun_ext (λ p. grind (arith, h a p))

pub no_macro : (t : Task) → Lawful t → macro_task t [] ≡ raised t
no_macro t law =
    let actions = add-zero t.actions in
    let needs = no_rows t.actions t.needs (joined_needs t) none (none_beyond t t.needs law.needs_known) in
    let deletes = no_rows t.actions t.deletes (joined_deletes t) none (none_beyond t t.deletes law.deletes_known) in
    let adds = no_rows t.actions t.adds (joined_adds t) none (none_beyond t t.adds law.adds_known) in
    let kind = no_rows t.actions t.kind (λ w. w.kind) 65535 law.kind_unknown in
    let base = no_rows t.actions t.base_steps (λ w. t.base_steps w.first ++ t.base_steps w.second) [] law.base_unknown in
    let parts = no_rows t.actions t.parts (λ w. Some (w.first, w.second)) None law.parts_unknown in
    cc
