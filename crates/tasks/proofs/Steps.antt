-- A state's missing atoms, counted and named over all 320 numbers or over the task's atoms; and one step of a judgement.
use Rattle.std.proofs.Common.{◌≡◌, ℕ, ◌+◌, ◌<◌, ◌≤◌, List, length, get_or, drop, Some, None, Ok, Err, Option, Result, sym, ap, ◌∙◌, subst, ap₂, arith}
use Rattle.std.proofs.lemmas.List.{at_drop_more, at_drop_all}
use Rattle.std.proofs.lemmas.Bool.Decides.{nat_tests}
use Rattle.planning.specs.Sets.{AtomSet, ◌∖◌, Under, count, lowest}
use Rattle.planning.specs.Tasks.{Task, Lawful, after}
use Rattle.planning.specs.Verdicts.{Verdict, lacks, lacks_at, lack, and_then, stepped, judged_from}
use Rattle.planning.specs.declared.fault.Fault.{Fault}
use Rattle.planning.specs.declared.refusal.Refusal.{Refusal}
use Rattle.planning.specs.declared.refusal.Refusal.TheVariants.{NotApplicable, GoalNotMet}
use Rattle.planning.proofs.Counts.{count_under, lowest_under}

module _ (t : Task) (law : Lawful t) (refusal : Refusal) (place : ℕ) (need state missing : AtomSet) (under : Under t.atoms need) (is : missing ≡ need ∖ state) where
  missing_under : Under t.atoms missing
  missing_under = rw is (λ p h. grind (arith, under p))

  lowest_is : (o : Option ℕ) → o ≡ lowest missing 320 → lacks_at t refusal place (need ∖ state) o ≡ lacks t refusal place need state
  lowest_is o e =
      ap (lacks_at t refusal place (need ∖ state))
      (e ∙ lowest_under missing t.atoms 320 missing_under law.few_atoms ∙ ap (λ m. lowest m t.atoms) is)

  pub lacks_none : None ≡ lowest missing 320 → Ok tt ≡ lacks t refusal place need state
  lacks_none e = lowest_is None e

  pub lacks_some : (p n : ℕ) (h : ℕ) → Some p ≡ lowest missing 320 → n ≡ count missing 320 → h ≡ t.first_height p
      → Err (record { refusal = refusal; place = place; atom = p; missing = n; layer = h }) ≡ lacks t refusal place need state
  lacks_some p n h e k l =
      let counted : n ≡ count (need ∖ state) t.atoms = k ∙ count_under missing t.atoms 320 missing_under law.few_atoms ∙ ap (λ m. count m t.atoms) is in
      let here : ◌≡◌ {A = Verdict} (Err (record { refusal = refusal; place = place; atom = p; missing = n; layer = h })) (Err (lack t refusal place (need ∖ state) p)) = cc in
      here ∙ lowest_is (Some p) e

-- a step within the limit by a known action, by what the state lacks of the action's needs
pub step_known : (t : Task) → Lawful t → (place a : ℕ) (state need : AtomSet) (v : Verdict) → place ≤ 256 → a < t.actions → need ≡ t.needs a
    → (Under t.atoms need → v ≡ lacks t NotApplicable place need state) → and_then v (λ _. Ok (after t a state)) ≡ stepped t place a state
step_known t law place a state need v h k is lacking =
    let under : Under t.atoms need = subst (Under t.atoms) (sym is) (law.needs_under a) in
    let held : v ≡ lacks t NotApplicable place (t.needs a) state = lacking under ∙ ap (λ n. lacks t NotApplicable place n state) is in
    grind (arith, nat_tests)

-- what is left of a plan, by how its first step went
pub judged_more : (t : Task) (place : ℕ) (state : AtomSet) (plan : List ℕ) (i : ℕ) → i < length plan → (r : Result AtomSet Fault)
    → r ≡ stepped t place (get_or plan i 0) state → and_then r (λ next. judged_from t (place + 1) next (drop (i + 1) plan)) ≡ judged_from t place state (drop i plan)
judged_more t place state plan i h r e =
    ap (λ r. and_then r (λ next. judged_from t (place + 1) next (drop (i + 1) plan))) e ∙ sym (at_drop_more (judged_from t place state) plan i 0 h)

-- and with no step left, by what its last state lacks of the goal
pub judged_end : (t : Task) → Lawful t → (place : ℕ) (state goal : AtomSet) (plan : List ℕ) (i : ℕ) (v : Verdict) → length plan ≤ i → place ≡ i + 1 → goal ≡ t.goal
    → (Under t.atoms goal → v ≡ lacks t GoalNotMet place goal state) → v ≡ judged_from t (i + 1) state (drop i plan)
judged_end t law place state goal plan i v h e is lacking =
    lacking (rw is law.goal_under) ∙ ap₂ (λ n goal. lacks t GoalNotMet n goal state) e is ∙ sym (at_drop_all (judged_from t (i + 1) state) plan i h)
