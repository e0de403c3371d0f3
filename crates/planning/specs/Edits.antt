-- What the edits of an order make of a plan.
use Rattle.std.specs.Prelude.{◌≡◌, ℕ, suc, ◌+◌, ◌-◌, Bool, false, cond, ◌&&◌, ◌⊎◌, List, [], ◌∷◌, ◌++◌, length, take, drop, IfErr, Some, None, Ok, Err, Option, Result, ◌==◌, nat_le, nat_lt}
use Rattle.planning.specs.Tasks.{Task}
use Rattle.planning.specs.Places.{action_at}
use Rattle.planning.specs.Faults.{at_place}
use Rattle.planning.specs.Verdicts.{Verdict, and_then, judged}
use Rattle.planning.specs.declared.fault.Fault.{Fault}
use Rattle.planning.specs.declared.refusal.Refusal.{Refusal}
use Rattle.planning.specs.declared.refusal.Refusal.TheVariants.{TooManySteps, UnknownAction, NoPlan, NoStep, NotTheParts}

-- others in place of n steps from an index on, which counts from 0
abbrev pub splice : List ℕ → ℕ → ℕ → List ℕ → List ℕ
splice plan i n new = take i plan ++ (new ++ drop (i + n) plan)

-- the plan without the step at a place
abbrev pub without : List ℕ → ℕ → List ℕ
without plan i = splice plan (i - 1) 1 []

-- the verdict on an edited plan: its length is looked at first
abbrev pub judged_edited : Task → List ℕ → Verdict
judged_edited t plan = cond (nat_lt 256 (length plan)) (Err (at_place TooManySteps 257)) (judged t plan)

-- an edit makes another plan, or a fault
abbrev pub Edited : Type 0
Edited = Result (List ℕ) Fault

abbrev pub tried : Task → List ℕ → Edited
tried t plan = and_then (judged_edited t plan) (λ _. Ok plan)

-- there is a step at place i
abbrev pub is_place : List ℕ → ℕ → Bool
is_place plan i = nat_lt 0 i && nat_le i (length plan)

-- there are steps at places i and i + 1
abbrev pub are_places : List ℕ → ℕ → Bool
are_places plan i = nat_lt 0 i && nat_lt i (length plan)

-- step i left out
abbrev pub dropped : Task → List ℕ → ℕ → Edited
dropped t plan i = cond (is_place plan i) (tried t (without plan i)) (Err (at_place NoStep i))

-- steps i and i + 1 exchanged
abbrev pub swapped : Task → List ℕ → ℕ → Edited
swapped t plan i = cond (are_places plan i) (tried t (splice plan (i - 1) 2 (action_at plan (suc i) ∷ action_at plan i ∷ []))) (Err (at_place NoStep i))

abbrev pub are_parts : Option (ℕ × ℕ) → ℕ → ℕ → Bool
are_parts None a b = false
are_parts (Some w) a b = w.0 == a && w.1 == b

-- action c in place of steps i and i + 1, which are its parts
abbrev pub folded : Task → List ℕ → ℕ → ℕ → Edited
folded t plan i c =
    cond (are_places plan i)
    (cond (nat_lt c t.actions)
    (cond (are_parts (t.parts c) (action_at plan i) (action_at plan (suc i))) (tried t (splice plan (i - 1) 2 (c ∷ []))) (Err (at_place NotTheParts i)))
    (Err (at_place UnknownAction i)))
    (Err (at_place NoStep i))

abbrev pub opened : Task → List ℕ → ℕ → Option (ℕ × ℕ) → Edited
opened t plan i None = Err (at_place NotTheParts i)
opened t plan i (Some w) = tried t (splice plan (i - 1) 1 (w.0 ∷ w.1 ∷ []))

-- the two parts in place of step i
abbrev pub unfolded : Task → List ℕ → ℕ → Edited
unfolded t plan i = cond (is_place plan i) (opened t plan i (t.parts (action_at plan i))) (Err (at_place NoStep i))

-- an edit is refused for its form: no plan, no step, an unknown action, not the parts, or too many steps
abbrev pub OfForm : Refusal → Type 0
OfForm r = (r ≡ NoPlan) ⊎ ((r ≡ NoStep) ⊎ ((r ≡ UnknownAction) ⊎ ((r ≡ NotTheParts) ⊎ (r ≡ TooManySteps))))

-- what is refused, is refused for its form
abbrev pub OnlyForm : {X : Type 0} → Result X Fault → Type 0
OnlyForm r = IfErr r (λ f. OfForm f.refusal)
