-- The calls of a service order, and what each answers and leaves.
use Rattle.std.specs.Prelude.{ℕ, List, [], ◌∷◌, Some, None, Ok, Err, Option, Result}
use Rattle.std.specs.List.{flat_map}
use Rattle.planning.specs.Tasks.{Task}
use Rattle.planning.specs.Places.{action_at}
use Rattle.planning.specs.Amounts.{Amounts, total}
use Rattle.planning.specs.Faults.{at_place}
use Rattle.planning.specs.Verdicts.{Verdict, judged}
use Rattle.planning.specs.Edits.{Edited, dropped, swapped, folded, unfolded}
use Rattle.planning.specs.Trims.{trimmed}
use Rattle.planning.specs.declared.fault.Fault.{Fault}
use Rattle.planning.specs.declared.refusal.Refusal.TheVariants.{NoPlan}

-- the plan that an order holds, if any
abbrev pub Held : Type 0
Held = Option (List ℕ)

-- a call's answer, and the plan held after it; a refusal leaves what was held
abbrev pub Outcome : Type 0 → Type 0
Outcome X = Result X Fault × Held

abbrev pub loaded : Task → Held → List ℕ → Verdict → Outcome (Unit {0})
loaded t held row (Ok u) = (Ok tt, Some row)
loaded t held row (Err f) = (Err f, held)

abbrev pub load_call : Task → Held → List ℕ → Outcome (Unit {0})
load_call t held row = loaded t held row (judged t row)

-- the edited plan, if there is one, and what was held otherwise
abbrev pub taken_or : Held → Edited → Outcome (Unit {0})
taken_or held (Ok new) = (Ok tt, Some new)
taken_or held (Err f) = (Err f, held)

-- the same, answering x
abbrev pub taken : {X : Type 0} → X → List ℕ → Edited → Outcome X
taken x plan (Ok new) = (Ok x, Some new)
taken x plan (Err f) = (Err f, Some plan)

abbrev pub with_plan : {X : Type 0} → Held → (List ℕ → Outcome X) → Outcome X
with_plan None f = (Err (at_place NoPlan 0), None)
with_plan (Some plan) f = f plan

abbrev pub swap_call : Task → Held → ℕ → Outcome (Unit {0})
swap_call t held i = with_plan held (λ plan. taken_or (Some plan) (swapped t plan i))

abbrev pub fold_call : Task → Held → ℕ → ℕ → Outcome (Unit {0})
fold_call t held i c = with_plan held (λ plan. taken_or (Some plan) (folded t plan i c))

abbrev pub unfold_call : Task → Held → ℕ → Outcome (Unit {0})
unfold_call t held i = with_plan held (λ plan. taken_or (Some plan) (unfolded t plan i))

module _ {A : Type 0} (am : Amounts A) (price : ℕ → A) (t : Task) where
  -- what a row of actions is charged: the amounts of all its base steps, joined
  abbrev pub charge : List ℕ → A
  charge row = total am price (flat_map t.base_steps row)

  -- the quote of the plan held: nought with no plan
  abbrev pub quoted : Held → A
  quoted None = am.nought
  quoted (Some plan) = charge plan

  -- drop answers the credit of the step that left
  abbrev pub drop_call : Held → ℕ → Outcome A
  drop_call held i = with_plan held (λ plan. taken (charge (action_at plan i ∷ [])) plan (dropped t plan i))

  -- trim answers the credit of all steps that left
  abbrev pub trim_call : Held → Outcome A
  trim_call held = with_plan held (λ plan. (Ok (charge (trimmed t plan).gone), Some (trimmed t plan).plan))
