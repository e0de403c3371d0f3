-- What calls on an order do.
use Rattle.std.specs.Prelude.{◌≡◌, ℕ, suc, ◌≤◌, false, cond, List, map, is_ok, Some, None, Ok, Err, Option, Result}
use Rattle.std.specs.Option.{option_map}
use Rattle.planning.specs.Amounts.{Amounts}
use Rattle.planning.specs.Edits.{is_place, are_places}
use Rattle.planning.specs.Faults.{at_place}
use Rattle.planning.specs.Orders.{Held, Outcome, quoted}
use Rattle.planning.specs.Piles.{Pile, macros, meaning}
use Rattle.planning.specs.Places.{action_at}
use Rattle.planning.specs.Runs as runs
use Rattle.planning.specs.Runs.{load_row, drop_step, swap_steps, fold_steps, unfold_step, trim_plan, done, credit, refused, log_of, RunFrom, QuotedTerm}
use Rattle.planning.specs.Tasks.{Solves}
use Rattle.planning.specs.declared.fault.Fault.{Fault}
use Rattle.planning.specs.declared.join.Join.{Join}
use Rattle.planning.specs.declared.refusal.Refusal.TheVariants.{NoPlan, NoStep}
use Rattle.plans.specs.Steps.{steps_of}
use Rattle.plans.specs.declared.plan.Plan.{Plan}
use Rattle.service.specs.declared.call.Call.{Call}
use Rattle.service.specs.declared.call.Call.TheVariants.{Load, Drop, Swap, Fold, Unfold, Trim}
use Rattle.service.specs.declared.order.Order.{Order}

-- the plan that a record holds
abbrev pub held : Option Plan → Held
held o = option_map steps_of o

-- the step at a place, or why there is none
abbrev pub step_at : Held → ℕ → Result ℕ Fault
step_at None i = Err (at_place NoPlan 0)
step_at (Some plan) i = cond (is_place plan i) (Ok (action_at plan i)) (Err (at_place NoStep i))

-- the steps at a place and the next
abbrev pub steps_at : Held → ℕ → Result (ℕ × ℕ) Fault
steps_at None i = Err (at_place NoPlan 0)
steps_at (Some plan) i = cond (are_places plan i) (Ok (action_at plan i, action_at plan (suc i))) (Err (at_place NoStep i))

-- a call on an order: a refusal leaves the order as it was, and pile and tariff stay; the answer and the plan held afterwards are those
-- of the outcome, if the pile is as `Below` says
pub record Does {P F X : Type 0} (Below : Type 0) (outcome : Outcome X) (old : Order P F) (r : Result X Fault) (new : Order P F) : Type 0 where
  pub pile : new.pile ≡ old.pile
  pub tariff : new.tariff ≡ old.tariff
  pub kept : is_ok r ≡ false → new ≡ old
  pub answers : Below → r ≡ outcome.0
  pub leaves : Below → held new.plan ≡ outcome.1

-- the top of the pile is a macro layer, the action is none of the task below it, and the plan held solves the task
abbrev pub TopMacro : Pile → Held → (List ℕ → ℕ) → Type 0
TopMacro p hold action =
    (below : Pile) × (n : ℕ) × (rows : List Join) × (plan : List ℕ)
    × (p ≡ macros below n rows) × (hold ≡ Some plan) × Solves (meaning p) plan × ((meaning below).actions ≤ action plan)

-- a call, with the row that it lends
abbrev pub call_of : Call → runs.Call
call_of (Load row) = load_row row.now
call_of (Drop i) = drop_step i
call_of (Swap i) = swap_steps i
call_of (Fold i c) = fold_steps i c
call_of (Unfold i) = unfold_step i
call_of Trim = trim_plan

-- an answer, as a log lists it: drop and trim alone answer a credit
abbrev pub answer_of : {A : Type 0} → Result (Option A) Fault → runs.Answer A
answer_of (Ok None) = done
answer_of (Ok (Some c)) = credit c
answer_of (Err f) = refused f

-- a list of calls was carried out on an order over a pile: what was held at first, the answers, what is held now, and its quote
pub record CarriedOut {A : Type 0} (am : Amounts A) (price : ℕ → A) (p : Pile) (first : Held) (calls : List Call) (answers : List (Result (Option A) Fault)) (now_held : Held) (quote : A) : Type 0 where
  -- each call was answered, and left the plan, as defined
  pub ran : RunFrom am price (meaning p) first (log_of (map call_of calls) (map answer_of answers)) now_held
  pub quotes : quote ≡ quoted am price (meaning p) now_held
  -- of an order that held no plan at first, the printed term
  pub term : first ≡ None → QuotedTerm am price p (log_of (map call_of calls) (map answer_of answers)) now_held quote
