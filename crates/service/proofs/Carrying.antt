-- Calls carried out one after the other.
use Rattle.std.proofs.Common.{◌≡◌, ℕ, ◌+◌, ◌<◌, List, map, length, get_or, take, set, Option, Result, sym, ap, ◌∙◌, subst, ap₂, arith}
use Rattle.std.proofs.lemmas.List.{length-map, get_or-map, map-set}
use Rattle.planning.specs.Amounts.{Amounts}
use Rattle.planning.specs.Orders.{Held}
use Rattle.planning.specs.Runs as runs
use Rattle.planning.specs.Runs.{performed, RunFrom, log_of}
use Rattle.planning.specs.Tasks.{Task}
use Rattle.planning.specs.declared.fault.Fault.{Fault}
use Rattle.planning.proofs.Logs.{run_more}
use Rattle.service.specs.declared.call.Call.{Call}
use Rattle.service.specs.Calls.{call_of, answer_of}

module _ {A : Type 0} (am : Amounts A) (calls : List Call) where
  -- the first i calls were carried out
  abbrev pub RunTo : (ℕ → A) → Task → Held → ℕ → List (Result (Option A) Fault) → Held → Type 0
  RunTo price t first i answers now_held = RunFrom am price t first (log_of (take i (map call_of calls)) (take i (map answer_of answers))) now_held

  -- one call more, by an order that has the same pile and tariff still
  pub run_to_more : {P F : Type 0} (price : F → ℕ → A) (mean : P → Task) (p q : P) (f h : F) → q ≡ p → h ≡ f
      → (first before after : Held) (answers : List (Result (Option A) Fault)) (i : ℕ) (d : Call) (a : Result (Option A) Fault) → i < length calls → i < length answers
      → RunTo (price f) (mean p) first i answers before → performed am (price h) (mean q) before (call_of (get_or calls i d)) ≡ (answer_of a, after)
      → RunTo (price f) (mean p) first (i + 1) (set answers i a) after
  run_to_more price mean p q f h e k first before after answers i d a l m r done =
      subst (λ (x : List (runs.Answer A)). RunFrom am (price f) (mean p) first (log_of (take (i + 1) (map call_of calls)) (take (i + 1) x)) after)
      (sym (map-set answer_of answers i a))
      (run_more am (price f) (mean p) first before after (map call_of calls) (map answer_of answers) i (call_of d) (answer_of a)
      (omega (arith, length-map calls call_of)) (omega (arith, length-map answers answer_of)) r
      (ap (performed am (price f) (mean p) before) (get_or-map call_of calls i d (call_of d) l)
      ∙ ap₂ (λ h q. performed am (price h) (mean q) before (call_of (get_or calls i d))) (sym k) (sym e) ∙ done))
