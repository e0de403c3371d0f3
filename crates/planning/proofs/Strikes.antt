-- Which steps a plan can do without, by the states before them and what the rest wants.
use Rattle.std.proofs.Common.{◌≡◌, ℕ, ◌+◌, ◌<◌, ◌≤◌, true, false, List, [], ◌∷◌, ◌++◌, length, get_or, take, drop, ◌∙◌, arith}
use Rattle.std.proofs.lemmas.Bool.{false_from_ne_true}
use Rattle.std.proofs.lemmas.List.{length-take-le, get_or_append_left, get_or-take, take-append-le, take-take}
use Rattle.planning.specs.Sets.{AtomSet}
use Rattle.planning.specs.Tasks.{Task, Lawful, after, finally, Applicable, Runs, Reaches}
use Rattle.planning.specs.Trims.{left_out, can_strike}
use Rattle.planning.proofs.Plans.{reaches_append, reaches_index}
use Rattle.planning.proofs.Trims.{left_shorter}
use Rattle.planning.proofs.Verdicts.{judged_decides}

module _ (t : Task) (law : Lawful t) where
  rest_reaches : (s : AtomSet) (done rest : List ℕ) → Reaches t s (done ++ rest) → Reaches t (finally t s done) rest
  rest_reaches s [] rest h = h
  rest_reaches s (a ∷ done) rest h = rest_reaches (after t a s) done rest h.2

  module _ (plan : List ℕ) (i : ℕ) where
    -- the state before the step, and the steps after it
    abbrev pub there : AtomSet
    there = finally t t.initial (take i plan)

    pub can_strike_from : length plan ≤ 256 → i < length plan → Runs t t.initial (take i plan) → Reaches t there (drop (i + 1) plan) → can_strike t plan i ≡ true
    can_strike_from m l runs rest =
        (judged_decides t law (left_out plan i)).1 (omega (arith, left_shorter plan i l), reaches_append t t.initial (take i plan) (drop (i + 1) plan) runs rest)

    pub can_strike_only : (Reaches t there (drop (i + 1) plan) → ⊥) → can_strike t plan i ≡ false
    can_strike_only never =
        false_from_ne_true (can_strike t plan i) (λ e. never (rest_reaches t.initial (take i plan) (drop (i + 1) plan) ((judged_decides t law (left_out plan i)).0 e).1))

    -- a step that cannot be taken stays behind every later one that is left out
    pub can_strike_late : (((get_or plan i 0 < t.actions) × Applicable t (get_or plan i 0) there) → ⊥) → (k : ℕ) → i < k → k < length plan → can_strike t plan k ≡ false
    can_strike_late never k l m = false_from_ne_true (can_strike t plan k) (λ e.
        let size : length (take k plan) ≡ k = length-take-le k plan (omega arith) in
        let reach = ((judged_decides t law (left_out plan k)).0 e).1 in
        let here = reaches_index t t.initial (left_out plan k) i reach (omega (arith, left_shorter plan k m)) in
        let step : get_or (left_out plan k) i 0 ≡ get_or plan i 0 = get_or_append_left (take k plan) ([] ++ drop (k + 1) plan) 0 i (omega arith) ∙ get_or-take k plan i 0 l in
        let front : take i (left_out plan k) ≡ take i plan = take-append-le i (take k plan) ([] ++ drop (k + 1) plan) (omega arith) ∙ take-take i k plan (omega arith) in
        never (rw (← step, ← front) here))
