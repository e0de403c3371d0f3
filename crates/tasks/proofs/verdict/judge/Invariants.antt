use Rattle.std.proofs.Common.{◌≡◌, ◌+◌, ◌≤◌, drop}
use Rattle.atoms.specs.Has.{has}
use Rattle.planning.specs.Piles.{Built, meaning}
use Rattle.planning.specs.Verdicts.{judged, judged_from}
use Rattle.tasks.proofs.verdict.judge.Given as goal

-- what is left of the plan gives the verdict
abbrev pub invariant-loop-i : goal.invariant-loop-i
invariant-loop-i g l =
    let p = g.P.Task.pile l.task in
    (l.i ≤ 256) × (Built p → judged_from (meaning p) (l.i + 1) (has l.state) (drop l.i l.plan) ≡ judged (meaning p) l.plan)
