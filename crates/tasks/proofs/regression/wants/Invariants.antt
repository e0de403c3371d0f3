use Rattle.std.proofs.Common.{◌-◌, length}
use Rattle.atoms.specs.Has.{has}
use Rattle.planning.specs.Piles.{Built, meaning}
use Rattle.tasks.proofs.Backwards.{Rest}
use Rattle.tasks.proofs.regression.wants.Given as goal

-- what was gone through from the plan's end is possible, and wants what is wanted
abbrev pub invariant-loop-a : goal.invariant-loop-a
invariant-loop-a g l = Built (g.P.Task.pile l.task) → Rest (meaning (g.P.Task.pile l.task)) l.plan (has l.want) (length l.plan - length l.yielded)
