use Rattle.std.proofs.Common.{◌≡◌, ◌≤◌}
use Rattle.atoms.specs.Has.{has}
use Rattle.trials.specs.Full.{below}
use Rattle.trials.proofs.full.first.Given as goal

abbrev pub invariant-loop-i : goal.invariant-loop-i
invariant-loop-i l = l.i ≤ 320 → has l.set ≡ below l.i
