use Rattle.std.proofs.Common.{◌≡◌}
use Rattle.atoms.specs.Has.{has}
use Rattle.planning.specs.Tasks.{Task}
use Rattle.plans.specs.Scripts.{Scripted, numbers}
use Rattle.plans.proofs.Passes.{Passed}
use Rattle.plans.proofs.script.ops.strikable.Given as goal

-- the steps so far can be taken, they lead to the state, and none of them can be left out
abbrev pub invariant-loop-i : goal.invariant-loop-i
invariant-loop-i l = (t : Task) → has l.fn.start ≡ t.initial → Scripted t l.script → Passed t (numbers l.script) (has l.state) l.i
