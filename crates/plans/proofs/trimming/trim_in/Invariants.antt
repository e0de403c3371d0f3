use Rattle.std.proofs.Common.{◌≡◌, ◌≤◌, ◌-◌, length, drop}
use Rattle.planning.specs.Piles.{Built, meaning}
use Rattle.plans.specs.Scripts.{Scripted, numbers}
use Rattle.plans.specs.Steps.{steps_of}
use Rattle.plans.proofs.Rounds.{Leads}
use Rattle.plans.proofs.trimming.trim_in.Given as goal

-- from the first place that is not free on the room has the script of what is left
abbrev pub invariant-loop-i : goal.invariant-loop-i
invariant-loop-i g l =
    let p = g.P.Task.pile l.task in
    let t = meaning p in
    let left = drop l.first l.room in
    record {
      size : length l.room ≡ length (steps_of l.plan);
      free : l.first ≡ length (steps_of l.gone);
      within : l.first ≤ length l.room;
      scripted : Built p → Scripted t left;
      leads : Built p → Leads t (steps_of l.plan) (numbers left) (steps_of l.gone);
    }

abbrev pub decreases-loop-i : goal.decreases-loop-i
decreases-loop-i g l = length l.room - l.first
