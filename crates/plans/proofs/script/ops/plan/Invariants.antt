use Rattle.std.proofs.Common.{◌≡◌, ◌≤◌, length, take, map}
use Rattle.plans.specs.Steps.{steps_of}
use Rattle.plans.proofs.script.ops.plan.Given as goal

abbrev pub invariant-loop-step : goal.invariant-loop-step
invariant-loop-step l = length l.script ≤ 256 → steps_of l.plan ≡ map (λ s. s.number) (take l.step-index l.script)
