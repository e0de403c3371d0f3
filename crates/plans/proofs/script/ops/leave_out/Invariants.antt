use Rattle.std.proofs.Common.{◌≡◌, ℕ, ◌<◌, length, get_or, drop}
use Rattle.planning.specs.Tasks.{Task}
use Rattle.planning.specs.Trims.{left_out}
use Rattle.tasks.specs.Regressed.{Wanted}
use Rattle.plans.specs.Scripts.{Scripted, numbers, Told}
use Rattle.plans.specs.declared.script.Step.{Step}
use Rattle.plans.proofs.script.ops.leave_out.Given as goal

-- the steps before index k are where they were; from there on those that are left stand one place further, and `want` is what they want
abbrev pub invariant-loop-k : goal.invariant-loop-k
invariant-loop-k l =
    let old = l.fn.script in
    let left = left_out (numbers old) l.i in
    record {
      size : length l.script ≡ length old;
      front : (k : ℕ) (d : Step) → k < l.k → get_or l.script k d ≡ get_or old k d;
      numbered : numbers (drop l.k (drop 1 l.script)) ≡ drop l.k left;
      told : (t : Task) → Scripted t old → Told t (drop l.k (drop 1 l.script)) × Wanted t (drop l.k left) l.want;
    }
