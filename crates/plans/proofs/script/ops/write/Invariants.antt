use Rattle.std.proofs.Common.{◌≡◌, length, take, drop}
use Rattle.std.specs.Slice.Iter.{iter_rest}
use Rattle.std.specs.Iterator.Adapters.{rev_source, enumerate_source, enumerate_count}
use Rattle.planning.specs.Piles.{Built, meaning}
use Rattle.tasks.specs.Regressed.{Wanted}
use Rattle.plans.specs.Scripts.{numbers, Told}
use Rattle.plans.proofs.script.ops.write.Given as goal

-- from the steps that are left on the script is written, and `want` is what those behind them want
abbrev pub invariant-loop-i : goal.invariant-loop-i
invariant-loop-i g l =
    let p = g.P.Task.pile l.task in
    let items = rev_source l.i-iterator in
    let left = iter_rest (enumerate_source items) in
    record {
      counted : enumerate_count items ≡ 0;
      behind : left ≡ take (length left) l.plan;
      size : length l.script ≡ length l.plan;
      numbered : numbers (drop (length left) l.script) ≡ drop (length left) l.plan;
      told : Built p → Told (meaning p) (drop (length left) l.script) × Wanted (meaning p) (drop (length left) l.plan) l.want;
    }
