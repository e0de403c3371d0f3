use Rattle.std.proofs.Common.{◌≡◌, ◌+◌, ◌≤◌, length, take}
use Rattle.atoms.specs.Has.{has}
use Rattle.planning.specs.Sets.{Under}
use Rattle.planning.specs.Marks.{marked}
use Rattle.layers.proofs.rule_layer.RuleLayer.mark.Given as goal

-- the marks of the listed atoms so far are in
abbrev pub invariant-loop-k : goal.invariant-loop-k
invariant-loop-k g l =
    l.self.from + length l.self.listed.items ≤ 320 → Under l.self.from (has l.initial.marked) → has l.marked ≡ marked l.self.from (take l.k l.p-items) (has l.initial.marked) (has l.marks)
