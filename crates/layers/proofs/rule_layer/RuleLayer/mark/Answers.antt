use Rattle.std.proofs.Common.{◌+◌, ◌<◌, length, sym, ap, ◌∙◌, arith}
use Rattle.std.proofs.lemmas.List.{take_all}
use Rattle.atoms.specs.Has.{has}
use Rattle.planning.proofs.Empties.{no_marks}
use Rattle.layers.proofs.Marking.{marked_yes, marked_no}
use Rattle.layers.proofs.rule_layer.RuleLayer.mark.Goals as goal
use Rattle.layers.proofs.rule_layer.RuleLayer.mark.Goals.{then-contains, else-contains}

pub loop-k-init : goal.loop-k-init
loop-k-init g c h u = sym (no_marks c.args.self.now.from (has c.args.set) (has c.args.marks) u)

pub loop-k-preserved : goal.loop-k-preserved
loop-k-preserved g c h u =
    let l = c.args.self.now in
    let n = l.from in
    let k = c.loop-k.k in
    let s = has c.args.set in
    let m = has c.args.marks in
    let xs = c.as_slice-p-items.result.now in
    let inside : k < length xs = omega arith in
    let small : n + k < 320 = omega (arith, ap length c.as_slice-p-items.ensures.value, h) in
    elim c.if-contains.branch [
      | then-contains w ↦ ap has w.marked-is ∙ w.insert-marked.ensures
          ∙ marked_yes n k w.saturating_add.result xs s m (has c.loop-k.marked) u inside small (omega (arith, w.saturating_add.ensures))
          (sym c.contains.ensures.tells ∙ w.if-contains.true) (c.loop-k.invariant h u)
      | else-contains w ↦ ap has w.marked-is
          ∙ marked_no n k xs s m (has c.loop-k.marked) u inside (sym c.contains.ensures.tells ∙ w.if-contains.false) (c.loop-k.invariant h u)
    ]

pub returns : goal.returns
returns g c h u =
    let front = take_all c.loop-k.k c.as_slice-p-items.result.now (omega arith) in
    let marked = c.loop-k.invariant h u in
    cc
