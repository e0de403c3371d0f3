use Rattle.planning.specs.Piles.{meaning}
use Rattle.planning.proofs.Soundness.{built_sound}
use Rattle.layers.proofs.Marking.{mark_all}
use Rattle.layers.proofs.rule_layer.RuleLayerTask.initial.Goals as goal

pub returns : goal.returns
returns g c b =
    let l = c.args.self.now in
    let t = meaning (g.T.Task.pile l.below) in
    let law = (built_sound (g.T.Task.pile l.below) b.0).lawful in
    mark_all t law l.listed.items b.1 c.marks_start.result l.from _ t.initial _ _ _ b.2 (c.initial.ensures b.0) c.all_if.ensures (c.marks_start.ensures t) law.initial_under c.mark.ensures
