use Rattle.planning.specs.Piles.{meaning}
use Rattle.planning.proofs.Soundness.{built_sound}
use Rattle.layers.proofs.Marking.{mark_is}
use Rattle.layers.proofs.rule_layer.RuleLayerTask.action.Goals as goal

pub returns : goal.returns
returns g c b =
    let l = c.args.self.now in
    let a = c.args.a in
    let t = meaning (g.T.Task.pile l.below) in
    let law = (built_sound (g.T.Task.pile l.below) b.0).lawful in
    let acts = c.action-action.ensures b.0 in
    let marks = c.marks_by-marks.ensures t a acts in
    let is = mark_is t law l.listed.items b.1 l.from in
    record {
      needs_are = is _ _ _ _ _ b.2 acts.needs_are marks.needs_are (law.needs_under a) c.mark.ensures;
      deletes_are = is _ _ _ _ _ b.2 acts.deletes_are marks.deletes_are (law.deletes_under a) c.mark-2.ensures;
      adds_are = is _ _ _ _ _ b.2 acts.adds_are marks.adds_are (law.adds_under a) c.mark-3.ensures;
      kind_is = acts.kind_is;
    }
