use Rattle.std.proofs.Common.{◌∙◌, arith}
use Rattle.atoms.specs.Has.{has}
use Rattle.planning.specs.Piles.{meaning}
use Rattle.planning.proofs.Soundness.{built_sound}
use Rattle.layers.proofs.Joined.{clash_is, row_clash, row_free}
use Rattle.layers.proofs.macro_layer.MacroLayer.check.Goals as goal

pub returns-in-Some-clause-exact : goal.returns-in-Some-clause-exact
returns-in-Some-clause-exact g c b =
    let l = c.args.self.now in
    let p = g.T.Task.pile l.below in
    let m = c.actions-m.ensures b in
    rw c.at_place-in-Some.ensures
    (row_clash (meaning p) (built_sound p b).lawful l.rows.items c.args.row (has c.clash-atoms.result) (omega arith) (omega arith) (omega arith)
    (clash_is (meaning p) _ _ _ _ _ (c.action.ensures b) (c.action-2.ensures b) c.clash-atoms.ensures)
    c.in-Some.atom c.first_height.result c.in-Some.ensures (c.first_height.ensures b))

pub returns-clause-exact : goal.returns-clause-exact
returns-clause-exact g c b =
    let l = c.args.self.now in
    let p = g.T.Task.pile l.below in
    let m = c.actions-m.ensures b in
    c.check_room.ensures.exact b
    ∙ row_free (meaning p) (built_sound p b).lawful l.rows.items c.args.row (has c.clash-atoms.result) (omega arith) (omega arith) (omega arith)
    (clash_is (meaning p) _ _ _ _ _ (c.action.ensures b) (c.action-2.ensures b) c.clash-atoms.ensures) c.in_default.ensures
