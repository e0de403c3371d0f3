use Rattle.std.proofs.Common.{[], sym, subst, arith}
use Rattle.planning.specs.Piles.{Built, meaning}
use Rattle.planning.specs.Rows.{MacroRows}
use Rattle.planning.proofs.Empties.{no_macro}
use Rattle.planning.proofs.Soundness.{built_sound}
use Rattle.layers.proofs.macro_layer.MacroLayer.new.Goals as goal

pub invariant_of-result : goal.invariant_of-result
invariant_of-result g c =
    let p = g.T.Task.pile c.args.below in
    let none : Built p → MacroRows (meaning p) [] = λ b. record { each = tt; few = omega arith; room = omega (arith, (built_sound p b).lawful.few_actions) } in
    record { built = λ b. (b, subst (MacroRows (meaning p)) (sym c.new-rows.ensures) (none b), c.actions-from.ensures b) }

pub returns-clause-empty : goal.returns-clause-empty
returns-clause-empty g c b =
    let p = g.T.Task.pile c.args.below in
    rw c.new-rows.ensures (no_macro (meaning p) (built_sound p b).lawful)
