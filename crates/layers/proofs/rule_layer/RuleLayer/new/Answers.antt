use Rattle.std.proofs.Common.{[], sym, subst, arith}
use Rattle.planning.specs.Marks.{marks_of}
use Rattle.planning.specs.Piles.{Built, meaning}
use Rattle.planning.specs.Rows.{RuleRows}
use Rattle.planning.proofs.Empties.{no_rule}
use Rattle.planning.proofs.Soundness.{built_sound}
use Rattle.layers.proofs.rule_layer.RuleLayer.new.Goals as goal

pub invariant_of-result : goal.invariant_of-result
invariant_of-result g c =
    let p = g.T.Task.pile c.args.below in
    let none : Built p → RuleRows (meaning p) [] = λ b. record {
      known = tt;
      rising = λ i j l m. absurd (omega arith);
      few = omega arith;
      room = omega (arith, (built_sound p b).lawful.few_atoms);
    } in
    record { built = λ b. (b, subst (RuleRows (meaning p)) (sym c.new-listed.ensures) (none b), c.atoms-from.ensures b) }

pub returns-clause-empty : goal.returns-clause-empty
returns-clause-empty g c b =
    let p = g.T.Task.pile c.args.below in
    rw c.new-listed.ensures (no_rule (meaning p) (marks_of (meaning p) c.args.rule) (built_sound p b).lawful)
