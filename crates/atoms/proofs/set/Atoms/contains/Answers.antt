-- The digit that is read is the atom's; past 319 there is none.
use Rattle.std.proofs.Common.{eqb, sym, ap, ◌∙◌}
use lib.Bits.{and_mask}
use Rattle.std.proofs.lemmas.Bool.{le-ltb}
use Rattle.atoms.specs.Digits.{bit}
use Rattle.atoms.proofs.Sets.{has_in, has_past, has_under}
use Rattle.atoms.proofs.set.Atoms.contains.Goals as goal

pub returns-then-p-lt320 : goal.returns-then-p-lt320
unfolding bit
returns-then-p-lt320 c =
    record {
      tells = rw c.from.ensures (ap (λ x. eqb x 1) (and_mask _ 1)) ∙ sym (has_in c.args.self c.args.p c.if-p-lt320.true);
      under = has_under c.args.self;
    }

pub returns-else-p-lt320 : goal.returns-else-p-lt320
returns-else-p-lt320 c =
    record {
      tells = le-ltb _ _ c.if-p-lt320.false ∙ sym (has_past c.args.self c.args.p c.if-p-lt320.false);
      under = has_under c.args.self;
    }
