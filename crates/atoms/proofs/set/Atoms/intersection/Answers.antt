-- An and of each word is an and of each atom.
use Rattle.std.proofs.Common.{rules, ◌&&◌, refl}
use lib.Bits.{bit_and}
use Rattle.atoms.proofs.Digits.{bit-and}
use Rattle.atoms.proofs.Sets.{pointwise}
use Rattle.atoms.proofs.set.Atoms.intersection.Goals as goal

pub returns : goal.returns
returns c = pointwise bit_and ◌&&◌ c.args.self c.args.other c.by_word.result refl (search rules) (λ i k _ _. bit-and _ _ k)
