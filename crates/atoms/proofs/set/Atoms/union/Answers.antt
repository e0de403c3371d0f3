-- An or of each word is an or of each atom.
use Rattle.std.proofs.Common.{rules, ◌||◌, refl}
use lib.Bits.{bit_or}
use Rattle.atoms.proofs.Digits.{bit-or}
use Rattle.atoms.proofs.Sets.{pointwise}
use Rattle.atoms.proofs.set.Atoms.union.Goals as goal

pub returns : goal.returns
returns c = pointwise bit_or ◌||◌ c.args.self c.args.other c.by_word.result refl (search rules) (λ i k _ _. bit-or _ _ k)
