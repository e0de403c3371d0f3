-- An and-not of each word is an and-not of each atom.
use Rattle.std.proofs.Common.{ℕ, ◌-◌, ◌^◌, ◌<◌, not, ◌&&◌, refl, ap, ◌∙◌, rules}
use lib.Bits.{bit_and}
use Rattle.atoms.specs.Digits.{bit}
use Rattle.atoms.proofs.Digits.{bit-and, bit_not}
use Rattle.atoms.proofs.Sets.{word, pointwise}
use Rattle.atoms.proofs.set.Atoms.minus.Goals as goal

pub returns : goal.returns
returns c =
    let a = c.args.self in
    let b = c.args.other in
    let fits : (i : ℕ) → i < 5 → word b i < 2 ^ 64 = search rules in
    pointwise (λ x y. bit_and x ((2 ^ 64 - 1) - y)) (λ x y. x && not y) a b c.by_word.result refl (search rules)
    (λ i k h l. bit-and (word a i) _ k ∙ ap (λ t. bit (word a i) k && t) (bit_not 64 (word b i) k (fits i h) l))
