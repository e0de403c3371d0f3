-- The first word that is not 0 has the lowest atom.
use Rattle.std.proofs.Common.{rules, ◌≡◌, ◌≢◌, ℕ, ◌+◌, ◌*◌, ◌/◌, ◌^◌, ◌<◌, Some, sym, ◌∙◌, arith}
use lib.Count.{count_trailing_zeros}
use Rattle.planning.specs.Sets.{lowest}
use Rattle.planning.proofs.Counts.{lowest_none}
use Rattle.atoms.specs.declared.set.Atoms.{Atoms}
use Rattle.atoms.specs.Has.{has}
use Rattle.atoms.proofs.Digits.{trailing_lowest}
use Rattle.atoms.proofs.Sets.{word, no_word, lowest_at}
use Rattle.atoms.proofs.set.Atoms.lowest.Goals as goal

first_word : (a : Atoms) (i : ℕ) → i < 5 → word a i ≢ 0 → word a i < 2 ^ 64 → ((k : ℕ) → k < i → word a k ≡ 0)
    → Some (i * 64 + count_trailing_zeros 64 (word a i)) ≡ lowest (has a) 320
first_word a i within here fits before =
    sym (lowest_at a i _ within (trailing_lowest 64 (word a i) (omega (arith, here)) fits) (λ p h. no_word a p (λ _. before (p / 64) (omega arith))))

pub returns-in_err-i : goal.returns-in_err-i
returns-in_err-i c =
    let a = c.args.self in
    let none : (k : ℕ) → k < 5 → word a k ≡ 0 = search rules in
    c.from_residual.ensures ∙ sym (lowest_none (has a) 320 (λ p _. no_word a p (λ h. none (p / 64) (omega arith))))

pub returns : goal.returns
returns c = first_word c.args.self c.in_ok-i.i (search rules) (search rules) (search rules) (search rules)
