-- The last word that is not 0 has the greatest atom.
use Rattle.std.proofs.Common.{rules, ◌≡◌, ◌≢◌, ℕ, ◌+◌, ◌-◌, ◌*◌, ◌/◌, ◌^◌, ◌<◌, Some, sym, ap, ◌∙◌, arith}
use lib.Count.{count_leading_zeros, leading_top}
use Rattle.planning.specs.Sets.{greatest}
use Rattle.planning.proofs.Counts.{greatest_none}
use Rattle.atoms.specs.declared.set.Atoms.{Atoms}
use Rattle.atoms.specs.Has.{has}
use Rattle.atoms.proofs.Sets.{word, no_word, highest_at}
use Rattle.atoms.proofs.set.Atoms.greatest.Goals as goal

last_word : (a : Atoms) (i : ℕ) → i < 5 → word a i ≢ 0 → word a i < 2 ^ 64 → ((k : ℕ) → i < k → k < 5 → word a k ≡ 0)
    → Some (i * 64 + 63 - count_leading_zeros 64 (word a i)) ≡ greatest (has a) 320
last_word a i within here fits past =
    let top = leading_top 64 (word a i) (omega (arith, here)) fits in
    ap Some (omega (arith, top.1))
    ∙ sym (highest_at a i top.0 within (omega (arith, top.1)) top.2 top.3 (λ p h. no_word a p (λ l. past (p / 64) (omega arith) (omega arith))))

pub returns-in_err-i : goal.returns-in_err-i
returns-in_err-i c =
    let a = c.args.self in
    let none : (k : ℕ) → k < 5 → word a k ≡ 0 = search rules in
    c.from_residual.ensures ∙ sym (greatest_none (has a) 320 (λ p _. no_word a p (λ h. none (p / 64) (omega arith))))

pub returns : goal.returns
returns c = last_word c.args.self c.in_ok-i.i (search rules) (search rules) (search rules) (search rules)
