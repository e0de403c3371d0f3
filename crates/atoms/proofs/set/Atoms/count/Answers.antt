-- The ones of a word are its atoms.
use Rattle.std.proofs.Common.{rules, ◌≡◌, ℕ, ◌^◌, ◌<◌, length, arith, ◌∙◌}
use Rattle.std.specs.Prelude.{sum_by}
use lib.Count.{ones}
use Rattle.atoms.specs.Has.{has}
use Rattle.planning.proofs.Counts.{count_le}
use Rattle.atoms.proofs.Sets.{word, count_words}
use Rattle.atoms.proofs.set.Atoms.count.Goals as goal

pub sum-requires-clause-fits : goal.sum-requires-clause-fits
sum-requires-clause-fits c =
    let a = c.args.self in
    let long : length a.words ≡ 5 = search rules in
    let fits : (i : ℕ) → i < 5 → word a i < 2 ^ 64 = search rules in
    let small : sum_by ones a.words < 2 ^ 16 = omega (arith, count_words a long fits, count_le (has a) 320) in
    search (rules, small)

pub returns : goal.returns
returns c =
    let a = c.args.self in
    let long : length a.words ≡ 5 = search rules in
    let fits : (i : ℕ) → i < 5 → word a i < 2 ^ 64 = search rules in
    let total : c.sum.result ≡ sum_by ones a.words = search rules in
    total ∙ count_words a long fits
