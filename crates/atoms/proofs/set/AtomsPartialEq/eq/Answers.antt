-- Sets that are subsets of one another have the same atoms, and no set has one from 320 on.
use Rattle.std.specs.Bool.{one_answer}
use Rattle.std.proofs.Common.{sym, ◌∙◌}
use Rattle.std.proofs.lemmas.Bool.{true≢false}
use Rattle.atoms.specs.Has.{has}
use Rattle.planning.specs.Sets.{same_below}
use Rattle.planning.proofs.Same.{subsets_decide}
use Rattle.atoms.proofs.Sets.{has_under}
use Rattle.atoms.proofs.set.AtomsPartialEq.eq.Goals as goal

pub returns-then-is_subset-clause-computed : goal.returns-then-is_subset-clause-computed
returns-then-is_subset-clause-computed c =
    let a = c.args.self.now in
    let b = c.args.other.now in
    let here = c.is_subset.ensures.0 c.if-is_subset.true in
    let back = c.is_subset-then-is_subset.ensures in
    one_answer c.is_subset-then-is_subset.result (same_below 320 (has a) (has b)) (λ e. (here, back.0 e), λ h. back.1 h.1)
    (subsets_decide 320 (has a) (has b) (has_under a) (has_under b))

pub returns-else-is_subset-clause-computed : goal.returns-else-is_subset-clause-computed
returns-else-is_subset-clause-computed c =
    let a = c.args.self.now in
    let b = c.args.other.now in
    one_answer c.is_subset.result (same_below 320 (has a) (has b)) (λ e. absurd (true≢false (sym e ∙ c.if-is_subset.false)), λ h. c.is_subset.ensures.1 h.0)
    (subsets_decide 320 (has a) (has b) (has_under a) (has_under b))
