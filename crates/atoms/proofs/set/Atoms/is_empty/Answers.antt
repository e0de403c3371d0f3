-- A set with no lowest atom has none.
use Rattle.std.proofs.Common.{not, is_some, sym, ap, ◌∙◌, ⊎_elim}
use mathlib.Core.Path.{fun_ext}
use Rattle.std.proofs.lemmas.Bool.{cases_lt, not-false}
use Rattle.atoms.specs.Has.{has}
use Rattle.planning.proofs.Counts.{lowest_none, lowest_empty}
use Rattle.atoms.proofs.Sets.{has_past}
use Rattle.atoms.proofs.set.Atoms.is_empty.Goals as goal

pub returns : goal.returns
returns c =
    let a = c.args.self in
    let same = ap is_some (sym c.lowest.ensures) ∙ c.is_none.ensures in (
      λ t. fun_ext (λ p. ⊎_elim (lowest_empty (has a) 320 (same ∙ ap not t) p) (has_past a p) (cases_lt p 320)),
      λ none. not-false _ (sym same ∙ ap is_some (lowest_none (has a) 320 (λ k _. ap (λ f. f k) none))),
    )
