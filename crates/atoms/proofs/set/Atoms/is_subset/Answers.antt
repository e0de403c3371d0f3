-- Of a subset nothing is left.
use Rattle.std.proofs.Common.{sym, ap, ◌∙◌}
use mathlib.Core.Path.{fun_ext}
use Rattle.planning.proofs.Same.{within, without}
use Rattle.atoms.proofs.set.Atoms.is_subset.Goals as goal

pub returns : goal.returns
returns c =
    let left = c.minus.ensures in (
      λ t p. within _ _ (ap (λ f. f p) (sym left ∙ c.is_empty.ensures.0 t)),
      λ all. c.is_empty.ensures.1 (left ∙ fun_ext (λ p. without _ _ (all p))),
    )
