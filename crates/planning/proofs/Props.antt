-- A pile is built in one way at most, so that a ghost field may say it, also of what lies on another pile: `by { kept_prop _ _ }`.
use Rattle.std.proofs.Props.{props}
use mathlib.Core.HLevel.{Π_prop}
use Rattle.planning.specs.Piles.{Pile, bare, ruled, macros, Built}

pub built_prop : (p : Pile) → IsProp (Built p)
built_prop (bare t) = hlevel props
built_prop (ruled p n rule listed) = hlevel (props, built_prop p)
built_prop (macros p n rows) = hlevel (props, built_prop p)

-- built if another pile is: in one way at most too
pub kept_prop : (p q : Pile) → IsProp (Built p → Built q)
kept_prop p q = Π_prop λ _. built_prop q
