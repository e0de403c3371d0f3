-- The pile of the worked orders: the bench under two rules, and load-keys joined with align as action 6 on them.
use Rattle.std.specs.Prelude.{[], ◌∷◌, false}
use Rattle.planning.specs.Piles.{Pile, bare, ruled, macros}
use Rattle.planning.specs.declared.join.Join.{Join}
use Rattle.planning.specs.declared.rule.Rule.{Rule}
use Rattle.planning.specs.declared.rule.RuleSort.TheVariants.{Successor, Predecessor}
use Rattle.pad.specs.Bench.{bench}

-- load-keys uses on only as reset left it
abbrev pub reset_first : Rule
reset_first = record { sort = Predecessor; first = 4; second = 1; strict = false }

-- of what align left, seal alone makes use
abbrev pub align_for_seal : Rule
align_for_seal = record { sort = Successor; first = 2; second = 3; strict = false }

abbrev pub prepare : Join
prepare = record { first = 1; second = 2; kind = 6 }

abbrev pub ruled_bench : Pile
ruled_bench = ruled (ruled (bare bench) 5 reset_first (0 ∷ [])) 6 align_for_seal (2 ∷ [])

abbrev pub service_pile : Pile
service_pile = macros ruled_bench 6 (prepare ∷ [])
