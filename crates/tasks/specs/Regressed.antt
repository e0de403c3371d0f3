-- What the regression of a plan answers: a set, where the plan is possible at all.
use Rattle.std.specs.Prelude.{◌≡◌, ℕ, List, Option, MatchOption}
use Rattle.atoms.specs.Has.{has}
use Rattle.atoms.specs.declared.Atoms.{Atoms}
use Rattle.planning.specs.Sets.{AtomSet}
use Rattle.planning.specs.Tasks.{Task}
use Rattle.planning.specs.Regression.{wanted_before, Spares, wanted, Possible}

-- the set, where P holds
abbrev pub SetIf : Option Atoms → Type 0 → AtomSet → Type 0
SetIf r P s = MatchOption r (P → ⊥) (λ w. P × (has w ≡ s))

abbrev pub WantedBefore : Task → ℕ → AtomSet → Option Atoms → Type 0
WantedBefore t a want r = SetIf r (Spares t a want) (wanted_before t a want)

abbrev pub Wanted : Task → List ℕ → Option Atoms → Type 0
Wanted t plan r = SetIf r (Possible t plan) (wanted t plan)
