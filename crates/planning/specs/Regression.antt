-- What a row of actions wants of the state that it starts in.
use Rattle.std.specs.Prelude.{ℕ, ◌<◌, List, [], ◌∷◌}
use Rattle.planning.specs.Sets.{AtomSet, ◌∪◌, ◌∩◌, ◌∖◌, ◌⊆◌}
use Rattle.planning.specs.Tasks.{Task}

-- what is wanted before an action: what it needs, and what is wanted after it and it does not add
abbrev pub wanted_before : Task → ℕ → AtomSet → AtomSet
wanted_before t a want = t.needs a ∪ (want ∖ t.adds a)

-- the action is known, and deletes nothing that is wanted after it, unless it adds it again
abbrev pub Spares : Task → ℕ → AtomSet → Type 0
Spares t a want = (a < t.actions) × ((want ∩ t.deletes a) ⊆ t.adds a)

abbrev pub wanted : Task → List ℕ → AtomSet
wanted t [] = t.goal
wanted t (a ∷ r) = wanted_before t a (wanted t r)

abbrev pub Possible : Task → List ℕ → Type 0
Possible t [] = Unit {0}
Possible t (a ∷ r) = Spares t a (wanted t r) × Possible t r
