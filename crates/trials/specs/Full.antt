-- The task of n atoms with all of them as its goal: action 0 adds them all, action 1 needs and deletes them all.
use Rattle.std.specs.Prelude.{ℕ, [], ◌∷◌, nat_lt}
use Rattle.planning.specs.Sets.{AtomSet, none}
use Rattle.planning.specs.Tasks.{Task}
use Rattle.planning.specs.Bottoms.{Row, set_at, flat_task}

abbrev pub below : ℕ → AtomSet
below n = λ q. nat_lt q n

-- k is the kind of both actions
abbrev pub full_row : ℕ → ℕ → ℕ → Row
full_row n k a = record {
  needs = set_at (none ∷ below n ∷ []) a;
  deletes = set_at (none ∷ below n ∷ []) a;
  adds = set_at (below n ∷ none ∷ []) a;
  kind = k;
}

abbrev pub full : ℕ → ℕ → Task
full n k = flat_task n 2 none (below n) (full_row n k)
