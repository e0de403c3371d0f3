-- Places in a plan, which count from 1.
use Rattle.std.specs.Prelude.{ℕ, zero, suc, List, [], take, slice_index}
use Rattle.planning.specs.Sets.{AtomSet}
use Rattle.planning.specs.Tasks.{Task, finally}

-- the steps before a place
abbrev pub before : List ℕ → ℕ → List ℕ
before plan zero = []
before plan (suc i) = take i plan

-- the state that they lead to
abbrev pub state_before : Task → List ℕ → ℕ → AtomSet
state_before t plan place = finally t t.initial (before plan place)

-- the action at a place; 0 where there is no step
abbrev pub action_at : List ℕ → ℕ → ℕ
action_at plan zero = 0
action_at plan (suc i) = slice_index plan i
