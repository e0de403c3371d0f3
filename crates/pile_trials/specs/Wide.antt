-- The task of n actions and two atoms: atom 0 is initial, atom 1 is the goal, and each action needs atom 0 and adds both.
use Rattle.std.specs.Prelude.{ℕ}
use Rattle.planning.specs.Sets.{none, only, ◌∪◌}
use Rattle.planning.specs.Tasks.{Task}
use Rattle.planning.specs.Bottoms.{Row, flat_task}

abbrev pub wide_row : ℕ → Row
wide_row a = record { needs = only 0; deletes = none; adds = only 0 ∪ only 1; kind = a }

abbrev pub wide : ℕ → Task
wide n = flat_task 2 n (only 0) (only 1) wide_row
