-- A task of one atom and no action, of any height: so many empty macro layers on a bottom.
use Rattle.std.specs.Prelude.{ℕ, zero, suc, [], None}
use Rattle.planning.specs.Sets.{none}
use Rattle.planning.specs.Tasks.{Task}
use Rattle.planning.specs.Bottoms.{Row, flat_task}
use Rattle.planning.specs.Piles.{Pile, bare, macros}

abbrev pub tall : ℕ → Task
tall h = record {
  atoms = 1;
  actions = 0;
  initial = none;
  goal = none;
  needs = λ a. none;
  deletes = λ a. none;
  adds = λ a. none;
  kind = λ a. 65535;
  base_steps = λ a. [];
  parts = λ a. None;
  height = h;
  first_height = λ p. 0;
}

abbrev pub no_row : ℕ → Row
no_row a = record { needs = none; deletes = none; adds = none; kind = 0 }

abbrev pub stacked : ℕ → Pile
stacked zero = bare (flat_task 1 0 none none no_row)
stacked (suc h) = macros (stacked h) 0 []
