-- Bottoms: tasks with no layers below them.
use Rattle.std.specs.Prelude.{◌≡◌, ℕ, ◌<◌, ◌≤◌, cond, List, [], ◌∷◌, None, nat_lt, slice_index_or}
use Rattle.planning.specs.Sets.{AtomSet, none, Under}
use Rattle.planning.specs.Tasks.{Task, Lawful}

-- height 0, and each action has no parts and itself as its only base step
pub record Bottom (t : Task) : Type 0 where
  pub lawful : Lawful t
  pub ground : t.height ≡ 0
  pub alone : (a : ℕ) → a < t.actions → t.base_steps a ≡ a ∷ []
  pub whole : (a : ℕ) → t.parts a ≡ None

-- what one action of a bottom is
pub record Row : Type 0 where
  pub needs : AtomSet
  pub deletes : AtomSet
  pub adds : AtomSet
  pub kind : ℕ

pub record RowUnder (n : ℕ) (row : Row) : Type 0 where
  pub needs_under : Under n row.needs
  pub deletes_under : Under n row.deletes
  pub adds_under : Under n row.adds
  pub kind_fits : row.kind ≤ 65534

-- a set for each action of a list, and none beyond it
abbrev pub set_at : List AtomSet → ℕ → AtomSet
set_at sets a = slice_index_or sets a none

-- n atoms and m actions, given by rows
abbrev pub flat_task : ℕ → ℕ → AtomSet → AtomSet → (ℕ → Row) → Task
flat_task n m initial goal row = record {
  atoms = n;
  actions = m;
  initial = initial;
  goal = goal;
  needs = λ a. cond (nat_lt a m) (row a).needs none;
  deletes = λ a. cond (nat_lt a m) (row a).deletes none;
  adds = λ a. cond (nat_lt a m) (row a).adds none;
  kind = λ a. cond (nat_lt a m) (row a).kind 65535;
  base_steps = λ a. cond (nat_lt a m) (a ∷ []) [];
  parts = λ a. None;
  height = 0;
  first_height = λ p. 0;
}
