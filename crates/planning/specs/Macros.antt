-- The task of a macro layer: for each row an action more that joins two.
use Rattle.std.specs.Prelude.{ℕ, ◌+◌, ◌-◌, cond, List, [], ◌∷◌, ◌++◌, length, Some, None, nat_lt, slice_index_or}
use Rattle.planning.specs.Sets.{AtomSet, none, ◌∪◌, ◌∩◌, ◌∖◌, ◌⊆◌}
use Rattle.planning.specs.Tasks.{Task}
use Rattle.planning.specs.Marks.{higher}
use Rattle.planning.specs.declared.join.Join.{Join}

-- what stands past the rows
abbrev pub blank : Join
blank = record { first = 0; second = 0; kind = 0 }

-- old below m, then by the rows, and nothing beyond them
abbrev pub by_row : {X : Type 0} → ℕ → List Join → (ℕ → X) → (Join → X) → X → ℕ → X
by_row m rows old new nothing = λ a.
    cond (nat_lt a m) (old a) (cond (nat_lt (a - m) (length rows)) (new (slice_index_or rows (a - m) blank)) nothing)

-- a and then b as one action: it needs what a needs, and what b needs and a does not add
abbrev pub joined_needs : Task → Join → AtomSet
joined_needs t w = t.needs w.first ∪ t.needs w.second ∖ t.adds w.first

-- it deletes what either deletes
abbrev pub joined_deletes : Task → Join → AtomSet
joined_deletes t w = t.deletes w.first ∪ t.deletes w.second

-- it adds what b adds, and what a adds and b does not delete
abbrev pub joined_adds : Task → Join → AtomSet
joined_adds t w = t.adds w.second ∪ t.adds w.first ∖ t.deletes w.second

-- what stands in the way: what b needs and a deletes without adding it
abbrev pub clash : Task → ℕ → ℕ → AtomSet
clash t a b = t.needs b ∩ (t.deletes a ∖ t.adds a)

abbrev pub Joinable : Task → ℕ → ℕ → Type 0
Joinable t a b = clash t a b ⊆ none

abbrev pub macro_task : Task → List Join → Task
macro_task t rows = record {
  atoms = t.atoms;
  actions = t.actions + length rows;
  initial = t.initial;
  goal = t.goal;
  needs = by_row t.actions rows t.needs (joined_needs t) none;
  deletes = by_row t.actions rows t.deletes (joined_deletes t) none;
  adds = by_row t.actions rows t.adds (joined_adds t) none;
  kind = by_row t.actions rows t.kind (λ w. w.kind) 65535;
  base_steps = by_row t.actions rows t.base_steps (λ w. t.base_steps w.first ++ t.base_steps w.second) [];
  parts = by_row t.actions rows t.parts (λ w. Some (w.first, w.second)) None;
  height = higher t.height;
  first_height = t.first_height;
}

-- both parts in place of a row's action
abbrev pub unfolded : ℕ → List Join → ℕ → List ℕ
unfolded m rows a = by_row m rows (λ c. c ∷ []) (λ w. w.first ∷ w.second ∷ []) (a ∷ []) a

-- a plan written out through a macro layer
abbrev pub spread : ℕ → List Join → List ℕ → List ℕ
spread m rows [] = []
spread m rows (a ∷ r) = unfolded m rows a ++ spread m rows r
