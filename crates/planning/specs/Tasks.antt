-- A planning task, its states, and what it means to solve it.
use Rattle.std.specs.Prelude.{◌≡◌, ℕ, ◌<◌, ◌≤◌, T, List, [], ◌∷◌, ◌++◌, length, Some, None, Option}
use Rattle.planning.specs.Sets.{AtomSet, ◌∪◌, ◌∖◌, ◌⊆◌, Under}

pub record Task : Type 0 where
  -- how many there are: they are numbered from 0
  pub atoms : ℕ
  pub actions : ℕ
  pub initial : AtomSet
  pub goal : AtomSet
  -- of each action: preconditions, negative effects, positive effects
  pub needs : ℕ → AtomSet
  pub deletes : ℕ → AtomSet
  pub adds : ℕ → AtomSet
  pub kind : ℕ → ℕ
  pub base_steps : ℕ → List ℕ
  pub parts : ℕ → Option (ℕ × ℕ)
  pub height : ℕ
  -- the height at which an atom first appeared
  pub first_height : ℕ → ℕ

-- the state after an action: its negative effects are taken out, then its positive ones put in
abbrev pub after : Task → ℕ → AtomSet → AtomSet
after t a s = (s ∖ t.deletes a) ∪ t.adds a

-- the state after a row of actions
abbrev pub finally : Task → AtomSet → List ℕ → AtomSet
finally t s [] = s
finally t s (a ∷ r) = finally t (after t a s) r

-- an action is applicable in a state that contains its preconditions
abbrev pub Applicable : Task → ℕ → AtomSet → Type 0
Applicable t a s = t.needs a ⊆ s

-- each action of the row is known, and applicable in turn
abbrev pub Runs : Task → AtomSet → List ℕ → Type 0
Runs t s [] = Unit {0}
Runs t s (a ∷ r) = (a < t.actions) × Applicable t a s × Runs t (after t a s) r

-- and the last state contains the goal
abbrev pub Reaches : Task → AtomSet → List ℕ → Type 0
Reaches t s [] = t.goal ⊆ s
Reaches t s (a ∷ r) = (a < t.actions) × Applicable t a s × Reaches t (after t a s) r

abbrev pub Solves : Task → List ℕ → Type 0
Solves t plan = Reaches t t.initial plan

-- What every task keeps to: its limits; sets of its own atoms; no, nothing, kind 65,535 or height 0 for a number outside the counts;
-- both parts of an action have lower numbers, and its base steps are the first part's, then the second's.
pub record Lawful (t : Task) : Type 0 where
  pub few_atoms : t.atoms ≤ 320
  pub few_actions : t.actions ≤ 288
  pub low : t.height ≤ 255
  pub initial_under : Under t.atoms t.initial
  pub goal_under : Under t.atoms t.goal
  pub needs_under : (a : ℕ) → Under t.atoms (t.needs a)
  pub deletes_under : (a : ℕ) → Under t.atoms (t.deletes a)
  pub adds_under : (a : ℕ) → Under t.atoms (t.adds a)
  pub needs_known : (a p : ℕ) → T (t.needs a p) → a < t.actions
  pub deletes_known : (a p : ℕ) → T (t.deletes a p) → a < t.actions
  pub adds_known : (a p : ℕ) → T (t.adds a p) → a < t.actions
  pub kind_known : (a : ℕ) → a < t.actions → t.kind a ≤ 65534
  pub kind_unknown : (a : ℕ) → t.actions ≤ a → t.kind a ≡ 65535
  pub base_known : (a : ℕ) → a < t.actions → (1 ≤ length (t.base_steps a)) × (length (t.base_steps a) ≤ 8)
  pub base_unknown : (a : ℕ) → t.actions ≤ a → t.base_steps a ≡ []
  pub parts_unknown : (a : ℕ) → t.actions ≤ a → t.parts a ≡ None
  pub parts_lower : (c a b : ℕ) → t.parts c ≡ Some (a, b) → (a < c) × (b < c)
  pub parts_base : (c a b : ℕ) → t.parts c ≡ Some (a, b) → t.base_steps c ≡ t.base_steps a ++ t.base_steps b
  pub first_known : (p : ℕ) → p < t.atoms → t.first_height p ≤ t.height
  pub first_unknown : (p : ℕ) → t.atoms ≤ p → t.first_height p ≡ 0
