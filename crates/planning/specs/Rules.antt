-- The rules of the layers, by the steps of a plan that achieve an atom for others.
use Rattle.std.specs.Prelude.{◌≡◌, ℕ, ◌<◌, ◌≤◌, Bool, T, List, length, ◌≢◌, slice_index}
use Rattle.planning.specs.Tasks.{Task, finally}
use Rattle.planning.specs.Places.{action_at, state_before}
use Rattle.planning.specs.declared.rule.Rule.{Rule}
use Rattle.planning.specs.declared.rule.RuleSort.{RuleSort}
use Rattle.planning.specs.declared.rule.RuleSort.TheVariants.{Successor, Predecessor}

-- the step at place i achieves p for the later one at place j: it adds p, the later one needs p, and no step between them adds p
pub record Achieves (t : Task) (plan : List ℕ) (i j p : ℕ) : Type 0 where
  pub from_one : 1 ≤ i
  pub earlier : i < j
  pub within : j ≤ length plan
  pub added : T (t.adds (action_at plan i) p)
  pub needed : T (t.needs (action_at plan j) p)
  pub between : (k : ℕ) → i < k → k < j → T (t.adds (action_at plan k) p) → ⊥

-- the step at place i is the last that adds p
pub record LastAdds (t : Task) (plan : List ℕ) (i p : ℕ) : Type 0 where
  pub from_one : 1 ≤ i
  pub within : i ≤ length plan
  pub added : T (t.adds (action_at plan i) p)
  pub later : (k : ℕ) → i < k → k ≤ length plan → T (t.adds (action_at plan k) p) → ⊥

-- the step at place j uses p, which has held since the start with no step adding it
pub record UsesFromStart (t : Task) (plan : List ℕ) (j p : ℕ) : Type 0 where
  pub from_one : 1 ≤ j
  pub within : j ≤ length plan
  pub needed : T (t.needs (action_at plan j) p)
  pub held : (k : ℕ) → 1 ≤ k → k ≤ j → T (state_before t plan k p)
  pub unadded : (k : ℕ) → 1 ≤ k → k < j → T (t.adds (action_at plan k) p) → ⊥

-- p is one of the listed atoms
abbrev pub Listed : List ℕ → ℕ → Type 0
Listed listed p = (k : ℕ) × (k < length listed) × (slice_index listed k ≡ p)

-- If a step of kind o1 achieves a listed p for a later step, that one is of kind o2.
-- Strict: also, no listed p in the last state was last added by kind o1.
pub record SuccessorRule (t : Task) (o1 o2 : ℕ) (strict : Bool) (listed plan : List ℕ) : Type 0 where
  pub served : (p i j : ℕ) → Listed listed p → Achieves t plan i j p → t.kind (action_at plan i) ≡ o1 → t.kind (action_at plan j) ≡ o2
  pub last : T strict → (p i : ℕ) → Listed listed p → T (finally t t.initial plan p) → LastAdds t plan i p → t.kind (action_at plan i) ≢ o1

-- If a step achieves a listed p for one of kind o2, the achiever is of kind o1.
-- Strict: also, kind o2 never uses a listed p that has held since the start with no step adding it.
pub record PredecessorRule (t : Task) (o1 o2 : ℕ) (strict : Bool) (listed plan : List ℕ) : Type 0 where
  pub served : (p i j : ℕ) → Listed listed p → Achieves t plan i j p → t.kind (action_at plan j) ≡ o2 → t.kind (action_at plan i) ≡ o1
  pub fresh : T strict → (p j : ℕ) → Listed listed p → UsesFromStart t plan j p → t.kind (action_at plan j) ≢ o2

abbrev pub KeepsBy : RuleSort → Task → ℕ → ℕ → Bool → List ℕ → List ℕ → Type 0
KeepsBy Successor = SuccessorRule
KeepsBy Predecessor = PredecessorRule

-- the plan keeps the rule for the listed atoms
abbrev pub KeepsRule : Task → Rule → List ℕ → List ℕ → Type 0
KeepsRule t rule listed plan = KeepsBy rule.sort t rule.first rule.second rule.strict listed plan
