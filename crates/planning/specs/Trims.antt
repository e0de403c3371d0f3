-- A plan trimmed: the earliest step that can be left out is, again and again, until there is none.
use Rattle.std.specs.Prelude.{ℕ, zero, suc, ◌<◌, Bool, List, [], ◌∷◌, length, is_ok, Some, None, Option, slice_index}
use Rattle.planning.specs.Sets.{lowest}
use Rattle.planning.specs.Tasks.{Task, Solves}
use Rattle.planning.specs.Edits.{splice}
use Rattle.planning.specs.Verdicts.{judged}

-- the plan without the step at an index, which counts from 0
abbrev pub left_out : List ℕ → ℕ → List ℕ
left_out plan i = splice plan i 1 []

-- without that step the plan is still accepted
abbrev pub can_strike : Task → List ℕ → ℕ → Bool
can_strike t plan i = is_ok (judged t (left_out plan i))

-- the earliest such step
abbrev pub strikable : Task → List ℕ → Option ℕ
strikable t plan = lowest (can_strike t plan) (length plan)

-- a plan, and the actions that left
pub record Trim : Type 0 where
  pub plan : List ℕ
  pub gone : List ℕ

abbrev pub trim_at : List ℕ → (List ℕ → Trim) → Option ℕ → Trim
trim_at plan again None = record { plan = plan; gone = [] }
trim_at plan again (Some i) = record { plan = (again (left_out plan i)).plan; gone = slice_index plan i ∷ (again (left_out plan i)).gone }

-- n times at most
abbrev pub trim_by : ℕ → Task → List ℕ → Trim
trim_by zero t plan = record { plan = plan; gone = [] }
trim_by (suc n) t plan = trim_at plan (trim_by n t) (strikable t plan)

abbrev pub trimmed : Task → List ℕ → Trim
trimmed t plan = trim_by (length plan) t plan

-- no step of the plan can be left out
abbrev pub Spare : Task → List ℕ → Type 0
Spare t plan = (i : ℕ) → i < length plan → Solves t (left_out plan i) → ⊥

-- what a trim is for: a plan that solves the task still does, and then no step can be left out
pub record Trims (t : Task) (plan left : List ℕ) : Type 0 where
  pub solves : Solves t plan → Solves t left
  pub spare : Spare t left
