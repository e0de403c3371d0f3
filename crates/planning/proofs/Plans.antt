-- Rows of actions, taken apart by places.
use Rattle.std.proofs.Common.{◌≡◌, ℕ, zero, suc, ◌+◌, ◌<◌, ◌≤◌, List, [], ◌∷◌, ◌++◌, length, get_or, take, refl, ap, ◌∙◌, arith}
use Rattle.std.proofs.lemmas.List.{take_at, get_or_at}
use Rattle.planning.specs.Sets.{AtomSet, ◌⊆◌}
use Rattle.planning.specs.Tasks.{Task, after, finally, Applicable, Runs, Reaches}
use Rattle.planning.specs.Places.{before, action_at}
use Rattle.planning.specs.Piles.{Known}

-- the steps before a place, and the one at it
pub before_is : (plan done rest : List ℕ) (k : ℕ) → plan ≡ done ++ rest → k ≡ length done + 1 → before plan k ≡ done
before_is plan done rest k e l =
    let n : k ≡ suc (length done) = omega arith in
    ap (before plan) n ∙ ap (take (length done)) e ∙ take_at done rest (length done) refl

pub action_is : (plan done rest : List ℕ) (a k : ℕ) → plan ≡ done ++ a ∷ rest → k ≡ length done + 1 → action_at plan k ≡ a
action_is plan done rest a k e l =
    let n : k ≡ suc (length done) = omega arith in
    ap (action_at plan) n ∙ ap (λ x. get_or x (length done) 0) e ∙ get_or_at done a rest 0 (length done) refl

module _ (t : Task) where
  pub finally_push : (s : AtomSet) (done : List ℕ) (a : ℕ) → finally t s (done ++ a ∷ []) ≡ after t a (finally t s done)
  finally_push s [] a = refl
  finally_push s (b ∷ done) a = finally_push (after t b s) done a

  pub runs_push : (s : AtomSet) (done : List ℕ) (a : ℕ) → Runs t s done → a < t.actions → Applicable t a (finally t s done) → Runs t s (done ++ a ∷ [])
  runs_push s [] a h k n = (k, n, tt)
  runs_push s (b ∷ done) a h k n = (h.0, h.1, runs_push (after t b s) done a h.2 k n)

  pub reaches_append : (s : AtomSet) (done rest : List ℕ) → Runs t s done → Reaches t (finally t s done) rest → Reaches t s (done ++ rest)
  reaches_append s [] rest h k = k
  reaches_append s (a ∷ done) rest h k = (h.0, h.1, reaches_append (after t a s) done rest h.2 k)

  -- each step of a row that reaches the goal is known and applicable, and its last state contains the goal
  pub reaches_index : (s : AtomSet) (plan : List ℕ) (i : ℕ) → Reaches t s plan → i < length plan
      → (get_or plan i 0 < t.actions) × Applicable t (get_or plan i 0) (finally t s (take i plan))
  reaches_index s [] i h l = absurd (omega arith)
  reaches_index s (a ∷ plan) zero h l = (h.0, h.1)
  reaches_index s (a ∷ plan) (suc i) h l = reaches_index (after t a s) plan i h.2 (omega arith)

  pub reaches_at : (s : AtomSet) (plan : List ℕ) (k : ℕ) → Reaches t s plan → 1 ≤ k → k ≤ length plan
      → (action_at plan k < t.actions) × Applicable t (action_at plan k) (finally t s (before plan k))
  reaches_at s plan zero h l m = absurd (omega arith)
  reaches_at s plan (suc i) h l m = reaches_index s plan i h (omega arith)

  pub reaches_goal : (s : AtomSet) (plan : List ℕ) → Reaches t s plan → t.goal ⊆ finally t s plan
  reaches_goal s [] h = h
  reaches_goal s (a ∷ plan) h = reaches_goal (after t a s) plan h.2

  pub reaches_known : (s : AtomSet) (plan : List ℕ) → Reaches t s plan → Known t plan
  reaches_known s [] h = tt
  reaches_known s (a ∷ plan) h = (h.0, reaches_known (after t a s) plan h.2)
