-- What a plan handed in gets: acceptance, or the fault of the first step that fails, or of the goal.
use Rattle.std.specs.Prelude.{◌≡◌, ℕ, ◌+◌, ◌<◌, ◌≤◌, cond, T, List, [], ◌∷◌, length, Some, None, Ok, Err, Option, Result, nat_le, nat_lt}
use Rattle.planning.specs.Sets.{AtomSet, ◌∖◌, count, lowest}
use Rattle.planning.specs.Tasks.{Task, after, finally, Runs, Solves}
use Rattle.planning.specs.Places.{before, state_before, action_at}
use Rattle.planning.specs.Faults.{at_place}
use Rattle.planning.specs.declared.fault.Fault.{Fault}
use Rattle.planning.specs.declared.refusal.Refusal.{Refusal}
use Rattle.planning.specs.declared.refusal.Refusal.TheVariants.{TooManySteps, UnknownAction, NotApplicable, GoalNotMet}

abbrev pub Verdict : Type 0
Verdict = Result (Unit {0}) Fault

abbrev pub on_ok : {X Y E : Type 0} → (X → Y) → Result X E → Result Y E
on_ok f (Ok x) = Ok (f x)
on_ok f (Err e) = Err e

-- what comes after an `Ok`
abbrev pub and_then : {X Y E : Type 0} → Result X E → (X → Result Y E) → Result Y E
and_then (Ok x) f = f x
and_then (Err e) f = Err e

-- the fault of a place where atoms are missing, of which p is the lowest
abbrev pub lack : Task → Refusal → ℕ → AtomSet → ℕ → Fault
lack t refusal place missing p = record { refusal = refusal; place = place; atom = p; missing = count missing t.atoms; layer = t.first_height p }

abbrev pub lacks_at : Task → Refusal → ℕ → AtomSet → Option ℕ → Verdict
lacks_at t refusal place missing None = Ok tt
lacks_at t refusal place missing (Some p) = Err (lack t refusal place missing p)

-- refused where a needed atom is missing from the state
abbrev pub lacks : Task → Refusal → ℕ → AtomSet → AtomSet → Verdict
lacks t refusal place need state = lacks_at t refusal place (need ∖ state) (lowest (need ∖ state) t.atoms)

-- the state after the action at a place, or why there is none
abbrev pub stepped : Task → ℕ → ℕ → AtomSet → Result AtomSet Fault
stepped t place a state =
    cond (nat_lt 256 place) (Err (at_place TooManySteps place))
    (cond (nat_le t.actions a) (Err (at_place UnknownAction place))
    (and_then (lacks t NotApplicable place (t.needs a) state) (λ _. Ok (after t a state))))

-- the steps from a place on, then the goal
abbrev pub judged_from : Task → ℕ → AtomSet → List ℕ → Verdict
judged_from t place state [] = lacks t GoalNotMet place t.goal state
judged_from t place state (a ∷ rest) = and_then (stepped t place a state) (λ next. judged_from t (place + 1) next rest)

abbrev pub judged : Task → List ℕ → Verdict
judged t plan = judged_from t 1 t.initial plan

-- the fault names the lowest needed atom that the state lacks, how many it lacks, and the height at which that atom first appeared
pub record Lacking (t : Task) (need state : AtomSet) (f : Fault) : Type 0 where
  pub needed : T (need f.atom)
  pub absent : T (state f.atom) → ⊥
  pub lower : (p : ℕ) → p < f.atom → T (need p) → T (state p)
  pub counted : f.missing ≡ count (need ∖ state) t.atoms
  pub layered : f.layer ≡ t.first_height f.atom

-- why a plan is refused at the fault's place
pub data Reason (t : Task) (plan : List ℕ) (f : Fault) : Type 0 where
  too_long : 256 < length plan → f ≡ at_place TooManySteps 257 → Reason t plan f
  unknown : f.place ≤ 256 → f.place ≤ length plan → t.actions ≤ action_at plan f.place → f ≡ at_place UnknownAction f.place → Reason t plan f
  inapplicable : f.place ≤ 256 → f.place ≤ length plan → action_at plan f.place < t.actions
      → Lacking t (t.needs (action_at plan f.place)) (state_before t plan f.place) f → f.refusal ≡ NotApplicable → Reason t plan f
  goal_missed : length plan ≤ 256 → f.place ≡ length plan + 1 → Lacking t t.goal (finally t t.initial plan) f → f.refusal ≡ GoalNotMet → Reason t plan f

pub record Refused (t : Task) (plan : List ℕ) (f : Fault) : Type 0 where
  pub from_one : 1 ≤ f.place
  -- every earlier step is known, and applicable in turn
  pub earlier : Runs t t.initial (before plan f.place)
  pub reason : Reason t plan f

-- what a verdict says of a plan
abbrev pub Means : Task → List ℕ → Verdict → Type 0
Means t plan (Ok u) = (length plan ≤ 256) × Solves t plan
Means t plan (Err f) = Refused t plan f
