-- The pass over a plan by states, where it is known of each step what the rest behind it wants.
use Rattle.std.proofs.Common.{◌≡◌, ℕ, ◌+◌, ◌<◌, ◌≤◌, true, false, List, [], ◌∷◌, ◌++◌, length, get_or, take, drop, Some, None, Decides, Option, sym, refl, ap, ◌∙◌, subst, ⊎_elim, arith, MatchOption}
use Rattle.std.proofs.lemmas.List.{take_more}
use Rattle.std.proofs.lemmas.Bool.{cases_eq, cases_order}
use Rattle.atoms.specs.Has.{has}
use Rattle.atoms.specs.declared.Atoms.{Atoms}
use Rattle.planning.specs.Sets.{AtomSet, ◌⊆◌}
use Rattle.planning.specs.Tasks.{Task, Lawful, after, finally, Applicable, Runs, Reaches}
use Rattle.planning.specs.Trims.{can_strike, strikable}
use Rattle.planning.proofs.Counts.{lowest_none, lowest_some}
use Rattle.planning.proofs.Plans.{finally_push, runs_push}
use Rattle.planning.proofs.Strikes.{can_strike_from, can_strike_only, can_strike_late}
use Rattle.tasks.specs.Regressed.{Wanted}
use Rattle.tasks.proofs.Backwards.{wanted_decides}

-- the steps before an index can be taken, they lead to the state, and none of them can be left out
abbrev pub Passed : Task → List ℕ → AtomSet → ℕ → Type 0
Passed t plan state i =
    Runs t t.initial (take i plan) × (state ≡ finally t t.initial (take i plan)) × ((k : ℕ) → k < i → can_strike t plan k ≡ false)

module _ (t : Task) (law : Lawful t) (plan : List ℕ) (state : AtomSet) (i : ℕ) (l : i < length plan) (passed : Passed t plan state i)
    (want : Option Atoms) (wanted : Wanted t (drop (i + 1) plan) want) where
  -- what is wanted is there, exactly when the rest reaches the goal
  rest_iff : Decides true (MatchOption want ⊥ (λ w. has w ⊆ state)) → Reaches t (finally t t.initial (take i plan)) (drop (i + 1) plan)
  rest_iff d = subst (λ (s : AtomSet). Reaches t s (drop (i + 1) plan)) passed.1 ((wanted_decides t (drop (i + 1) plan) want wanted state).1 (d.0 refl))

  rest_not : Decides false (MatchOption want ⊥ (λ w. has w ⊆ state)) → Reaches t (finally t t.initial (take i plan)) (drop (i + 1) plan) → ⊥
  rest_not d h =
      let z : false ≡ true = d.1 ((wanted_decides t (drop (i + 1) plan) want wanted state).0 (subst (λ (s : AtomSet). Reaches t s (drop (i + 1) plan)) (sym passed.1) h)) in
      let y : ◌≡◌ {A = ℕ} 0 1 = cc in
      omega arith

  pub strike_here : length plan ≤ 256 → Decides true (MatchOption want ⊥ (λ w. has w ⊆ state)) → Some i ≡ strikable t plan
  strike_here m d =
      sym (lowest_some (can_strike t plan) (length plan) i l (can_strike_from t law plan i m l passed.0 (rest_iff d)) passed.2)

  -- what does not serve here
  not_here : Decides false (MatchOption want ⊥ (λ w. has w ⊆ state)) → can_strike t plan i ≡ false
  not_here d = can_strike_only t law plan i (rest_not d)

  pub strike_none : Decides false (MatchOption want ⊥ (λ w. has w ⊆ state)) → (((get_or plan i 0 < t.actions) × Applicable t (get_or plan i 0) state) → ⊥) → None ≡ strikable t plan
  strike_none d never = sym (lowest_none (can_strike t plan) (length plan) (λ k m. ⊎_elim (same k) (⊎_elim (passed.2 k) (λ h. late k h m)) (cases_order k i)))
    where
      same : (k : ℕ) → k ≡ i → can_strike t plan k ≡ false
      same k e = ap (can_strike t plan) e ∙ not_here d

      late : (k : ℕ) → i < k → k < length plan → can_strike t plan k ≡ false
      late = can_strike_late t law plan i (λ h. never (h.0, subst (Applicable t (get_or plan i 0)) (sym passed.1) h.1))

  pub passed_more : Decides false (MatchOption want ⊥ (λ w. has w ⊆ state)) → get_or plan i 0 < t.actions → Applicable t (get_or plan i 0) state → Passed t plan (after t (get_or plan i 0) state) (i + 1)
  passed_more d known can =
      let a = get_or plan i 0 in
      let more : take (i + 1) plan ≡ take i plan ++ a ∷ [] = take_more plan i 0 l in (
        subst (Runs t t.initial) (sym more) (runs_push t t.initial (take i plan) a passed.0 known (subst (Applicable t a) passed.1 can)),
        ap (after t a) passed.1 ∙ sym (finally_push t t.initial (take i plan) a) ∙ ap (finally t t.initial) (sym more),
        λ k m. ⊎_elim (λ e. ap (can_strike t plan) e ∙ not_here d) (λ e. passed.2 k (omega arith)) (cases_eq k i),
      )

pub strike_never : (t : Task) (plan : List ℕ) (state : AtomSet) (i : ℕ) → length plan ≤ i → Passed t plan state i → None ≡ strikable t plan
strike_never t plan state i l passed = sym (lowest_none (can_strike t plan) (length plan) (λ k m. passed.2 k (omega arith)))
