-- The verdict on a plan says what it should: accepted exactly when at most 256 steps solve the task, and refused with the first fault.
use Rattle.std.proofs.Common.{◌≡◌, ℕ, suc, ◌+◌, ◌<◌, ◌≤◌, ltb, leb, List, [], ◌∷◌, ◌++◌, length, is_ok, Ok, Err, Decides, Result, sym, refl, ap, ◌∙◌, subst, arith, length-append, MatchResult}
use Rattle.std.proofs.lemmas.List.{append-nil, append_assoc, length_push}
use Rattle.std.proofs.lemmas.Bool.{cond_both, false≢true, ltb-true, ltb-false, leb-true, leb-false}
use Rattle.planning.specs.Sets.{AtomSet, ◌∖◌, ◌⊆◌, Under}
use Rattle.planning.specs.Tasks.{Task, Lawful, after, finally, Runs, Solves}
use Rattle.planning.specs.Places.{before, action_at, state_before}
use Rattle.planning.specs.Faults.{at_place}
use Rattle.planning.specs.Verdicts.{Verdict, and_then, lacks_at, lacks, judged_from, judged, Lacking, Reason, too_long, unknown, inapplicable, goal_missed, Refused, Means}
use Rattle.planning.specs.declared.fault.Fault.{Fault}
use Rattle.planning.specs.declared.refusal.Refusal.{Refusal}
use Rattle.planning.specs.declared.refusal.Refusal.TheVariants.{TooManySteps, UnknownAction, NotApplicable, GoalNotMet}
use Rattle.planning.proofs.Counts.{lowest_elim}
use Rattle.planning.proofs.Plans.{before_is, action_is, finally_push, runs_push, reaches_append, reaches_at, reaches_goal}

-- what `lacks` says: nothing is missing, or the fault names it
abbrev Tells : Task → Refusal → ℕ → AtomSet → AtomSet → Verdict → Type 0
Tells t refusal place need state v = MatchResult v (λ _. need ⊆ state) (λ f. (f.refusal ≡ refusal) × (f.place ≡ place) × Lacking t need state f)

lacks_tells : (t : Task) (refusal : Refusal) (place : ℕ) (need state : AtomSet) → Under t.atoms need
    → Tells t refusal place need state (lacks t refusal place need state)
lacks_tells t refusal place need state under = lowest_elim (need ∖ state) t.atoms (λ o. Tells t refusal place need state (lacks_at t refusal place (need ∖ state) o))
    (λ none p n. grind (arith, none p (under p n)))
    (λ p l e u. (refl, refl, record { needed = grind arith; absent = λ s. grind arith; lower = λ k l n. grind (arith, u k l); counted = refl; layered = refl }))

module _ (t : Task) (law : Lawful t) where
  -- the verdict on the steps that are left of a plan, after some that are applicable in turn
  means_from : (plan done rest : List ℕ) (place : ℕ) (s : AtomSet) → plan ≡ done ++ rest → place ≡ length done + 1 → s ≡ finally t t.initial done
      → length done ≤ 256 → Runs t t.initial done → Means t plan (judged_from t place s rest)
  means_from plan done [] place s e at st short runs =
      go (lacks t GoalNotMet place t.goal s) (lacks_tells t GoalNotMet place t.goal s law.goal_under)
    where
      all : plan ≡ done
      all = e ∙ append-nil done

      go : (v : Verdict) → Tells t GoalNotMet place t.goal s v → Means t plan v
      go (Ok u) h = (
        omega (arith, ap length all),
        subst (Solves t) (sym e) (reaches_append t t.initial done [] runs (subst (λ (x : AtomSet). t.goal ⊆ x) st h)),
      )
      go (Err f) h =
          let here : f.place ≡ length done + 1 = h.1 ∙ at in
          record {
            from_one = omega arith;
            earlier = rw (before_is plan done [] f.place e here) runs;
            reason = goal_missed (omega (arith, ap length all)) (omega (arith, ap length all))
                (subst (λ (x : AtomSet). Lacking t t.goal x f) (st ∙ ap (finally t t.initial) (sym all)) h.2) h.0;
          }
  means_from plan done (a ∷ rest) place s e at st short runs =
      cond_both (ltb 256 place) (Err (at_place TooManySteps place)) _ Here
      (λ p. too_many (ltb-true 256 place p))
      (λ p. cond_both (leb t.actions a) (Err (at_place UnknownAction place)) _ Here
      (λ q. no_action (ltb-false 256 place p) (leb-true t.actions a q))
      (λ q. taken (ltb-false 256 place p) (leb-false t.actions a q) (lacks t NotApplicable place (t.needs a) s) (lacks_tells t NotApplicable place (t.needs a) s (law.needs_under a))
      (means_from plan (done ++ a ∷ []) rest (place + 1) (after t a s) (e ∙ sym (append_assoc done (a ∷ []) rest)) (ap (λ n. n + 1) (at ∙ sym (length_push done a))) (ap (after t a) st ∙ sym (finally_push t t.initial done a)))))
    where
      size : length plan ≡ length done + suc (length rest)
      size = ap length e ∙ length-append done (a ∷ rest)

      earlier : (k : ℕ) → k ≡ place → Runs t t.initial (before plan k)
      earlier k h = rw (before_is plan done (a ∷ rest) k e (h ∙ at)) runs

      here : (k : ℕ) → k ≡ place → action_at plan k ≡ a
      here k h = action_is plan done rest a k e (h ∙ at)

      state : (k : ℕ) → k ≡ place → s ≡ state_before t plan k
      state k h = st ∙ ap (finally t t.initial) (sym (before_is plan done (a ∷ rest) k e (h ∙ at)))

      next : Verdict → Result AtomSet Fault
      next v = and_then v (λ _. Ok (after t a s))

      Here : Result AtomSet Fault → Type 0
      Here r = Means t plan (and_then r (λ next. judged_from t (place + 1) next rest))

      too_many : 256 < place → Means t plan (Err (at_place TooManySteps place))
      too_many l = let n : place ≡ 257 = omega arith in
          record { from_one = omega arith; earlier = earlier place refl; reason = too_long (omega (arith, size)) (ap (at_place TooManySteps) n) }

      no_action : place ≤ 256 → t.actions ≤ a → Means t plan (Err (at_place UnknownAction place))
      no_action l m = record { from_one = omega arith; earlier = earlier place refl; reason = unknown l (omega (arith, size)) (subst (λ x. t.actions ≤ x) (sym (here place refl)) m) refl }

      taken : place ≤ 256 → a < t.actions → (v : Verdict) → Tells t NotApplicable place (t.needs a) s v
          → (length (done ++ a ∷ []) ≤ 256 → Runs t t.initial (done ++ a ∷ []) → Means t plan (judged_from t (place + 1) (after t a s) rest)) → Here (next v)
      taken l m (Err f) h more =
          let k : f.place ≡ place = h.1 in
          let lacking : Lacking t (t.needs a) (state_before t plan f.place) f = subst (λ (x : AtomSet). Lacking t (t.needs a) x f) (state f.place k) h.2 in
          record {
            from_one = omega arith;
            earlier = earlier f.place k;
            reason = inapplicable (omega arith) (omega (arith, size)) (subst (λ x. x < t.actions) (sym (here f.place k)) m)
                (subst (λ x. Lacking t (t.needs x) (state_before t plan f.place) f) (sym (here f.place k)) lacking) h.0;
          }
      taken l m (Ok u) h more = more (omega (arith, length_push done a)) (runs_push t t.initial done a runs m (subst (λ (x : AtomSet). t.needs a ⊆ x) st h))

  pub judged_means : (plan : List ℕ) → Means t plan (judged t plan)
  judged_means plan = means_from plan [] plan 1 t.initial refl refl refl (omega arith) tt

  -- what is refused does not solve the task in 256 steps
  refused_fails : (plan : List ℕ) (f : Fault) → Refused t plan f → length plan ≤ 256 → Solves t plan → ⊥
  refused_fails plan f r short h = go r.reason
    where
      missing : (need state : AtomSet) → Lacking t need state f → need ⊆ state → ⊥
      missing need state k all = k.absent (all f.atom k.needed)

      go : Reason t plan f → ⊥
      go (too_long l e) = omega arith
      go (unknown l m k e) = let n = (reaches_at t t.initial plan f.place h r.from_one m).0 in omega arith
      go (inapplicable l m k lacking e) =
          missing (t.needs (action_at plan f.place)) (state_before t plan f.place) lacking (reaches_at t t.initial plan f.place h r.from_one m).1
      go (goal_missed l e lacking d) = missing t.goal (finally t t.initial plan) lacking (reaches_goal t t.initial plan h)

  pub judged_decides : (plan : List ℕ) → Decides (is_ok (judged t plan)) ((length plan ≤ 256) × Solves t plan)
  judged_decides plan = go (judged t plan) (judged_means plan)
    where
      go : (v : Verdict) → Means t plan v → Decides (is_ok v) ((length plan ≤ 256) × Solves t plan)
      go (Ok u) m = (λ _. m, λ _. refl)
      go (Err f) m = (λ e. absurd (false≢true e), λ h. absurd (refused_fails plan f m h.0 h.1))
