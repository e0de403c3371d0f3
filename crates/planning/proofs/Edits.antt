-- An accepted edit: the new plan has at most 256 steps and solves the task, and is worth what did not leave.
use Rattle.std.proofs.Common.{◌≡◌, ℕ, zero, suc, ◌+◌, ◌-◌, ◌<◌, ◌≤◌, Bool, true, false, cond, ltb, List, [], ◌∷◌, ◌++◌, length, get_or, take, drop, is_ok, Some, None, Ok, Err, Option, sym, refl, ap, ◌∙◌, subst, append_assoc, arith}
use Rattle.std.proofs.lemmas.List.{drop_more}
use Rattle.std.proofs.lemmas.Bool.Decides.{nat_tests}
use Rattle.planning.specs.Tasks.{Task, Lawful, Solves}
use Rattle.planning.specs.Amounts.{Amounts, total}
use Rattle.planning.specs.Places.{action_at}
use Rattle.planning.specs.Faults.{at_place}
use Rattle.planning.specs.Verdicts.{Verdict, and_then, judged}
use Rattle.planning.specs.Edits.{Edited, splice, without, tried, is_place, are_places, dropped, swapped, are_parts, folded, opened, unfolded}
use Rattle.planning.specs.Orders.{charge}
use Rattle.planning.specs.declared.fault.Fault.{Fault}
use Rattle.planning.specs.declared.refusal.Refusal.TheVariants.{TooManySteps}
use Rattle.planning.proofs.Verdicts.{judged_decides}
use Rattle.planning.proofs.Charges.{charge_cons}
use Rattle.planning.proofs.Trims.{cut_one, nothing_gone, splice_worth}

action_index : (plan : List ℕ) (i : ℕ) → 0 < i → get_or plan (i - 1) 0 ≡ action_at plan i
action_index plan zero l = absurd (omega arith)
action_index plan (suc i) l = let e : suc i - 1 ≡ i = omega arith in ap (λ k. get_or plan k 0) e

-- the step at a place, and the two at a place and the next
pub at_place_is : (plan : List ℕ) (i : ℕ) → 0 < i → i ≤ length plan → plan ≡ take (i - 1) plan ++ ((action_at plan i ∷ []) ++ drop (i - 1 + 1) plan)
at_place_is plan i l m = cut_one plan (i - 1) (omega arith) ∙ ap (λ a. take (i - 1) plan ++ ((a ∷ []) ++ drop (i - 1 + 1) plan)) (action_index plan i l)

pub at_places_are : (plan : List ℕ) (i : ℕ) → 0 < i → i < length plan
    → plan ≡ take (i - 1) plan ++ ((action_at plan i ∷ action_at plan (suc i) ∷ []) ++ drop (i - 1 + 2) plan)
at_places_are plan i l m =
    let e : i - 1 + 1 ≡ i = omega arith in
    let f : i + 1 ≡ i - 1 + 2 = omega arith in
    at_place_is plan i l (omega arith)
    ∙ ap (λ k. take (i - 1) plan ++ (action_at plan i ∷ drop k plan)) e
    ∙ ap (λ r. take (i - 1) plan ++ (action_at plan i ∷ r)) (drop_more plan i 0 m)
    ∙ ap (λ k. take (i - 1) plan ++ (action_at plan i ∷ get_or plan i 0 ∷ drop k plan)) f

module _ (t : Task) (law : Lawful t) where
  -- at most 256 steps that solve the task
  abbrev pub Fine : List ℕ → Type 0
  Fine plan = (length plan ≤ 256) × Solves t plan

  tried_is : (x new : List ℕ) → tried t x ≡ Ok new → Fine new × (x ≡ new)
  tried_is x new = go (ltb 256 (length x)) (judged t x) refl
    where
      go : (b : Bool) (v : Verdict) → judged t x ≡ v → and_then (cond b (Err (at_place TooManySteps 257)) v) (λ _. Ok x) ≡ Ok new → Fine new × (x ≡ new)
      go true v e f = absurd cc
      go false (Ok u) e f = let same : x ≡ new = cc in (subst Fine same ((judged_decides t law x).0 (ap is_ok e)), same)
      go false (Err y) e f = absurd cc

  -- a test that has been passed
  passed : (b : Bool) (x : Edited) (f : Fault) (new : List ℕ) → cond b x (Err f) ≡ Ok new → (b ≡ true) × (x ≡ Ok new)
  passed b x f new e = grind arith

  pub place_of : (plan : List ℕ) (i : ℕ) → is_place plan i ≡ true → (0 < i) × (i ≤ length plan)
  place_of plan i e = grind (arith, nat_tests)

  pub places_of : (plan : List ℕ) (i : ℕ) → are_places plan i ≡ true → (0 < i) × (i < length plan)
  places_of plan i e = grind (arith, nat_tests)

  pub parts_of : (o : Option (ℕ × ℕ)) (a b : ℕ) → are_parts o a b ≡ true → o ≡ Some (a, b)
  parts_of None a b h = absurd cc
  parts_of (Some w) a b h = grind (arith, nat_tests)

  module _ {A : Type 0} (am : Amounts A) (price : ℕ → A) where
    swap_worth : (a b : ℕ) → charge am price t (a ∷ b ∷ []) ≡ charge am price t (b ∷ a ∷ [])
    swap_worth a b =
        charge_cons am price t a (b ∷ []) ∙ am.comm (charge am price t (a ∷ [])) (charge am price t (b ∷ [])) ∙ sym (charge_cons am price t b (a ∷ []))

    parts_worth : (a b d : ℕ) → t.parts d ≡ Some (a, b) → charge am price t (a ∷ b ∷ []) ≡ charge am price t (d ∷ [])
    parts_worth a b d e =
        ap (total am price) (sym (append_assoc (t.base_steps a) (t.base_steps b) []) ∙ ap (λ r. r ++ []) (sym (law.parts_base d a b e)))

    -- what an accepted edit leaves, and what left
    abbrev pub Leaves : List ℕ → List ℕ → List ℕ → Type 0
    Leaves plan new gone = Fine new × (charge am price t plan ≡ am.join (charge am price t new) (charge am price t gone))

    taken : (plan x new gone : List ℕ) → tried t x ≡ Ok new → charge am price t plan ≡ am.join (charge am price t x) (charge am price t gone) → Leaves plan new gone
    taken plan x new gone e w = let h = tried_is x new e in (h.0, w ∙ ap (λ r. am.join (charge am price t r) (charge am price t gone)) h.1)

    pub drop_leaves : (plan new : List ℕ) (i : ℕ) → dropped t plan i ≡ Ok new → Leaves plan new (action_at plan i ∷ [])
    drop_leaves plan new i e =
        let h = passed _ _ _ _ e in
        let l = place_of plan i h.0 in
        taken plan (without plan i) new (action_at plan i ∷ []) h.1
        (splice_worth t law am price plan (i - 1) 1 (action_at plan i ∷ []) [] (action_at plan i ∷ []) (at_place_is plan i l.0 l.1) (sym (am.unit (charge am price t (action_at plan i ∷ [])))))

    pub swap_leaves : (plan new : List ℕ) (i : ℕ) → swapped t plan i ≡ Ok new → Leaves plan new []
    swap_leaves plan new i e =
        let a = action_at plan i in
        let b = action_at plan (suc i) in
        let h = passed _ _ _ _ e in
        let l = places_of plan i h.0 in
        taken plan (splice plan (i - 1) 2 (b ∷ a ∷ [])) new [] h.1
        (splice_worth t law am price plan (i - 1) 2 (a ∷ b ∷ []) (b ∷ a ∷ []) [] (at_places_are plan i l.0 l.1) (swap_worth a b ∙ nothing_gone t law am price (charge am price t (b ∷ a ∷ []))))

    pub fold_leaves : (plan new : List ℕ) (i d : ℕ) → folded t plan i d ≡ Ok new → Leaves plan new []
    fold_leaves plan new i d e =
        let a = action_at plan i in
        let b = action_at plan (suc i) in
        let h = passed _ _ _ _ e in
        let k = passed _ _ _ _ (passed _ _ _ _ h.1).1 in
        let l = places_of plan i h.0 in
        taken plan (splice plan (i - 1) 2 (d ∷ [])) new [] k.1
        (splice_worth t law am price plan (i - 1) 2 (a ∷ b ∷ []) (d ∷ []) [] (at_places_are plan i l.0 l.1)
        (parts_worth a b d (parts_of (t.parts d) a b k.0) ∙ nothing_gone t law am price (charge am price t (d ∷ []))))

    opened_leaves : (plan new : List ℕ) (i : ℕ) (o : Option (ℕ × ℕ)) → 0 < i → i ≤ length plan → t.parts (action_at plan i) ≡ o → opened t plan i o ≡ Ok new → Leaves plan new []
    opened_leaves plan new i None l m e f = absurd cc
    opened_leaves plan new i (Some v) l m e f =
        taken plan (splice plan (i - 1) 1 (v.0 ∷ v.1 ∷ [])) new [] f
        (splice_worth t law am price plan (i - 1) 1 (action_at plan i ∷ []) (v.0 ∷ v.1 ∷ []) [] (at_place_is plan i l m)
        (sym (parts_worth v.0 v.1 (action_at plan i) e) ∙ nothing_gone t law am price (charge am price t (v.0 ∷ v.1 ∷ []))))

    pub unfold_leaves : (plan new : List ℕ) (i : ℕ) → unfolded t plan i ≡ Ok new → Leaves plan new []
    unfold_leaves plan new i e =
        let h = passed _ _ _ _ e in
        let l = place_of plan i h.0 in
        opened_leaves plan new i (t.parts (action_at plan i)) l.0 l.1 refl h.1
