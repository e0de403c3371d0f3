-- A drop, by what the step at its place is and what comes of the plan without it.
use Rattle.std.proofs.Common.{◌≡◌, ℕ, ◌+◌, ◌-◌, ◌≤◌, List, [], ◌∷◌, length, Some, None, Ok, Err, sym, refl, ap, ◌∙◌, ap₂, Bool, true, false, cond, T, arith}
use Rattle.planning.specs.Faults.{at_place}
use Rattle.planning.specs.declared.refusal.Refusal.TheVariants.{NoStep}
use Rattle.planning.specs.Amounts.{Amounts}
use Rattle.planning.specs.Edits.{Edited, is_place, tried, splice, dropped}
use Rattle.planning.specs.Orders.{Held, charge, taken, taken_or, drop_call}
use Rattle.planning.specs.Places.{action_at}
use Rattle.planning.specs.Tasks.{Task}
use Rattle.service.specs.Calls.{step_at}

-- the plan of whose steps one was found
pub record Found (hold : Held) (i a : ℕ) : Type 0 where
  pub plan : List ℕ
  pub holds : hold ≡ Some plan
  pub inside : i - 1 + 1 ≤ length plan
  pub place : T (is_place plan i)
  pub step : a ≡ action_at plan i

pub found : (hold : Held) (i a : ℕ) → Ok a ≡ step_at hold i → Found hold i a
found None i a e = absurd (grind arith)
found (Some plan) i a e = record { plan = plan; holds = grind arith; inside = grind arith; place = grind arith; step = grind arith }

yes : {X : Type 0} (b : Bool) (x y : X) → T b → cond b x y ≡ x
yes true x y h = refl
yes false x y h = absurd h

module _ {A : Type 0} (am : Amounts A) (price : ℕ → A) (t : Task) where
  -- an edited plan that is taken, answering something else
  took : (x : A) (plan : List ℕ) (e : Edited) (now : Held) → Ok tt ≡ (taken_or (Some plan) e).0 → now ≡ (taken_or (Some plan) e).1
      → (Ok x ≡ (taken x plan e).0) × (now ≡ (taken x plan e).1)
  took x plan (Ok new) now h k = (refl, k)
  took x plan (Err f) now h k = absurd (grind arith)

  pub drop_took : (hold : Held) (i a : ℕ) (at : Found hold i a) (credit : A) (now : Held) → credit ≡ charge am price t (a ∷ [])
      → Ok tt ≡ (taken_or (Some at.plan) (tried t (splice at.plan (i - 1) 1 []))).0 → now ≡ (taken_or (Some at.plan) (tried t (splice at.plan (i - 1) 1 []))).1
      → (Ok credit ≡ (drop_call am price t hold i).0) × (now ≡ (drop_call am price t hold i).1)
  drop_took hold i a at credit now c h k =
      let went = took credit at.plan (tried t (splice at.plan (i - 1) 1 [])) now h k in
      let here : dropped t at.plan i ≡ tried t (splice at.plan (i - 1) 1 []) = yes (is_place at.plan i) (tried t (splice at.plan (i - 1) 1 [])) (Err (at_place NoStep i)) at.place in
      let call : drop_call am price t hold i ≡ taken credit at.plan (tried t (splice at.plan (i - 1) 1 [])) =
      ap (λ h. drop_call am price t h i) at.holds ∙ ap₂ (λ x e. taken x at.plan e) (ap (λ b. charge am price t (b ∷ [])) (sym at.step) ∙ sym c) here in
      (went.0 ∙ ap (λ o. o.0) (sym call), went.1 ∙ ap (λ o. o.1) (sym call))
