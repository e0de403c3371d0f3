-- What is wanted of a state, action by action from the plan's end.
use Rattle.std.proofs.Common.{◌≡◌, ℕ, zero, suc, ◌+◌, ◌-◌, ◌<◌, ◌↔◌, List, [], ◌∷◌, length, get_or, drop, reverse, arith, Some, None, Option, sym, ap, ◌∙◌, subst, MatchOption}
use Rattle.std.proofs.lemmas.List.{drop_more, get_or-reverse, length-reverse}
use Rattle.std.proofs.lemmas.Grind.{get_or_default_zero}
use Rattle.atoms.specs.Has.{has}
use Rattle.atoms.specs.declared.Atoms.{Atoms}
use Rattle.planning.specs.Sets.{AtomSet, ◌⊆◌}
use Rattle.planning.specs.Tasks.{Task, Reaches}
use Rattle.planning.specs.Regression.{wanted_before, Spares, wanted, Possible}
use Rattle.planning.proofs.Regression.{regression}
use Rattle.tasks.specs.Regressed.{WantedBefore, Wanted}

-- the plan from an index on is possible, and `want` is what it wants
abbrev pub Rest : Task → List ℕ → AtomSet → ℕ → Type 0
Rest t plan want i = Possible t (drop i plan) × (want ≡ wanted t (drop i plan))

module _ (t : Task) where
  -- one action more in front
  wanted_cons : (a : ℕ) (rest : List ℕ) (want : AtomSet) (r : Option Atoms) → Possible t rest → want ≡ wanted t rest → WantedBefore t a want r → Wanted t (a ∷ rest) r
  wanted_cons a rest want None u e w = λ h. w (subst (Spares t a) (sym e) h.0)
  wanted_cons a rest want (Some x) u e w = ((subst (Spares t a) e w.0, u), w.1 ∙ ap (wanted_before t a) e)

  pub wanted_more : (plan : List ℕ) (i : ℕ) (want : AtomSet) (r : Option Atoms) → i < length plan → Rest t plan want (i + 1)
      → WantedBefore t (get_or plan i 0) want r → Wanted t (drop i plan) r
  wanted_more plan i want r h k w =
      subst (λ (x : List ℕ). Wanted t x r) (sym (drop_more plan i 0 h)) (wanted_cons (get_or plan i 0) (drop (i + 1) plan) want r k.0 k.1 w)

  -- one action more, n of them from the plan's end having been gone through
  pub wanted_turn : (plan : List ℕ) (n a : ℕ) (want : AtomSet) (r : Option Atoms) → (n < length (reverse plan)) × (a ≡ get_or (reverse plan) n a)
      → Rest t plan want (length plan - n) → WantedBefore t a want r → Wanted t (drop (length plan - (n + 1)) plan) r
  wanted_turn plan n a want r h k w =
      let len = length-reverse plan in
      let inside : n < length plan = omega (arith, h.0) in
      let i = length plan - (n + 1) in
      let on : length plan - n ≡ i + 1 = omega arith in
      let same : length plan - 1 - n ≡ i = omega arith in
      let here : a ≡ get_or plan i 0 = h.1 ∙ get_or-reverse plan n a inside ∙ ap (λ j. get_or plan j a) same ∙ get_or_default_zero plan i a (omega arith) in
      wanted_more plan i want r (omega arith) (subst (Rest t plan want) on k) (subst (λ b. WantedBefore t b want r) here w)

  -- a plan is possible only if what is left of it is
  pub possible_drop : (plan : List ℕ) (i : ℕ) → Possible t plan → Possible t (drop i plan)
  possible_drop plan zero h = h
  possible_drop [] (suc i) h = h
  possible_drop (a ∷ plan) (suc i) h = possible_drop plan i h.1

  -- no state serves what is left, so none serves the plan
  pub wanted_none : (plan : List ℕ) (i : ℕ) → Wanted t (drop i plan) None → Wanted t plan None
  wanted_none plan i none h = none (possible_drop plan i h)

  pub wanted_decides : (plan : List ℕ) (r : Option Atoms) → Wanted t plan r → (s : AtomSet) → Reaches t s plan ↔ MatchOption r ⊥ (λ w. has w ⊆ s)
  wanted_decides plan None w s = (λ h. w ((regression t s plan).0 h).0, λ h. absurd h)
  wanted_decides plan (Some x) w s =
      let r = regression t s plan in (
        λ h. subst (λ (y : AtomSet). y ⊆ s) (sym w.1) (r.0 h).1,
        λ h. r.1 (w.0, subst (λ (y : AtomSet). y ⊆ s) w.1 h),
      )
