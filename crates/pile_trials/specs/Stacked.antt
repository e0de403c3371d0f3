-- The stack of empty layers is built, and means the tall task.
use Rattle.std.proofs.Common.{◌≡◌, ℕ, zero, suc, ◌+◌, ◌<◌, ◌≤◌, cond, ltb, [], ◌∷◌, None, sym, refl, ap, ◌∙◌, arith, lit≤}
use mathlib.Core.Path.{fun_ext}
use Rattle.std.proofs.lemmas.Bool.{lt-ltb, le-ltb, cond-true, cond-false}
use Rattle.planning.specs.Sets.{none}
use Rattle.planning.specs.Marks.{higher}
use Rattle.planning.specs.Piles.{Built, meaning, raised}
use Rattle.planning.proofs.Bottoms.{none_under, flat_bottom}
use Rattle.planning.proofs.Empties.{no_macro}
use Rattle.planning.proofs.Soundness.{built_sound}
use Rattle.pile_trials.specs.Tall.{tall, no_row, stacked}

no_actions : (h : ℕ) → (meaning (stacked h)).actions ≡ 0
no_actions zero = refl
no_actions (suc h) = let n = no_actions h in omega arith

pub stacked_built : (h : ℕ) → Built (stacked h)
stacked_built zero = flat_bottom 1 0 none none no_row (lit≤ tt) (lit≤ tt) (none_under 1) (none_under 1) (λ a l. absurd (omega arith))
stacked_built (suc h) =
    let n = no_actions h in
    (stacked_built h, record { each = tt; few = omega arith; room = omega arith }, sym n)

-- of no action
beyond : {X : Type 0} (x : ℕ → X) (y : X) → ◌≡◌ {A = ℕ → X} (λ a. cond (ltb a 0) (x a) y) (λ a. y)
beyond x y = fun_ext (λ a. cond-false (ltb a 0) (x a) y (le-ltb a 0 (omega arith)))

pub stacked_is : (h : ℕ) → h ≤ 255 → meaning (stacked h) ≡ tall h
stacked_is zero l = λ i. record {
  atoms = 1;
  actions = 0;
  initial = none;
  goal = none;
  needs = beyond (λ a. none) none i;
  deletes = beyond (λ a. none) none i;
  adds = beyond (λ a. none) none i;
  kind = beyond (λ a. 0) 65535 i;
  base_steps = beyond (λ a. a ∷ []) [] i;
  parts = λ a. None;
  height = 0;
  first_height = λ p. 0;
}
stacked_is (suc h) l =
    let up : higher h ≡ suc h = cond-true _ _ _ (lt-ltb h 255 (omega arith)) in
    no_macro (meaning (stacked h)) (built_sound (stacked h) (stacked_built h)).lawful ∙ ap raised (stacked_is h (omega arith)) ∙ ap tall up
