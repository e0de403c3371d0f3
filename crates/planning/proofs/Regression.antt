-- A larger state serves as well; and what a row wants of its state decides whether it reaches the goal from there.
use Rattle.std.proofs.Common.{ℕ, ◌↔◌, List, [], ◌∷◌, arith}
use Rattle.planning.specs.Sets.{AtomSet, ◌⊆◌}
use Rattle.planning.specs.Tasks.{Task, after, Reaches}
use Rattle.planning.specs.Regression.{wanted, Possible}

pub after_grows : (t : Task) (a : ℕ) (s s' : AtomSet) → s ⊆ s' → after t a s ⊆ after t a s'
after_grows t a s s' h p k = grind (arith, h p)

pub monotone : (t : Task) (s s' : AtomSet) (r : List ℕ) → s ⊆ s' → Reaches t s r → Reaches t s' r
monotone t s s' [] h k = λ p g. h p (k p g)
monotone t s s' (a ∷ r) h k =
    (k.0, λ p g. h p (k.1 p g), monotone t (after t a s) (after t a s') r (after_grows t a s s' h) k.2)

regress_to : (t : Task) (s : AtomSet) (r : List ℕ) → Reaches t s r → Possible t r × (wanted t r ⊆ s)
regress_to t s [] h = (tt, h)
regress_to t s (a ∷ r) h =
    let ih : Possible t r × (wanted t r ⊆ after t a s) = regress_to t (after t a s) r h.2 in
    (((h.0, λ p w. grind (arith, ih.1 p)), ih.0), λ p w. grind (arith, h.1 p, ih.1 p))

regress_from : (t : Task) (s : AtomSet) (r : List ℕ) → Possible t r → wanted t r ⊆ s → Reaches t s r
regress_from t s [] u w = w
regress_from t s (a ∷ r) u w =
    (u.0.0, λ p n. grind (arith, w p), regress_from t (after t a s) r u.1 (λ p k. grind (arith, u.0.1 p, w p)))

pub regression : (t : Task) (s : AtomSet) (r : List ℕ) → Reaches t s r ↔ (Possible t r × (wanted t r ⊆ s))
regression t s r = (regress_to t s r, λ h. regress_from t s r h.0 h.1)
