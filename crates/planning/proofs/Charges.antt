-- What rows of steps come to, put together.
use Rattle.std.proofs.Common.{◌≡◌, ℕ, List, [], ◌∷◌, ◌++◌, sym, ap, ◌∙◌, append-nil}
use Rattle.std.specs.List.{flat_map}
use Rattle.planning.specs.Amounts.{Amounts, total}
use Rattle.planning.specs.Orders.{charge}
use Rattle.planning.specs.Tasks.{Task}

module _ {A : Type 0} (am : Amounts A) (price : ℕ → A) where
  pub total_append : (x y : List ℕ) → total am price (x ++ y) ≡ am.join (total am price x) (total am price y)
  total_append [] y = sym (am.unit (total am price y))
  total_append (a ∷ x) y = ap (am.join (price a)) (total_append x y) ∙ sym (am.assoc (price a) (total am price x) (total am price y))

  module _ (t : Task) where
    -- one step more in front
    pub charge_cons : (a : ℕ) (r : List ℕ) → charge am price t (a ∷ r) ≡ am.join (charge am price t (a ∷ [])) (charge am price t r)
    charge_cons a r =
        total_append (t.base_steps a) (flat_map t.base_steps r)
        ∙ ap (λ x. am.join (total am price x) (charge am price t r)) (sym (append-nil (t.base_steps a)))

    pub charge_append : (x y : List ℕ) → charge am price t (x ++ y) ≡ am.join (charge am price t x) (charge am price t y)
    charge_append [] y = sym (am.unit (charge am price t y))
    charge_append (a ∷ x) y =
        charge_cons a (x ++ y) ∙ ap (am.join (charge am price t (a ∷ []))) (charge_append x y)
        ∙ sym (am.assoc (charge am price t (a ∷ [])) (charge am price t x) (charge am price t y)) ∙ ap (λ k. am.join k (charge am price t y)) (sym (charge_cons a x))
