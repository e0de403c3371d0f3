-- Amounts that join, and what a row of base steps comes to.
use Rattle.std.specs.Prelude.{◌≡◌, ℕ, List, [], ◌∷◌}

-- joining is associative and commutative, nought joined to an amount leaves it unchanged, and taking back what was joined gives the
-- earlier amount
pub record Amounts (A : Type 0) : Type 0 where
  pub nought : A
  pub join : A → A → A
  pub back : A → A → A
  pub assoc : (x y z : A) → join (join x y) z ≡ join x (join y z)
  pub comm : (x y : A) → join x y ≡ join y x
  pub unit : (x : A) → join nought x ≡ x
  pub undo : (x y : A) → back (join x y) y ≡ x

-- the amounts of a row of base steps, joined
abbrev pub total : {A : Type 0} → Amounts A → (ℕ → A) → List ℕ → A
total am price [] = am.nought
total am price (a ∷ r) = am.join (price a) (total am price r)
