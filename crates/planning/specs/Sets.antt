-- Sets of atoms: a yes or no for each number.
use Rattle.std.specs.Prelude.{ℕ, zero, suc, ◌+◌, ◌<◌, Bool, false, cond, not, ◌&&◌, ◌||◌, T, is_none, Some, None, Option, ◌==◌}
use Rattle.std.specs.Option.{option_or}

abbrev pub AtomSet : Type 0
AtomSet = ℕ → Bool

abbrev pub none : AtomSet
none = λ p. false

-- the number p alone
abbrev pub only : ℕ → AtomSet
only p = λ q. (q == p)

infixl 65 ◌∪◌
infixl 70 ◌∩◌ ◌∖◌
infix 4 ◌⊆◌
abbrev pub ◌∪◌ : AtomSet → AtomSet → AtomSet
a ∪ b = λ p. a p || b p

abbrev pub ◌∩◌ : AtomSet → AtomSet → AtomSet
a ∩ b = λ p. a p && b p

abbrev pub ◌∖◌ : AtomSet → AtomSet → AtomSet
a ∖ b = λ p. a p && not (b p)

abbrev pub ◌⊆◌ : AtomSet → AtomSet → Type 0
a ⊆ b = (p : ℕ) → T (a p) → T (b p)

-- no atom from n on
abbrev pub Under : ℕ → AtomSet → Type 0
Under n a = (p : ℕ) → T (a p) → p < n

-- how many numbers below n are in the set
unfoldable pub count : AtomSet → ℕ → ℕ
count a zero = 0
count a (suc n) = count a n + cond (a n) 1 0

-- the lowest number below n that is in the set
unfoldable pub lowest : AtomSet → ℕ → Option ℕ
lowest a zero = None
lowest a (suc n) = option_or (lowest a n) (cond (a n) (Some n) None)

-- the greatest number below n that is in the set
unfoldable pub greatest : AtomSet → ℕ → Option ℕ
greatest a zero = None
greatest a (suc n) = cond (a n) (Some n) (greatest a n)

-- whether neither of two sets has a number below n that the other lacks
abbrev pub same_below : ℕ → AtomSet → AtomSet → Bool
same_below n a b = is_none (lowest (a ∖ b) n) && is_none (lowest (b ∖ a) n)
