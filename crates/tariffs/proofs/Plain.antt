-- A quote of 2,048 steps is the plain sum: it reaches no modulus.
use Rattle.std.proofs.Common.{◌≡◌, ℕ, ◌-◌, ◌*◌, ◌%◌, ◌^◌, ◌<◌, ◌≤◌, List, [], ◌∷◌, length, get_or, refl, suc-mul, arith}
use Rattle.planning.specs.Amounts.{total}
use Rattle.tariffs.specs.Laws.{cents_amounts, visits_amounts}
use Rattle.tariffs.specs.Prices.{bank_price, clinic_price, plain_sum}

bound : (m : ℕ) (row steps : List ℕ) → ((i : ℕ) → get_or row i 0 ≤ m) → plain_sum row steps ≤ length steps * m
bound m row [] each = omega arith
bound m row (a ∷ steps) each = omega (arith, each a, bound m row steps each, suc-mul (length steps) m)

cents_sum : (row steps : List ℕ) → (total cents_amounts (bank_price row) steps).value ≡ plain_sum row steps % 2 ^ 64
cents_sum row [] = refl
cents_sum row (a ∷ steps) = omega (arith, cents_sum row steps)

pub cents_plain : (row steps : List ℕ) → ((i : ℕ) → get_or row i 0 < 2 ^ 32) → length steps ≤ 2048 → (total cents_amounts (bank_price row) steps).value ≡ plain_sum row steps
cents_plain row steps each short = omega (arith, cents_sum row steps, bound (2 ^ 32 - 1) row steps (λ i. omega (arith, each i)))

module _ (minutes visits steps : List ℕ) where
  minutes_sum : (steps : List ℕ) → (total visits_amounts (clinic_price minutes visits) steps).minutes ≡ plain_sum minutes steps % 2 ^ 32
  minutes_sum [] = refl
  minutes_sum (a ∷ steps) = omega (arith, minutes_sum steps)

  visits_sum : (steps : List ℕ) → (total visits_amounts (clinic_price minutes visits) steps).visits ≡ plain_sum visits steps % 2 ^ 32
  visits_sum [] = refl
  visits_sum (a ∷ steps) = omega (arith, visits_sum steps)

  pub minutes_plain : ((i : ℕ) → get_or minutes i 0 < 2 ^ 16) → length steps ≤ 2048 → (total visits_amounts (clinic_price minutes visits) steps).minutes ≡ plain_sum minutes steps
  minutes_plain each short = omega (arith, minutes_sum steps, bound (2 ^ 16 - 1) minutes steps (λ i. omega (arith, each i)))

  pub visits_plain : ((i : ℕ) → get_or visits i 0 < 2 ^ 16) → length steps ≤ 2048 → (total visits_amounts (clinic_price minutes visits) steps).visits ≡ plain_sum visits steps
  visits_plain each short = omega (arith, visits_sum steps, bound (2 ^ 16 - 1) visits steps (λ i. omega (arith, each i)))
