-- Digits of the operations on words, and how many of a word are set, at any width.
use Rattle.std.proofs.Common.{◌≡◌, ℕ, zero, suc, ◌+◌, ◌-◌, ◌/◌, ◌%◌, ◌^◌, ◌<◌, ◌≤◌, true, false, cond, not, ◌&&◌, ◌||◌, eqb, ◌⊎◌, sym, refl, ap, ◌∙◌, ap₂, inl, inr, pow-suc, arith}
use Rattle.std.proofs.lemmas.Nat.Bits.{bit_at_and, bit_at_or, bit_at_lowest, bit_at-suc, bit_at-zero, bit_at-pow_same, bit_at-pow_other, bit_at_above}
use lib.Bits.{bit_and, bit_or}
use lib.Count.{ones, ones_step, count_trailing_zeros, under as below}
use Rattle.std.proofs.lemmas.Bool.{eq-eqb, ne_eqb, cases_eq}
use Rattle.std.proofs.lemmas.Bool.Decides.{nat_tests}
use Rattle.planning.specs.Sets.{count}
use Rattle.planning.proofs.Counts.{count_same, count_low}
use Rattle.atoms.specs.Digits.{bit}

pub bit-or : (a b k : ℕ) → bit (bit_or a b) k ≡ (bit a k || bit b k)
unfolding bit
bit-or a b k = grind (arith, nat_tests, bit_at_or a b k)

pub bit-and : (a b k : ℕ) → bit (bit_and a b) k ≡ (bit a k && bit b k)
unfolding bit
bit-and a b k = grind (arith, nat_tests, bit_at_and a b k)

-- the lowest digit, and the others
pub bit_zero : (n : ℕ) → bit n 0 ≡ eqb (n % 2) 1
unfolding bit
bit_zero n = ap (λ x. eqb x 1) (bit_at_lowest n)

pub bit_suc : (n k : ℕ) → bit n (suc k) ≡ bit (n / 2) k
unfolding bit
bit_suc n k = ap (λ x. eqb x 1) (bit_at-suc n k)

pub bit_none : (k : ℕ) → bit 0 k ≡ false
unfolding bit
bit_none k = ap (λ x. eqb x 1) (bit_at-zero k)

pub bit_not : (w a k : ℕ) → a < 2 ^ w → k < w → bit ((2 ^ w - 1) - a) k ≡ not (bit a k)
bit_not zero a k h l = absurd (omega arith)
bit_not (suc w) a zero h l =
    bit_zero _ ∙ go (cases_eq (a % 2) 1) ∙ sym (ap not (bit_zero a))
  where
    go : (a % 2 ≡ 1) ⊎ (a % 2 ≡ 1 → ⊥) → eqb (((2 ^ suc w - 1) - a) % 2) 1 ≡ not (eqb (a % 2) 1)
    go (inl e) = ne_eqb _ 1 (omega (arith, pow-suc 2 w)) ∙ sym (ap not (eq-eqb (a % 2) 1 e))
    go (inr n) = eq-eqb _ 1 (omega (arith, pow-suc 2 w)) ∙ sym (ap not (ne_eqb (a % 2) 1 n))
bit_not (suc w) a (suc k) h l =
    bit_suc _ k ∙ ap (λ n. bit n k) half ∙ bit_not w (a / 2) k (omega (arith, pow-suc 2 w)) (omega arith) ∙ sym (ap not (bit_suc a k))
  where
    half : ((2 ^ suc w - 1) - a) / 2 ≡ (2 ^ w - 1) - a / 2
    half = omega (arith, pow-suc 2 w)

-- the number with digit k alone
pub bit_one : (k j : ℕ) → bit (2 ^ k) j ≡ eqb j k
unfolding bit
bit_one k j = grind (arith, nat_tests, bit_at-pow_same k, bit_at-pow_other k j)

-- no digit at or above the length
pub bit_high : (a j k : ℕ) → a < 2 ^ j → j ≤ k → bit a k ≡ false
unfolding bit
bit_high a j k h l = ap (λ x. eqb x 1) (bit_at_above a j k h l)

pub bit_top : (a j : ℕ) → 2 ^ j ≤ a → a < 2 ^ suc j → bit a j ≡ true
bit_top a zero h l = bit_zero a ∙ eq-eqb _ 1 (omega arith)
bit_top a (suc j) h l = bit_suc a j ∙ bit_top (a / 2) j (omega (arith, pow-suc 2 j)) (omega (arith, pow-suc 2 j, pow-suc 2 (suc j)))

-- t is the lowest digit of n that is set, and one of w
pub record Lowest (w n t : ℕ) : Type 0 where
  pub within : t < w
  pub here : bit n t ≡ true
  pub under : (k : ℕ) → k < t → bit n k ≡ false

lowest_step : (w n d t : ℕ) → n % 2 ≡ d → (d ≡ 0 → Lowest w (n / 2) t) → Lowest (suc w) n (below d t)
lowest_step w n zero t e h = record { within = omega (arith, (h refl).within); here = bit_suc n t ∙ (h refl).here; under = go }
  where
    go : (k : ℕ) → k < suc t → bit n k ≡ false
    go zero l = bit_zero n ∙ ne_eqb _ 1 (omega arith)
    go (suc k) l = bit_suc n k ∙ (h refl).under k (omega arith)
lowest_step w n (suc d) t e h = record { within = omega arith; here = bit_zero n ∙ eq-eqb _ 1 (omega arith); under = λ k l. absurd (omega arith) }

pub trailing_lowest : (w n : ℕ) → 0 < n → n < 2 ^ w → Lowest w n (count_trailing_zeros w n)
unfolding count_trailing_zeros
trailing_lowest zero n p h = absurd (omega arith)
trailing_lowest (suc w) n p h =
    lowest_step w n (n % 2) (count_trailing_zeros w (n / 2)) refl (λ e. trailing_lowest w (n / 2) (omega arith) (omega (arith, pow-suc 2 w)))

digit_value : (n : ℕ) → n < 2 → n ≡ cond (eqb n 1) 1 0
digit_value n h = grind (arith, nat_tests)

ones_none : ones 0 ≡ 0
unfolding ones
ones_none = refl

-- a word has as many digits set as pass `bit`
pub ones_count : (w n : ℕ) → n < 2 ^ w → ones n ≡ count (bit n) w
unfolding count
ones_count zero n h = ap ones (omega arith) ∙ ones_none
ones_count (suc w) n h =
    ones_step n
    ∙ ap₂ (λ x y. x + y) (digit_value (n % 2) (omega arith) ∙ ap (λ b. cond b 1 0) (sym (bit_zero n)))
    (ones_count w (n / 2) (omega (arith, pow-suc 2 w)) ∙ count_same _ _ w (λ k l. sym (bit_suc n k)))
    ∙ sym (count_low (bit n) w)
