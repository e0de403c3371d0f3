-- Cents, and minutes with visits, join as amounts do.
use mathlib.Core.HLevel.{is_prop→PathP}
use Rattle.std.specs.Prelude.{◌≡◌, ℕ, ◌+◌, ◌-◌, ◌%◌, ◌^◌, ◌<◌}
use Rattle.std.proofs.Math.Bridge.{le_prop}
use Rattle.std.proofs.Common.{arith}
use Rattle.planning.specs.Amounts.{Amounts}
use Rattle.tariffs.specs.declared.cents.Cents.{Cents}
use Rattle.tariffs.specs.declared.visits.Visits.{Visits}

-- a number modulo 2^64, as cents
abbrev pub cents : ℕ → Cents
cents n = record { value = n % 2 ^ 64; fits = omega arith }

pub same_cents : (x y : Cents) → x.value ≡ y.value → x ≡ y
same_cents x y e = λ i. record { value = e i; fits = is_prop→PathP (λ i. e i < 2 ^ 64) (λ i. le_prop) x.fits y.fits i }

abbrev pub cents_amounts : Amounts Cents
cents_amounts = record {
  nought = cents 0;
  join = λ x y. cents (x.value + y.value);
  back = λ x y. cents (x.value + (2 ^ 64 - y.value));
  assoc = λ x y z. same_cents _ _ (omega (arith, x.fits, y.fits, z.fits));
  comm = λ x y. same_cents _ _ (omega (arith, x.fits, y.fits));
  unit = λ x. same_cents _ _ (omega (arith, x.fits));
  undo = λ x y. same_cents _ _ (omega (arith, x.fits, y.fits));
}

-- two numbers modulo 2^32, as minutes and visits
abbrev pub minutes_visits : ℕ → ℕ → Visits
minutes_visits m v = record { minutes = m % 2 ^ 32; visits = v % 2 ^ 32; fits = omega arith; also = omega arith }

pub same_visits : (x y : Visits) → x.minutes ≡ y.minutes → x.visits ≡ y.visits → x ≡ y
same_visits x y e f = λ i. record {
  minutes = e i;
  visits = f i;
  fits = is_prop→PathP (λ i. e i < 2 ^ 32) (λ i. le_prop) x.fits y.fits i;
  also = is_prop→PathP (λ i. f i < 2 ^ 32) (λ i. le_prop) x.also y.also i;
}

abbrev pub visits_amounts : Amounts Visits
visits_amounts = record {
  nought = minutes_visits 0 0;
  join = λ x y. minutes_visits (x.minutes + y.minutes) (x.visits + y.visits);
  back = λ x y. minutes_visits (x.minutes + (2 ^ 32 - y.minutes)) (x.visits + (2 ^ 32 - y.visits));
  assoc = λ x y z. same_visits _ _ (omega (arith, x.fits, y.fits, z.fits)) (omega (arith, x.also, y.also, z.also));
  comm = λ x y. same_visits _ _ (omega (arith, x.fits, y.fits)) (omega (arith, x.also, y.also));
  unit = λ x. same_visits _ _ (omega (arith, x.fits)) (omega (arith, x.also));
  undo = λ x y. same_visits _ _ (omega (arith, x.fits, y.fits)) (omega (arith, x.also, y.also));
}
