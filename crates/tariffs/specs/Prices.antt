-- What the tariffs charge. An action beyond a row is charged nought in it.
use Rattle.std.specs.Prelude.{ℕ, ◌+◌, List, [], ◌∷◌, slice_index}
use Rattle.tariffs.specs.declared.cents.Cents.{Cents}
use Rattle.tariffs.specs.declared.visits.Visits.{Visits}
use Rattle.tariffs.specs.Laws.{cents, minutes_visits}

abbrev pub bank_price : List ℕ → ℕ → Cents
bank_price row a = cents (slice_index row a)

abbrev pub clinic_price : List ℕ → List ℕ → ℕ → Visits
clinic_price minutes visits a = minutes_visits (slice_index minutes a) (slice_index visits a)

-- the plain sum of what a row says of each step
abbrev pub plain_sum : List ℕ → List ℕ → ℕ
plain_sum row [] = 0
plain_sum row (a ∷ steps) = slice_index row a + plain_sum row steps
