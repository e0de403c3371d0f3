-- The wide task is a bottom, within its limit.
use Rattle.std.proofs.Common.{ℕ, ◌<◌, ◌≤◌, arith, lit<, lit≤}
use Rattle.planning.specs.Sets.{only}
use Rattle.planning.specs.Bottoms.{Bottom, RowUnder}
use Rattle.planning.proofs.Bottoms.{none_under, only_under, union_under, flat_bottom}
use Rattle.pile_trials.specs.Wide.{wide_row, wide}

fits : (n : ℕ) → n ≤ 288 → (a : ℕ) → a < n → RowUnder 2 (wide_row a)
fits n few a l =
    let held = only_under 2 0 (lit< tt) in
    record {
      needs_under = held;
      deletes_under = none_under 2;
      adds_under = union_under 2 (only 0) (only 1) held (only_under 2 1 (lit< tt));
      kind_fits = omega arith;
    }

pub wide_bottom : (n : ℕ) → n ≤ 288 → Bottom (wide n)
wide_bottom n few = flat_bottom 2 n (only 0) (only 1) wide_row (lit≤ tt) few (only_under 2 0 (lit< tt)) (only_under 2 1 (lit< tt)) (fits n few)
