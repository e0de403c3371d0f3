-- The full task is a bottom, within its limits.
use Rattle.std.proofs.Common.{ℕ, ◌<◌, ◌≤◌, [], ◌∷◌, lit≤, ltb→lt}
use Rattle.planning.specs.Sets.{none, Under}
use Rattle.planning.specs.Bottoms.{Bottom, RowUnder}
use Rattle.planning.proofs.Bottoms.{none_under, set_at_under, flat_bottom}
use Rattle.trials.specs.Full.{below, full_row, full}

below_under : (n : ℕ) → Under n (below n)
below_under n p h = ltb→lt p n h

fits : (n k : ℕ) → k ≤ 65534 → (a : ℕ) → a < 2 → RowUnder n (full_row n k a)
fits n k known a l =
    let no = none_under n in
    let all = below_under n in
    record {
      needs_under = set_at_under n (none ∷ below n ∷ []) (no, (all, tt)) a l;
      deletes_under = set_at_under n (none ∷ below n ∷ []) (no, (all, tt)) a l;
      adds_under = set_at_under n (below n ∷ none ∷ []) (all, (no, tt)) a l;
      kind_fits = known;
    }

pub full_bottom : (n k : ℕ) → n ≤ 320 → k ≤ 65534 → Bottom (full n k)
full_bottom n k few known = flat_bottom n 2 none (below n) (full_row n k) few (lit≤ tt) (none_under n) (below_under n) (fits n k known)
