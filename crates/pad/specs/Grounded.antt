-- The bench is a bottom.
use Rattle.std.proofs.Common.{ℕ, ◌<◌, [], ◌∷◌, arith, lit<, lit≤}
use Rattle.planning.specs.Sets.{none, only, ◌∪◌}
use Rattle.planning.specs.Bottoms.{Bottom, RowUnder}
use Rattle.planning.proofs.Bottoms.{none_under, only_under, union_under, set_at_under, flat_bottom}
use Rattle.pad.specs.Bench.{bench_row, bench}

fits : (a : ℕ) → a < 6 → RowUnder 5 (bench_row a)
fits a l =
    let no = none_under 5 in
    let on = only_under 5 0 (lit< tt) in
    let keyed = only_under 5 1 (lit< tt) in
    let aligned = only_under 5 2 (lit< tt) in
    let sealed = only_under 5 3 (lit< tt) in
    let seen = only_under 5 4 (lit< tt) in
    let ready = union_under 5 (only 1) (only 2) keyed aligned in
    let done = union_under 5 (only 2) (only 3) aligned sealed in
    record {
      needs_under = set_at_under 5 (none ∷ only 0 ∷ only 0 ∷ (only 1 ∪ only 2) ∷ only 0 ∷ (only 2 ∪ only 3) ∷ []) (no, (on, (on, (ready, (on, (done, tt)))))) a l;
      deletes_under = set_at_under 5 (none ∷ none ∷ none ∷ only 0 ∷ (only 1 ∪ only 2) ∷ none ∷ []) (no, (no, (no, (on, (ready, (no, tt)))))) a l;
      adds_under = set_at_under 5 (only 0 ∷ only 1 ∷ only 2 ∷ only 3 ∷ only 0 ∷ only 4 ∷ []) (on, (keyed, (aligned, (sealed, (on, (seen, tt)))))) a l;
      kind_fits = omega arith;
    }

pub bench_bottom : Bottom bench
bench_bottom = flat_bottom 5 6 none (only 3) bench_row (lit≤ tt) (lit≤ tt) (none_under 5) (only_under 5 3 (lit< tt)) fits
