use Rattle.std.proofs.Common.{◌≡◌, ℕ, sym, ap, ◌∙◌}
use Rattle.planning.specs.Sets.{AtomSet}
use Rattle.pad.specs.Bench.{bench_row}
use Rattle.pad.proofs.bench.sets.Goals as goal

-- the sets of action k are those of a
same : {x y z : AtomSet} (a k : ℕ) → a ≡ k → x ≡ (bench_row k).needs → y ≡ (bench_row k).deletes → z ≡ (bench_row k).adds
    → (x ≡ (bench_row a).needs) × (y ≡ (bench_row a).deletes) × (z ≡ (bench_row a).adds)
same a k e p q r = (p ∙ ap (λ i. (bench_row i).needs) (sym e), q ∙ ap (λ i. (bench_row i).deletes) (sym e), r ∙ ap (λ i. (bench_row i).adds) (sym e))

pub returns-in-0 : goal.returns-in-0
returns-in-0 c = same c.args.a 0 c.in-0.is c.empty-none.ensures c.empty-none.ensures c.one.ensures

pub returns-in-1 : goal.returns-in-1
returns-in-1 c = same c.args.a 1 c.in-1.is c.one-in-1.ensures c.empty-none.ensures c.one-in-1-2.ensures

pub returns-in-2 : goal.returns-in-2
returns-in-2 c = same c.args.a 2 c.in-2.is c.one-in-2.ensures c.empty-none.ensures c.one-in-2-2.ensures

pub returns-in-3 : goal.returns-in-3
returns-in-3 c = same c.args.a 3 c.in-3.is c.two.ensures c.one-in-3.ensures c.one-in-3-2.ensures

pub returns-in-4 : goal.returns-in-4
returns-in-4 c = same c.args.a 4 c.in-4.is c.one-in-4.ensures c.two-in-4.ensures c.one-in-4-2.ensures
