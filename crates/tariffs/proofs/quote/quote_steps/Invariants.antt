use Rattle.std.proofs.Common.{◌≡◌, drop}
use Rattle.planning.specs.Amounts.{total}
use Rattle.tariffs.proofs.quote.quote_steps.Given as goal

-- what is joined so far and what is left come to the whole
abbrev pub invariant-loop-a : goal.invariant-loop-a
invariant-loop-a g l =
    let am = g.F.Amount.Amount.amounts in
    let price = g.F.Tariff.price l.tariff in
    am.join l.sum (total am price (drop l.a-index l.steps)) ≡ total am price l.steps
