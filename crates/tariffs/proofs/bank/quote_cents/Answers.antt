use Rattle.std.proofs.Common.{ap, ◌∙◌, arith}
use Rattle.planning.specs.Amounts.{total}
use Rattle.tariffs.specs.Laws.{cents_amounts}
use Rattle.tariffs.specs.Prices.{bank_price}
use Rattle.tariffs.proofs.Plain.{cents_plain}
use Rattle.tariffs.proofs.bank.quote_cents.Goals as goal

pub returns-clause-plain : goal.returns-clause-plain
returns-clause-plain c l =
    let is = c.quote_steps.ensures ∙ ap (λ row. total cents_amounts (bank_price row) c.args.steps.now) c.new.ensures in
    ap (λ x. x.value) is ∙ cents_plain c.args.cents.now c.args.steps.now (λ i. omega (arith, c.type_inv.cents i)) l
