use Rattle.std.proofs.Common.{Some, Ok, ap, ◌∙◌}
use Rattle.planning.specs.Orders.{charge}
use Rattle.planning.specs.Piles.{meaning}
use Rattle.plans.specs.Steps.{steps_of}
use Rattle.service.specs.Calls.{held}
use Rattle.service.proofs.Trimming.{few, held_trims, held_idle}
use Rattle.service.proofs.order.Order.trim.Goals as goal

pub returns-clause-means : goal.returns-clause-means
returns-clause-means g c b ok row left e f =
    let o = c.args.self.now in
    held_trims (g.P.Task.pile o.pile) b (held o.plan) (steps_of c.in-Some.plan) (steps_of c.trim-trimmed.result.plan) row left
    (ap held c.in-Some.is) (few c.in-Some.plan) (c.trim-trimmed.ensures.plan b) e f

pub returns-clause-idle : goal.returns-clause-idle
returns-clause-idle g c b row e spare =
    let o = c.args.self.now in
    let p = g.P.Task.pile o.pile in
    let h = held_idle p b (held o.plan) (steps_of c.in-Some.plan) row (ap held c.in-Some.is) e spare in (
      ap Ok (c.charge_all-credit.ensures b ∙ ap (charge g.F.Amount.Amount.amounts (g.F.Tariff.price o.tariff) (meaning p)) (c.as_slice.ensures.value ∙ c.trim-trimmed.ensures.gone b ∙ h.1)),
      ap Some (c.trim-trimmed.ensures.plan b ∙ h.0),
    )
