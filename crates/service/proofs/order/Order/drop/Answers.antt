use Rattle.std.proofs.Common.{◌≡◌, Ok, rules}
use Rattle.planning.specs.Orders.{drop_call}
use Rattle.planning.specs.Piles.{Built, meaning}
use Rattle.service.specs.Calls.{held}
use Rattle.service.proofs.Drops.{found, drop_took}
use Rattle.service.proofs.order.Order.drop.Goals as goal

pub returns : goal.returns
returns g c =
    let o = c.args.self.now in
    let at = found (held o.plan) c.args.i c.in_ok-a.a (search rules) in
    let does = c.in_ok-replace.ensures.does at.plan at.holds at.inside in
    let call = drop_call g.F.Amount.Amount.amounts (g.F.Tariff.price o.tariff) (meaning (g.P.Task.pile o.pile)) (held o.plan) c.args.i in
    let took : Built (g.P.Task.pile o.pile) → (Ok c.charge_step-credit.result ≡ call.0) × (held c.replace.new.self.plan ≡ call.1) = λ b. drop_took g.F.Amount.Amount.amounts (g.F.Tariff.price o.tariff) (meaning (g.P.Task.pile o.pile)) (held o.plan) c.args.i c.in_ok-a.a at
    c.charge_step-credit.result (held c.replace.new.self.plan) (c.charge_step-credit.ensures b) (does.answers b) (does.leaves b) in
    record {
      pile = c.replace.ensures.pile;
      tariff = c.replace.ensures.tariff;
      kept = search rules;
      answers = λ b. (took b).0;
      leaves = λ b. (took b).1;
    }
