use Rattle.std.proofs.Common.{rules}
use Rattle.planning.specs.Orders.{unfold_call}
use Rattle.planning.specs.Piles.{Built, meaning}
use Rattle.service.specs.Calls.{held, Does}
use Rattle.service.proofs.Forms.{unfold_top}
use Rattle.service.proofs.order.Order.unfold.Goals as goal

pub returns-clause-form : goal.returns-clause-form
returns-clause-form g c b m =
    let o = c.args.self.now in
    let p = g.P.Task.pile o.pile in
    let does : Does (Built p) (unfold_call (meaning p) (held o.plan) c.args.i) o c.replace.result c.replace.new.self = search rules in
    unfold_top p b (held o.plan) c.replace.result c.args.i m (does.answers b)
