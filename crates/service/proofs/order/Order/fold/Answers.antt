use Rattle.std.proofs.Common.{rules}
use Rattle.planning.specs.Orders.{fold_call}
use Rattle.planning.specs.Piles.{Built, meaning}
use Rattle.service.specs.Calls.{held, Does}
use Rattle.service.proofs.Forms.{fold_top}
use Rattle.service.proofs.order.Order.fold.Goals as goal

pub returns-clause-form : goal.returns-clause-form
returns-clause-form g c b m =
    let o = c.args.self.now in
    let p = g.P.Task.pile o.pile in
    let does : Does (Built p) (fold_call (meaning p) (held o.plan) c.args.i c.args.c) o c.replace.result c.replace.new.self = search rules in
    fold_top p b (held o.plan) c.replace.result c.args.i c.args.c m (does.answers b)
