use Rattle.std.proofs.Common.{◌≡◌, [], ◌∷◌, subst, rules}
use Rattle.std.proofs.lemmas.Fn.{fold_over, slice_gives, fronts}
use Rattle.planning.specs.Orders.{charge}
use Rattle.planning.specs.Piles.{meaning}
use Rattle.planning.proofs.Charges.{charge_append}
use Rattle.service.proofs.order.Order.charge_all.Goals as goal

pub returns : goal.returns
returns g c b =
    let am = g.F.Amount.Amount.amounts in
    let o = c.args.self.now in
    let price = g.F.Tariff.price o.tariff in
    let t = meaning (g.P.Task.pile o.pile) in
    subst (λ row. c.fold.result ≡ charge am price t row) c.iter.ensures.rest
    (fold_over fronts (λ y. y.now) _ (λ ys sum. sum ≡ charge am price t ys) _ (λ ys a x r f' j k. let more = charge_append am price t ys (x.now ∷ []) in search rules)
    _ _ _ _ (slice_gives c.iter.result) c.nought.ensures c.fold.ensures.ran)
