use Rattle.std.proofs.Common.{◌≡◌, length, drop}
use Rattle.planning.specs.Piles.{Built, meaning}
use Rattle.service.specs.Calls.{held}
use Rattle.service.proofs.Carrying.{RunTo}
use Rattle.service.proofs.order.Order.carry_out.Given as goal

abbrev pub invariant-loop-i : goal.invariant-loop-i
invariant-loop-i g l =
    let p = g.P.Task.pile l.initial.self.pile in
    (l.self.pile ≡ l.initial.self.pile) × (l.self.tariff ≡ l.initial.self.tariff)
    × (drop (length l.calls) l.answers ≡ drop (length l.calls) l.initial.answers)
    × (Built p → RunTo g.F.Amount.Amount.amounts l.calls (g.F.Tariff.price l.initial.self.tariff) (meaning p) (held l.initial.self.plan) l.i l.answers (held l.self.plan))
