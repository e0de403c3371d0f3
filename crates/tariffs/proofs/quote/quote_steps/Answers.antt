use Rattle.std.proofs.Common.{◌+◌, drop, sym, ap, ◌∙◌}
use Rattle.std.proofs.lemmas.List.{at_drop_more, at_drop_all}
use Rattle.planning.specs.Amounts.{total}
use Rattle.tariffs.proofs.quote.quote_steps.Goals as goal

pub loop-a-init : goal.loop-a-init
loop-a-init g c =
    let am = g.F.Amount.Amount.amounts in
    ap (λ s. am.join s (total am (g.F.Tariff.price c.args.tariff.now) c.args.steps.now)) c.nought-sum.ensures ∙ am.unit _

pub loop-a-preserved : goal.loop-a-preserved
loop-a-preserved g c =
    let am = g.F.Amount.Amount.amounts in
    let price = g.F.Tariff.price c.args.tariff.now in
    let steps = c.args.steps.now in
    let i = c.loop-a.a-index in
    ap (λ s. am.join s (total am price (drop (i + 1) steps))) (c.join-sum.ensures ∙ ap (am.join c.loop-a.sum) c.charge.ensures) ∙ am.assoc _ _ _
    ∙ ap (am.join c.loop-a.sum) (sym (at_drop_more (total am price) steps i 0 c.loop-a-test.true)) ∙ c.loop-a.invariant

pub returns : goal.returns
returns g c =
    let am = g.F.Amount.Amount.amounts in
    let price = g.F.Tariff.price c.args.tariff.now in
    let s = c.loop-a.sum in
    sym (ap (am.join s) (at_drop_all (total am price) c.args.steps.now c.loop-a.a-index c.loop-a-test.false) ∙ am.comm s am.nought ∙ am.unit s)
    ∙ c.loop-a.invariant
