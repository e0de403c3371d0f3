use Rattle.std.proofs.Common.{◌≡◌, ◌<◌, map, length, sym, ◌∙◌, subst, ap₂, arith}
use Rattle.std.proofs.lemmas.List.{length-map, drop-set-lt}
use Rattle.planning.specs.Orders.{quoted}
use Rattle.planning.specs.Piles.{Built, meaning}
use Rattle.planning.specs.Runs.{Log, log_of, RunFrom}
use Rattle.planning.proofs.Logs.{log_all}
use Rattle.planning.proofs.Soundness.{built_sound}
use Rattle.planning.proofs.Terms.{quoted_term}
use Rattle.service.specs.Calls.{held, call_of, answer_of}
use Rattle.service.proofs.Carrying.{run_to_more}
use Rattle.service.proofs.order.Order.carry_out.Goals as goal

pub loop-i-preserved : goal.loop-i-preserved
loop-i-preserved g c =
    let am = g.F.Amount.Amount.amounts in
    let o = c.args.self.now in
    let x = c.loop-i.self in
    let calls = c.args.calls.now in
    let answers = c.loop-i.answers in
    let i = c.loop-i.i in
    let inv = c.loop-i.invariant in
    let room : i < length answers = omega (arith, c.if-answers-calls.false, c.loop-i.auto.answers) in (
      c.perform.ensures.pile ∙ inv.0,
      c.perform.ensures.tariff ∙ inv.1,
      drop-set-lt (length calls) answers i c.perform.result c.loop-i-test.true ∙ inv.2,
      λ b.
          let here = subst (λ q. Built (g.P.Task.pile q)) (sym inv.0) b in
          run_to_more am calls g.F.Tariff.price (λ q. meaning (g.P.Task.pile q)) o.pile x.pile o.tariff x.tariff inv.0 inv.1
          (held o.plan) (held x.plan) (held c.perform.new.self.plan) answers i _ c.perform.result c.loop-i-test.true room (inv.3 b) (c.perform.ensures.exact here),
    )

pub returns : goal.returns
returns g c =
    let am = g.F.Amount.Amount.amounts in
    let o = c.args.self.now in
    let p = g.P.Task.pile o.pile in
    let price = g.F.Tariff.price o.tariff in
    let x = c.loop-i.self in
    let calls = c.args.calls.now in
    let answers = c.loop-i.answers in
    let i = c.loop-i.i in
    let inv = c.loop-i.invariant in
    let all = log_all (map call_of calls) (map answer_of answers) i (omega (arith, length-map calls call_of)) in
    record {
      pile = inv.0;
      tariff = inv.1;
      short = λ h. absurd (omega (arith, c.if-answers-calls.false));
      beyond = inv.2;
      carried = λ b l.
          let here = subst (λ q. Built (g.P.Task.pile q)) (sym inv.0) b in
          let ran = subst (λ (log : Log g.row.F-Amount.Denot). RunFrom am price (meaning p) (held o.plan) log (held x.plan)) all (inv.3 b) in
          let quotes : c.quote.result ≡ quoted am price (meaning p) (held x.plan) =
          c.quote.ensures here ∙ ap₂ (λ f q. quoted am (g.F.Tariff.price f) (meaning (g.P.Task.pile q)) (held x.plan)) inv.1 inv.0 in
          record {
            ran = ran;
            quotes = quotes;
            term = λ e.
                let log = log_of (map call_of calls) (map answer_of answers) in
                quoted_term am price p (built_sound p b) log (held x.plan) c.quote.result
                (subst (λ h. RunFrom am price (meaning p) h log (held x.plan)) e ran) quotes;
          };
    }
