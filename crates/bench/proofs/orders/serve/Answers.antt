use Rattle.std.proofs.Common.{ℕ, List, map, MatchResult, Ok, Err, Result, ap, ◌∙◌, subst}
use Rattle.planning.specs.Orders.{Held}
use Rattle.planning.specs.Piles.{Pile, bare, ruled, macros, meaning}
use Rattle.planning.specs.Runs.{Log, log_of, RunFrom, QuotedTerm}
use Rattle.tariffs.specs.Laws.{cents_amounts}
use Rattle.tariffs.specs.Prices.{bank_price}
use Rattle.service.specs.Calls.{held, call_of, answer_of}
use Rattle.tariffs.specs.declared.cents.Cents.{Cents}
use Rattle.bench.specs.Piles.{service_pile}
use Rattle.pad.specs.Bench.{bench}
use Rattle.pad.specs.Grounded.{bench_bottom}
use Rattle.bench.proofs.orders.serve.Goals as goal

of_ok : {X F : Type 0} {P Q : X → Type 0} → ((x : X) → P x → Q x) → (r : Result X F) → MatchResult r P (λ _. ⊥) → MatchResult r Q (λ _. ⊥)
of_ok f (Ok x) p = f x p
of_ok f (Err x) p = absurd p

-- what the clause says, of a plan held at first, a pile and prices
abbrev Says : Log Cents → Held → Cents → Held → Pile → List ℕ → Type 0
Says row plan quote first p cents = RunFrom cents_amounts (bank_price cents) (meaning p) first row plan × QuotedTerm cents_amounts (bank_price cents) p row plan quote

pub returns-clause-term : goal.returns-clause-term
returns-clause-term c fits =
    let row = log_of (map call_of c.args.calls.now) (map answer_of c.carry_out.new.answers) in
    let plan = held c.carry_out.new.self.plan in
    let order = c.open-order.result in
    let o = order.pile in
    let opened = macros (ruled (ruled (bare bench) o.below.below.from o.below.below.rule o.below.below.listed.items) o.below.from o.below.rule o.below.listed.items) o.from o.rows.items in
    let pile = ap (λ o. macros (ruled (ruled (bare bench) o.below.below.from o.below.below.rule o.below.below.listed.items) o.below.from o.below.rule o.below.listed.items) o.from o.rows.items) c.open-order.ensures.pile ∙ c.service_pile.ensures in
    let prices = ap (λ f. f.cents.now) c.open-order.ensures.tariff ∙ c.new.ensures in
    of_ok (λ quote carried.
    let said = subst (λ (first : Held). Says row plan quote first service_pile c.args.prices.now) c.open-order.ensures.plan
    (subst (λ (p : Pile). Says row plan quote (held order.plan) p c.args.prices.now) pile
    (subst (λ (cents : List ℕ). Says row plan quote (held order.plan) opened cents) prices (carried.ran, carried.term c.open-order.ensures.plan))) in
    (plan, said.0, said.1))
    c.carry_out.result (c.carry_out.ensures.carried (o.built (o.below.built (o.below.below.built bench_bottom))) fits)
