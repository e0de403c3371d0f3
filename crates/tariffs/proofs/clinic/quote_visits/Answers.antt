use Rattle.std.proofs.Common.{ap, ◌∙◌, ap₂, arith}
use Rattle.planning.specs.Amounts.{total}
use Rattle.tariffs.specs.Laws.{visits_amounts}
use Rattle.tariffs.specs.Prices.{clinic_price}
use Rattle.tariffs.proofs.Plain.{minutes_plain, visits_plain}
use Rattle.tariffs.proofs.clinic.quote_visits.Goals as goal

pub returns-clause-minutes : goal.returns-clause-minutes
returns-clause-minutes c l =
    let m = c.args.minutes.now in
    let v = c.args.visits.now in
    let steps = c.args.steps.now in
    let is = c.quote_steps.ensures ∙ ap₂ (λ m v. total visits_amounts (clinic_price m v) steps) c.new.ensures.minutes c.new.ensures.visits in
    ap (λ x. x.minutes) is ∙ minutes_plain m v steps (λ i. omega (arith, c.type_inv.minutes i)) l

pub returns-clause-visits : goal.returns-clause-visits
returns-clause-visits c l =
    let m = c.args.minutes.now in
    let v = c.args.visits.now in
    let steps = c.args.steps.now in
    let is = c.quote_steps.ensures ∙ ap₂ (λ m v. total visits_amounts (clinic_price m v) steps) c.new.ensures.minutes c.new.ensures.visits in
    ap (λ x. x.visits) is ∙ visits_plain m v steps (λ i. omega (arith, c.type_inv.visits i)) l
