use Rattle.std.proofs.lemmas.Result.{err_from_is_err_and}
use Rattle.planning.specs.Piles.{Built, meaning}
use Rattle.planning.specs.Rows.{RuleRows, rule_row}
use Rattle.planning.proofs.Rows.{rule_row_decides}
use Rattle.layers.proofs.Additions.{added_none, fits_more, added_one}
use Rattle.layers.proofs.rule_layer.RuleLayer.add.Goals as goal

pub returns-in_err-check-clause-added : goal.returns-in_err-check-clause-added
returns-in_err-check-clause-added g c =
    let l = c.args.self.now in
    let t = meaning (g.T.Task.pile l.below) in
    let e = err_from_is_err_and c.from_residual.result c.from_residual.ensures.1 in
    rw (e.1, e.2) (added_none _ _ _ _ _ (λ b. rule_row_decides t l.listed.items c.args.p) (λ b. (l.built b).1) c.in_err-check.field-0.0 c.in_err-check.ensures.exact)

pub invariant_of-self : goal.invariant_of-self
invariant_of-self g c =
    let l = c.args.self.now in
    let p = g.T.Task.pile l.below in
    let t = meaning p in
    let rows = fits_more (Built p) (RuleRows t) (rule_row t l.listed.items c.args.p) l.listed.items c.args.p (λ b. rule_row_decides t l.listed.items c.args.p)
    (λ b. (l.built b).1) c.in_ok-check.ensures.exact in
    record { built = λ b. (b, rw c.push.ensures.items (rows b), (l.built b).2) }

pub returns-clause-added : goal.returns-clause-added
returns-clause-added g c =
    let l = c.args.self.now in
    let t = meaning (g.T.Task.pile l.below) in
    added_one _ _ _ _ _ (λ b. rule_row_decides t l.listed.items c.args.p) (λ b. (l.built b).1) _ c.push.ensures.items c.in_ok-check.ensures.exact
