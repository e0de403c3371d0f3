use Rattle.std.proofs.Common.{◌<◌, Ok, ap, ◌∙◌, ap₂, arith}
use Rattle.std.proofs.lemmas.Result.{err_from_is_err_and}
use Rattle.atoms.specs.Has.{has}
use Rattle.planning.specs.Sets.{◌∪◌, ◌∖◌}
use Rattle.planning.specs.Piles.{meaning}
use Rattle.planning.proofs.Soundness.{built_sound}
use Rattle.tasks.proofs.Steps.{step_known}
use Rattle.tasks.proofs.verdict.step.Goals as goal

pub returns-in_err-hold-clause-exact : goal.returns-in_err-hold-clause-exact
returns-in_err-hold-clause-exact g c b =
    let p = g.P.Task.pile c.args.task.now in
    let e = err_from_is_err_and c.from_residual.result c.from_residual.ensures.1 in
    let known : c.args.a < (meaning p).actions = omega (arith, c.actions.ensures b) in
    rw (e.1, e.2)
    (step_known (meaning p) (built_sound p b).lawful c.args.place c.args.a (has c.args.state) _ _
    c.if-place-gt-MOST_STEPS.false known (c.action-action.ensures b).needs_are (c.in_err-hold.ensures b))

pub returns-clause-exact : goal.returns-clause-exact
returns-clause-exact g c b =
    let p = g.P.Task.pile c.args.task.now in
    let acts = c.action-action.ensures b in
    let known : c.args.a < (meaning p).actions = omega (arith, c.actions.ensures b) in
    ap Ok (c.after.ensures ∙ ap₂ (λ d a. (has c.args.state ∖ d) ∪ a) acts.deletes_are acts.adds_are)
    ∙ step_known (meaning p) (built_sound p b).lawful c.args.place c.args.a (has c.args.state) _ _
    c.if-place-gt-MOST_STEPS.false known acts.needs_are (c.in_ok-hold.ensures b)
