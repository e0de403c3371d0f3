use Rattle.std.proofs.Common.{Err, ◌+◌, length, refl, ◌∙◌, arith}
use Rattle.std.proofs.lemmas.Result.{err_from_is_err_and}
use Rattle.atoms.specs.Has.{has}
use Rattle.planning.specs.Piles.{meaning}
use Rattle.planning.proofs.Soundness.{built_sound, judgement}
use Rattle.tasks.proofs.Steps.{judged_more, judged_end}
use Rattle.tasks.proofs.verdict.judge.Goals as goal

pub returns-in_err-state-clause-judgement : goal.returns-in_err-state-clause-judgement
returns-in_err-state-clause-judgement g c b =
    let p = g.P.Task.pile c.args.task.now in
    let plan = c.args.plan.now in
    let i = c.loop-i.i in
    let e = err_from_is_err_and c.from_residual.result c.from_residual.ensures.1 in
    let more = judged_more (meaning p) (i + 1) (has c.loop-i.state) plan i c.loop-i-test.true (Err c.in_err-state.field-0.0) (c.in_err-state.ensures.exact b) in
    judgement p b plan c.from_residual.result (rw (e.1, e.2) (more ∙ c.loop-i.invariant.1 b))

pub loop-i-preserved : goal.loop-i-preserved
loop-i-preserved g c =
    let p = g.P.Task.pile c.args.task.now in
    let i = c.loop-i.i in
    let e = c.in_ok-state.ensures in
    (e.near refl, λ b. judged_more (meaning p) (i + 1) (has c.loop-i.state) c.args.plan.now i c.loop-i-test.true _ (e.exact b) ∙ c.loop-i.invariant.1 b)

pub returns-clause-judgement : goal.returns-clause-judgement
returns-clause-judgement g c b =
    let p = g.P.Task.pile c.args.task.now in
    let plan = c.args.plan.now in
    let end = judged_end (meaning p) (built_sound p b).lawful (length plan + 1) (has c.loop-i.state) (has c.goal.result) plan c.loop-i.i c.hold.result c.loop-i-test.false (omega arith) (c.goal.ensures b) (c.hold.ensures b) in
    judgement p b plan c.hold.result (end ∙ c.loop-i.invariant.1 b)
