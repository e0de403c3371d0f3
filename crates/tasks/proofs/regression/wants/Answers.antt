use Rattle.std.proofs.Common.{◌≡◌, ◌+◌, ◌-◌, length, Some, None, sym, subst, arith}
use Rattle.std.proofs.lemmas.List.{length_push, length-reverse}
use Rattle.std.proofs.lemmas.Iterator.Adapters.{YieldsList-from_rev_slice}
use Rattle.std.proofs.lemmas.Iterator.Consumers.{YieldsList-turn, YieldsList-end}
use Rattle.atoms.specs.Has.{has}
use Rattle.planning.specs.Piles.{Built, meaning}
use Rattle.planning.proofs.Regression.{monotone}
use Rattle.planning.proofs.Soundness.{built_sound}
use Rattle.tasks.specs.Regressed.{Wanted}
use Rattle.tasks.proofs.Backwards.{Rest, wanted_turn, wanted_none, wanted_decides}
use Rattle.tasks.proofs.regression.wants.Goals as goal

pub loop-a-preserved : goal.loop-a-preserved
loop-a-preserved g c b =
    let p = g.P.Task.pile c.args.task.now in
    let t = meaning p in
    let plan = c.args.plan.now in
    let turn = YieldsList-turn (YieldsList-from_rev_slice plan cc) c.loop-a.yielded _ c.loop-a.yielded_by _ _ c.in-Some.a c.in-Some.is c.next.ensures.steps in
    let law = (built_sound p b).lawful in
    subst (λ n. Rest t plan (has c.in_ok-want.want) (length plan - n)) (sym (length_push c.loop-a.yielded c.in-Some.a))
    (wanted_turn t plan (length c.loop-a.yielded) c.in-Some.a.now (has c.loop-a.want) (Some c.in_ok-want.want) turn (c.loop-a.invariant b)
    (c.in_ok-want.ensures t c.in-Some.a.now law (c.action.ensures b)))

pub returns-in_err-want : goal.returns-in_err-want
returns-in_err-want g c =
    let p = g.P.Task.pile c.args.task.now in
    let t = meaning p in
    let plan = c.args.plan.now in
    let n = length c.loop-a.yielded in
    let turn = YieldsList-turn (YieldsList-from_rev_slice plan cc) c.loop-a.yielded _ c.loop-a.yielded_by _ _ c.in-Some.a c.in-Some.is c.next.ensures.steps in
    let none : Built p → Wanted t plan None = λ b.
    let law = (built_sound p b).lawful in
    wanted_none t plan (length plan - (n + 1))
    (wanted_turn t plan n c.in-Some.a.now (has c.loop-a.want) None turn (c.loop-a.invariant b) (c.in_err-want.ensures t c.in-Some.a.now law (c.action.ensures b))) in
    let exact : Built p → Wanted t plan c.from_residual.result = λ b. rw c.from_residual.ensures (none b) in
    record { exact = exact; regression = λ b. wanted_decides t plan c.from_residual.result (exact b); monotone = λ s s'. monotone t s s' plan }

pub returns : goal.returns
returns g c =
    let p = g.P.Task.pile c.args.task.now in
    let t = meaning p in
    let plan = c.args.plan.now in
    let end = YieldsList-end (YieldsList-from_rev_slice plan cc) c.loop-a.yielded _ c.loop-a.yielded_by _ _ c.in-None.is c.next.ensures.steps in
    let start : length plan - length c.loop-a.yielded ≡ 0 = omega (arith, end.1, length-reverse plan) in
    let exact : Built p → Wanted t plan (Some c.loop-a.want) = λ b. subst (Rest t plan (has c.loop-a.want)) start (c.loop-a.invariant b) in
    record { exact = exact; regression = λ b. wanted_decides t plan (Some c.loop-a.want) (exact b); monotone = λ s s'. monotone t s s' plan }
