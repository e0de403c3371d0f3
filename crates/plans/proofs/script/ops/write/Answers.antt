use Rattle.std.proofs.Common.{◌≡◌, ◌<◌, List, [], ℕ, length, get_or, drop, Some, sym, ap, ◌∙◌, subst, arith}
use Rattle.std.specs.Slice.Iter.{iter_rest}
use Rattle.std.specs.Iterator.Adapters.{rev_source, enumerate_source, enumerate_count}
use Rattle.std.proofs.lemmas.Grind.{get_or_default_zero}
use Rattle.std.proofs.lemmas.List.{length-set, take_all, drop_all}
use Rattle.planning.specs.Piles.{meaning}
use Rattle.planning.proofs.Soundness.{built_sound}
use Rattle.tasks.specs.Answers.{Acts}
use Rattle.tasks.specs.Regressed.{Wanted}
use Rattle.plans.specs.Scripts.{numbers, Told}
use Rattle.plans.proofs.Rows.{numbers_more, told_more, wanted_more, taken_back}
use Rattle.plans.proofs.script.ops.write.Goals as goal

pub loop-i-init : goal.loop-i-init
loop-i-init g c =
    let t = meaning (g.P.Task.pile c.args.task.now) in
    let plan = c.args.plan.now in
    let script = c.args.script.now in
    let source = ap rev_source c.into_iter-i-iterator.ensures.into_iter_gives ∙ c.rev-i-items.ensures.source in
    let left = iter_rest (enumerate_source (rev_source c.into_iter-i-iterator.result)) in
    let all : left ≡ plan = ap (λ e. iter_rest (enumerate_source e)) source ∙ ap iter_rest c.enumerate.ensures.source ∙ c.iter.ensures.rest in
    let size = ap length all in
    let none : drop (length left) script ≡ [] = drop_all (length left) script (omega arith) in
    let over : drop (length left) plan ≡ [] = drop_all (length left) plan (omega arith) in
    record {
      counted = ap enumerate_count source ∙ c.enumerate.ensures.count;
      behind = all ∙ sym (take_all (length left) plan (omega arith));
      size = c.requires;
      numbered = ap (λ x. numbers x) none ∙ sym over;
      told = λ b. (subst (Told t) (sym none) tt, subst (λ (x : List ℕ). Wanted t x (Some c.goal.result)) (sym over) (tt, c.goal.ensures b));
    }

pub loop-i-preserved : goal.loop-i-preserved
loop-i-preserved g c =
    let p = g.P.Task.pile c.args.task.now in
    let t = meaning p in
    let plan = c.args.plan.now in
    let script = c.loop-i.script in
    let i = c.in-Some.i in
    let steps = c.in-Some.ensures.steps in
    let before = c.loop-i.invariant in
    let more = iter_rest (enumerate_source (rev_source c.loop-i.i-iterator)) in
    let left = iter_rest (enumerate_source (rev_source c.next.new.self)) in
    let at : i ≡ length left = omega (arith, steps.1.1, before.counted) in
    let back = taken_back plan left more c.in-Some.a.now i at before.behind steps.1.0 in
    let room : i < length script = omega (arith, back.3, before.size) in
    let number : c.in-Some.a.now ≡ get_or plan i 0 = back.2 ∙ get_or_default_zero plan i c.in-Some.a.now back.3 in
    record {
      counted = grind arith;
      behind = back.0;
      size = length-set script i _ ∙ before.size;
      numbered = numbers_more plan i (length left) (length more) at back.1 back.3 script room _ number before.numbered;
      told = λ b.
          let acts : Acts t (get_or plan i 0) c.action-action.result = subst (λ (a : ℕ). Acts t a c.action-action.result) number (c.action-action.ensures b) in
          let told = before.told b in (
            told_more plan i (length left) (length more) at back.1 back.3 script room _ number before.numbered t acts told.1 told.0,
            wanted_more plan i (length left) (length more) at back.1 back.3 t _ (c.before-want.ensures t (get_or plan i 0) (drop (length more) plan) (built_sound p b).lawful acts told.1),
          );
    }

pub returns : goal.returns
returns g c =
    let p = g.P.Task.pile c.args.task.now in
    let t = meaning p in
    let script = c.loop-i.script in
    let before = c.loop-i.invariant in
    let more = iter_rest (enumerate_source (rev_source c.loop-i.i-iterator)) in
    let end : length more ≡ 0 = omega (arith, c.in-None.ensures.steps.1) in
    record {
      plan = subst (λ (k : ℕ). numbers (drop k script) ≡ drop k c.args.plan.now) end before.numbered;
      scripted = λ b. record { lawful = (built_sound p b).lawful; each = subst (λ (k : ℕ). Told t (drop k script)) end (before.told b).0 };
    }
