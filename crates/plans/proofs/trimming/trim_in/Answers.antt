use Rattle.std.proofs.Common.{◌≡◌, ℕ, ◌+◌, ◌-◌, ◌<◌, ◌≤◌, List, [], ◌∷◌, ◌++◌, length, get_or, take, drop, sym, ap, ◌∙◌, subst, arith}
use Rattle.std.proofs.lemmas.List.{length_push, length-drop}
use borrow.Rule.Slice.PartMut.{put_mid, same_len_mid}
use Rattle.planning.specs.Piles.{meaning}
use Rattle.planning.specs.Trims.{left_out}
use Rattle.plans.specs.Scripts.{Scripted, numbers}
use Rattle.plans.specs.Steps.{steps_of}
use Rattle.plans.proofs.Rows.{as_many}
use Rattle.plans.proofs.Gap.{part, freed}
use Rattle.plans.proofs.Rounds.{Leads, leads_on, leads_last}
use Rattle.plans.proofs.trimming.trim_in.Goals as goal

pub loop-i-preserved : goal.loop-i-preserved
loop-i-preserved g c =
    let t = meaning (g.P.Task.pile c.args.task.now) in
    let plan = steps_of c.args.plan.now in
    let room = c.loop-i.room in
    let first = c.loop-i.first in
    let before = c.loop-i.invariant in
    let script = take (length room - first) (drop first room) in
    let whole : script ≡ drop first room = part room first before.within in
    let size : length script + first ≡ length room = omega (arith, ap length whole, length-drop first room, before.within) in
    let i = c.in-Some.i in
    let inside : i < length (numbers script) = c.in-Some.ensures.inside in
    let few : length plan ≤ 256 = omega (arith, c.as_slice.ensures.few, ap length c.as_slice.ensures.value) in
    let new = c.leave_out.new.script in
    let after : drop (first + 1) (put_mid first (length room - first) room new) ≡ drop 1 new = freed room first before.within new in
    let left : numbers (drop (first + 1) (put_mid first (length room - first) room new)) ≡ left_out (numbers script) i =
    ap (λ x. numbers x) after ∙ c.leave_out.ensures.plan in
    let long = same_len_mid first (length room - first) room new c.leave_out.auto.script in
    let pushed : steps_of c.push.new.self ≡ steps_of c.loop-i.gone ++ get_or (numbers script) i 0 ∷ [] =
    c.push.ensures (omega (arith, as_many script, before.size, before.free)) ∙ ap (λ a. steps_of c.loop-i.gone ++ a ∷ []) c.leave_out.ensures.number in
    record {
      size = long ∙ before.size;
      free = omega (arith, ap length pushed, length_push (steps_of c.loop-i.gone) (get_or (numbers script) i 0), before.free);
      within = omega (arith, long, as_many script);
      scripted = λ b. subst (Scripted t) (sym after) (c.leave_out.ensures.scripted t (subst (Scripted t) (sym whole) (before.scripted b)));
      leads = λ b.
          let scripted : Scripted t script = subst (Scripted t) (sym whole) (before.scripted b) in
          let leads : Leads t plan (numbers script) (steps_of c.loop-i.gone) = subst (λ (x : List _). Leads t plan (numbers x) (steps_of c.loop-i.gone)) (sym whole) (before.leads b) in
          let exact = c.in-Some.ensures.exact t (omega (arith, before.size)) (c.initial-start.ensures b) scripted in
          subst (λ (x : List ℕ). Leads t plan x (steps_of c.push.new.self)) (sym left)
          (subst (λ (x : List ℕ). Leads t plan (left_out (numbers script) i) x) (sym pushed)
          (leads_on t plan (numbers script) (steps_of c.loop-i.gone) i inside exact leads));
    }

pub returns-clause-plan : goal.returns-clause-plan
returns-clause-plan g c b =
    let t = meaning (g.P.Task.pile c.args.task.now) in
    let room = c.loop-i.room in
    let first = c.loop-i.first in
    let before = c.loop-i.invariant in
    let script = take (length room - first) (drop first room) in
    let whole : script ≡ drop first room = part room first before.within in
    let few : length script ≤ 256 = omega (arith, ap length whole, length-drop first room, c.as_slice.ensures.few, ap length c.as_slice.ensures.value, before.size) in
    let exact = c.in_default.ensures.exact t few (c.initial-start.ensures b) (subst (Scripted t) (sym whole) (before.scripted b)) in
    let leads = subst (λ (x : List _). Leads t (steps_of c.args.plan.now) (numbers x) (steps_of c.loop-i.gone)) (sym whole) (before.leads b) in
    c.plan.ensures few ∙ (leads_last t (steps_of c.args.plan.now) (numbers script) (steps_of c.loop-i.gone) exact leads).0

pub returns-clause-gone : goal.returns-clause-gone
returns-clause-gone g c b =
    let t = meaning (g.P.Task.pile c.args.task.now) in
    let room = c.loop-i.room in
    let first = c.loop-i.first in
    let before = c.loop-i.invariant in
    let script = take (length room - first) (drop first room) in
    let whole : script ≡ drop first room = part room first before.within in
    let few : length script ≤ 256 = omega (arith, ap length whole, length-drop first room, c.as_slice.ensures.few, ap length c.as_slice.ensures.value, before.size) in
    let exact = c.in_default.ensures.exact t few (c.initial-start.ensures b) (subst (Scripted t) (sym whole) (before.scripted b)) in
    let leads = subst (λ (x : List _). Leads t (steps_of c.args.plan.now) (numbers x) (steps_of c.loop-i.gone)) (sym whole) (before.leads b) in
    (leads_last t (steps_of c.args.plan.now) (numbers script) (steps_of c.loop-i.gone) exact leads).1
