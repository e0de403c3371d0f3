use Rattle.std.proofs.Common.{true, get_or, refl, ◌∙◌, ap₂, arith}
use Rattle.atoms.specs.Has.{has}
use Rattle.planning.specs.Sets.{◌∪◌, ◌∖◌}
use Rattle.plans.specs.Scripts.{numbers}
use Rattle.plans.proofs.Rows.{as_many, acts_at, later_at}
use Rattle.plans.proofs.Passes.{strike_here, strike_none, strike_never, passed_more}
use Rattle.plans.proofs.script.ops.strikable.Goals as goal

pub returns-then-serves-clause-exact : goal.returns-then-serves-clause-exact
returns-then-serves-clause-exact c t few starts s =
    let script = c.args.script.now in
    let i = c.loop-i.i in
    let size = as_many script in
    let wanted = later_at t script i _ _ refl c.loop-i-test.true s.each in
    strike_here t s.lawful (numbers script) (has c.loop-i.state) i (omega arith) (c.loop-i.invariant t starts s) _ wanted (omega arith) c.if-serves.ensures

pub returns-then-not-is_applicable-clause-exact : goal.returns-then-not-is_applicable-clause-exact
returns-then-not-is_applicable-clause-exact c t few starts s =
    let script = c.args.script.now in
    let i = c.loop-i.i in
    let size = as_many script in
    let wanted = later_at t script i _ _ refl c.loop-i-test.true s.each in
    let acts = acts_at t script i _ _ refl c.loop-i-test.true s.each in
    let cannot = c.if-not-is_applicable.ensures t (get_or (numbers script) i 0) s.lawful acts in
    strike_none t s.lawful (numbers script) (has c.loop-i.state) i (omega arith) (c.loop-i.invariant t starts s) _ wanted c.if-serves.ensures (λ h. grind (arith, cannot.1 h))

pub loop-i-preserved : goal.loop-i-preserved
loop-i-preserved c t starts s =
    let script = c.args.script.now in
    let i = c.loop-i.i in
    let state = has c.loop-i.state in
    let size = as_many script in
    let wanted = later_at t script i _ _ refl c.loop-i-test.true s.each in
    let acts = acts_at t script i _ _ refl c.loop-i-test.true s.each in
    let can = (c.if-not-is_applicable.ensures t (get_or (numbers script) i 0) s.lawful acts).0 (λ _. true) in
    let next = passed_more t s.lawful (numbers script) state i (omega arith) (c.loop-i.invariant t starts s) _ wanted c.if-serves.ensures can.0 can.1 in
    (next.0, c.after-state.ensures ∙ ap₂ (λ d a. (state ∖ d) ∪ a) acts.deletes_are acts.adds_are ∙ next.1, next.2)

pub returns-clause-exact : goal.returns-clause-exact
returns-clause-exact c = grind (arith, strike_never, as_many)
