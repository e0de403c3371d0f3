use Rattle.planning.specs.Piles.{meaning}
use Rattle.planning.proofs.Soundness.{built_sound}
use Rattle.tasks.proofs.Steps.{lacks_none, lacks_some}
use Rattle.tasks.proofs.verdict.hold.Goals as goal

pub returns-in-None : goal.returns-in-None
returns-in-None g c b under =
    let p = g.P.Task.pile c.args.task.now in
    lacks_none (meaning p) (built_sound p b).lawful _ _ _ _ _ under c.minus-missing.ensures c.in-None.ensures

pub returns-in-Some : goal.returns-in-Some
returns-in-Some g c b under =
    let p = g.P.Task.pile c.args.task.now in
    lacks_some (meaning p) (built_sound p b).lawful _ _ _ _ _ under c.minus-missing.ensures _ _ _ c.in-Some.ensures c.count.ensures (c.first_height.ensures b)
