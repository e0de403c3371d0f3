-- The steps of a plan record.
use Rattle.std.specs.Prelude.{ℕ, List, take}
use Rattle.plans.specs.declared.plan.Plan.{Plan}

abbrev pub steps_of : Plan → List ℕ
steps_of p = take p.len p.steps
