-- What the answers of the task interface say.
use Rattle.std.specs.Prelude.{◌≡◌, ℕ, List, take}
use Rattle.atoms.specs.Has.{has}
use Rattle.planning.specs.Tasks.{Task}
use Rattle.tasks.specs.declared.action.Action.{Action}
use Rattle.tasks.specs.declared.base_steps.BaseSteps.{BaseSteps}

abbrev pub listed : BaseSteps → List ℕ
listed b = take b.len b.steps

-- the answer is action a of the task
pub record Acts (t : Task) (a : ℕ) (r : Action) : Type 0 where
  pub needs_are : has r.needs ≡ t.needs a
  pub deletes_are : has r.deletes ≡ t.deletes a
  pub adds_are : has r.adds ≡ t.adds a
  pub kind_is : r.kind ≡ t.kind a
