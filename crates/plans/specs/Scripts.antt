-- The script of a plan over a task: what trimming the plan asks of the task, gathered once, and what each step leaves to be wanted.
use Rattle.std.specs.Prelude.{ℕ, List, [], ◌∷◌, map}
use Rattle.planning.specs.Tasks.{Task, Lawful}
use Rattle.tasks.specs.Answers.{Acts}
use Rattle.tasks.specs.Regressed.{Wanted}
use Rattle.plans.specs.declared.script.Step.{Step}

-- the plan's steps
abbrev pub numbers : List Step → List ℕ
numbers script = map (λ s. s.number) script

-- each step has the task's answer about it, and what the rest behind it wants
abbrev pub Told : Task → List Step → Type 0
Told t [] = Unit {0}
Told t (s ∷ rest) = Acts t s.number s.action × Wanted t (numbers rest) s.later × Told t rest

pub record Scripted (t : Task) (script : List Step) : Type 0 where
  pub lawful : Lawful t
  pub each : Told t script
