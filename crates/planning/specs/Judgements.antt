-- What the judge's answer says of a plan over a built pile.
use Rattle.std.specs.Prelude.{◌≡◌, ℕ, ◌≤◌, List, length, is_ok, Decides}
use Rattle.planning.specs.Tasks.{Solves}
use Rattle.planning.specs.Verdicts.{Verdict, judged, Means}
use Rattle.planning.specs.Piles.{Pile, Known, Good, Sound, meaning}

pub record Judgement (p : Pile) (plan : List ℕ) (r : Verdict) : Type 0 where
  pub exact : r ≡ judged (meaning p) plan
  -- accepted: it solves the task; refused: every earlier step passes, and this is what the one at the fault's place lacks
  pub means : Means (meaning p) plan r
  -- accepted exactly when it has at most 256 steps and solves the task of the pile
  pub solves : Decides (is_ok r) ((length plan ≤ 256) × Solves (meaning p) plan)
  -- or, without the pile's task: when its actions are known, and written out it solves the bottom task and keeps each layer's rule
  pub good : Decides (is_ok r) ((length plan ≤ 256) × Known (meaning p) plan × Good p plan)
  pub sound : Sound p
