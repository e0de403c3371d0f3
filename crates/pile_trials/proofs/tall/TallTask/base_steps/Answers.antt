use Rattle.std.proofs.Common.{sym, ap, ◌∙◌}
use Rattle.pile_trials.specs.Stacked.{stacked_is}
use Rattle.pile_trials.proofs.tall.TallTask.base_steps.Goals as goal

pub returns : goal.returns
returns c b = let s = c.args.self.now in c.none.ensures ∙ sym (ap (λ t. t.base_steps c.args.a) (stacked_is s.height s.low))
