use Rattle.std.proofs.Common.{sym, ap}
use Rattle.pile_trials.specs.Stacked.{stacked_is}
use Rattle.pile_trials.proofs.tall.TallTask.actions.Goals as goal

pub returns : goal.returns
returns c b = let s = c.args.self.now in sym (ap (λ t. t.actions) (stacked_is s.height s.low))
