use Rattle.pile_trials.specs.Grounded.{wide_bottom}
use Rattle.pile_trials.proofs.wide.Wide.judge.Goals as goal

pub returns : goal.returns
returns c = (c.judge.ensures.judgement (wide_bottom c.args.self.actions c.args.self.few)).exact
