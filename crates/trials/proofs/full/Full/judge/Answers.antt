use Rattle.trials.specs.Grounded.{full_bottom}
use Rattle.trials.proofs.full.Full.judge.Goals as goal

pub returns : goal.returns
returns c = (c.judge.ensures.judgement (full_bottom c.args.self.atoms c.args.self.kind c.args.self.few c.args.self.known)).exact
