use Rattle.std.proofs.Common.{sym, subst, rules}
use Rattle.tasks.specs.Answers.{Acts}
use Rattle.pile_trials.specs.Stacked.{stacked_is}
use Rattle.pile_trials.specs.Tall.{tall}
use Rattle.pile_trials.proofs.tall.TallTask.action.Goals as goal

pub returns : goal.returns
returns c b =
    let s = c.args.self.now in
    let unknown : Acts (tall s.height) c.args.a c.unknown.result = search rules in
    subst (λ t. Acts t c.args.a c.unknown.result) (sym (stacked_is s.height s.low)) unknown
