use Rattle.pad.specs.Grounded.{bench_bottom}
use Rattle.pad.proofs.bench.Bench.judge.Goals as goal

pub returns : goal.returns
returns c = (c.judge.ensures.judgement bench_bottom).exact
