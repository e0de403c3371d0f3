use Rattle.std.proofs.Common.{◌≡◌, [], ap, ◌∙◌}
use Rattle.std.specs.Result.{result_unwrap_or}
use Rattle.planning.specs.Bottoms.{Bottom}
use Rattle.planning.specs.Macros.{macro_task}
use Rattle.planning.specs.Rows.{MacroRows, macro_row}
use Rattle.planning.specs.Verdicts.{judged}
use Rattle.layers.proofs.Additions.{added_rows}
use Rattle.pad.specs.Bench.{bench}
use Rattle.pad.specs.Grounded.{bench_bottom}
use Rattle.pad.proofs.piles.judge_joined.Goals as goal

pub returns : goal.returns
returns c =
    let w = c.args.row in
    let old = c.new-layer.result.rows.items in
    let none : old ≡ [] = cc c.new-layer.ensures.pile in
    let rows = added_rows (Bottom bench) (MacroRows bench) (macro_row bench old w) old c.add.new.self.rows.items w c.add.result c.add.ensures.added bench_bottom in
    (c.judge.ensures.judgement (c.add.new.self.built bench_bottom)).exact
    ∙ ap (λ rows. judged (macro_task bench rows) c.args.plan.now) (rows ∙ ap (λ l. result_unwrap_or (macro_row bench l w) l) none)
