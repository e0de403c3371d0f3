use Rattle.std.proofs.Common.{◌≡◌, [], ap, ◌∙◌, ap₂}
use Rattle.std.specs.Result.{result_unwrap_or}
use Rattle.planning.specs.Bottoms.{Bottom}
use Rattle.planning.specs.Marks.{rule_task}
use Rattle.planning.specs.Rows.{RuleRows, rule_row}
use Rattle.planning.specs.Verdicts.{judged}
use Rattle.layers.proofs.Additions.{added_rows}
use Rattle.pad.specs.Bench.{bench}
use Rattle.pad.specs.Grounded.{bench_bottom}
use Rattle.pad.proofs.piles.judge_ruled.Goals as goal

pub returns : goal.returns
returns c =
    let p = c.args.p in
    let old = c.new-layer.result.listed.items in
    let none : old ≡ [] = cc c.new-layer.ensures.pile in
    let rule : c.new-layer.result.rule ≡ c.args.rule = cc c.new-layer.ensures.pile in
    let rows = added_rows (Bottom bench) (RuleRows bench) (rule_row bench old p) old c.add.new.self.listed.items p c.add.result c.add.ensures.added bench_bottom in
    (c.judge.ensures.judgement (c.add.new.self.built bench_bottom)).exact
    ∙ ap₂ (λ u listed. judged (rule_task bench u listed) c.args.plan.now) (c.add.ensures.rule ∙ rule)
    (rows ∙ ap (λ l. result_unwrap_or (rule_row bench l p) l) none)
