use Rattle.std.proofs.Common.{◌≡◌, ℕ, [], refl, ap, ◌∙◌}
use Rattle.std.specs.Result.{result_unwrap_or}
use Rattle.planning.specs.Piles.{Pile, bare, ruled, macros, meaning}
use Rattle.planning.specs.Rows.{rule_row, macro_row}
use Rattle.planning.specs.Sets as S
use Rattle.planning.specs.declared.rule.Rule.{Rule}
use Rattle.pad.specs.Bench.{bench}
use Rattle.bench.specs.Piles.{align_for_seal, reset_first, prepare, service_pile}
use Rattle.bench.proofs.orders.service_pile.Goals as goal

abbrev under : Rule → ℕ → Pile → Pile
under rule p b = ruled b (meaning b).atoms rule (result_unwrap_or (rule_row (meaning b) [] p) [])

abbrev joined : Pile → Pile
joined b = macros b (meaning b).actions (result_unwrap_or (macro_row (meaning b) [] prepare) [])

accepted : joined (under align_for_seal 2 (under reset_first 0 (bare bench))) ≡ service_pile
unfolding S.lowest
accepted = refl

pub returns : goal.returns
returns c = c.with_macro.ensures ∙ ap joined (c.under_rule-second.ensures ∙ ap (under align_for_seal 2) c.under_rule-first.ensures) ∙ accepted
