use Rattle.std.proofs.Common.{◌≡◌, [], ap, ◌∙◌}
use Rattle.std.specs.Result.{result_unwrap_or}
use Rattle.planning.specs.Piles.{Built, macros, meaning}
use Rattle.planning.specs.Rows.{MacroRows, macro_row}
use Rattle.layers.proofs.Additions.{added_rows}
use Rattle.bench.proofs.orders.with_macro.Goals as goal

pub returns : goal.returns
returns g c =
    let old = c.new-layer.result.rows.items in
    let none : old ≡ [] = cc c.new-layer.ensures.pile in
    let below = c.add.ensures.below ∙ c.new-layer.ensures.below in
    let p = g.T.Task.pile c.new-layer.result.below in
    let b = g.met.T.BuiltTask.built c.new-layer.result.below in
    let rows = added_rows (Built p) (MacroRows (meaning p)) (macro_row (meaning p) old c.args.row) old c.add.new.self.rows.items c.args.row c.add.result c.add.ensures.added b in
    ap (λ b. macros (g.T.Task.pile b) c.add.new.self.from c.add.new.self.rows.items) c.add.ensures.below
    ∙ ap (λ n. macros p n c.add.new.self.rows.items) (c.add.ensures.from ∙ (c.new-layer.result.built b).2)
    ∙ ap (λ rows. macros p (meaning p).actions rows) (rows ∙ ap (λ l. result_unwrap_or (macro_row (meaning p) l c.args.row) l) none)
    ∙ ap (λ b. let q = g.T.Task.pile b in macros q (meaning q).actions (result_unwrap_or (macro_row (meaning q) [] c.args.row) [])) c.new-layer.ensures.below
