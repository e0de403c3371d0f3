-- A fold or unfold of a macro of the topmost layer is refused for its form only.
use Rattle.std.proofs.Common.{◌≡◌, ℕ, List, Some, Ok, Err, sym, ap, ◌∙◌, subst}
use Rattle.planning.specs.Edits.{Edited, folded, unfolded, OnlyForm}
use Rattle.planning.specs.Macros.{macro_task}
use Rattle.planning.specs.Orders.{Held, with_plan, taken_or, fold_call, unfold_call}
use Rattle.planning.specs.Piles.{Pile, macros, Built, meaning}
use Rattle.planning.specs.Places.{action_at}
use Rattle.planning.specs.Tasks.{Task, Solves}
use Rattle.planning.specs.declared.join.Join.{Join}
use Rattle.planning.proofs.Folds.{fold_form, unfold_form}
use Rattle.planning.proofs.Soundness.{built_sound}
use Rattle.planning.specs.Verdicts.{Verdict}
use Rattle.service.specs.Calls.{TopMacro}

module _ (p : Pile) (b : Built p) (hold : Held) (r : Verdict) where
  took : (plan : List ℕ) (e : Edited) → OnlyForm e → OnlyForm (taken_or (Some plan) e).0
  took plan (Ok new) h = tt
  took plan (Err f) h = h

  -- an edit of the plan held that is refused for its form only
  edit_form : (plan : List ℕ) (f : Task → List ℕ → Edited) (below : Pile) (n : ℕ) → (rows : List Join) → p ≡ macros below n rows → hold ≡ Some plan
      → OnlyForm (f (macro_task (meaning below) rows) plan) → r ≡ (with_plan hold (λ plan. taken_or (Some plan) (f (meaning p) plan))).0 → OnlyForm r
  edit_form plan f below n rows e h form is =
      let here = subst (λ (q : Pile). OnlyForm (f (meaning q) plan)) (sym e) form in
      subst OnlyForm (sym (is ∙ ap (λ (o : Held). (with_plan o (λ plan. taken_or (Some plan) (f (meaning p) plan))).0) h)) (took plan (f (meaning p) plan) here)

  pub fold_top : (i c : ℕ) → TopMacro p hold (λ _. c) → r ≡ (fold_call (meaning p) hold i c).0 → OnlyForm r
  fold_top i c m =
      let built = subst Built m.4 b in
      let solves = subst (λ (q : Pile). Solves (meaning q) m.3) m.4 m.6 in
      edit_form m.3 (λ t plan. folded t plan i c) m.0 m.1 m.2 m.4 m.5
      (fold_form (meaning m.0) (built_sound m.0 built.0).lawful m.2 built.1 m.3 solves i c m.7)

  pub unfold_top : (i : ℕ) → TopMacro p hold (λ plan. action_at plan i) → r ≡ (unfold_call (meaning p) hold i).0 → OnlyForm r
  unfold_top i m =
      let built = subst Built m.4 b in
      let solves = subst (λ (q : Pile). Solves (meaning q) m.3) m.4 m.6 in
      edit_form m.3 (λ t plan. unfolded t plan i) m.0 m.1 m.2 m.4 m.5
      (unfold_form (meaning m.0) (built_sound m.0 built.0).lawful m.2 built.1 m.3 solves i m.7)
