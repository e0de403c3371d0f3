-- Every built pile is sound: it keeps the limits, accepts exactly the good plans, and spells its plans out by base steps.
use Rattle.std.proofs.Common.{◌≡◌, ℕ, ◌≤◌, Bool, ◌↔◌, List, [], ◌∷◌, ◌++◌, length, is_ok, Decides, sym, refl, ap, ◌∙◌, subst}
use mathlib.Core.Logic.Iff
use Rattle.std.specs.List.{flat_map}
use Rattle.planning.specs.Tasks.{Task, Lawful, Solves}
use Rattle.planning.specs.Bottoms.{Bottom}
use Rattle.planning.specs.Rules.{KeepsBy}
use Rattle.planning.specs.Marks.{marks_by, marks_of, mark_task}
use Rattle.planning.specs.Macros.{spread}
use Rattle.planning.specs.Rows.{RuleRows, MacroRows}
use Rattle.planning.specs.Verdicts.{Verdict, judged}
use Rattle.planning.specs.Piles.{Pile, bare, ruled, macros, Built, Known, Good, Sound, meaning}
use Rattle.planning.specs.Judgements.{Judgement}
use Rattle.planning.specs.declared.join.Join.{Join}
use Rattle.planning.specs.declared.rule.Rule.{Rule}
use Rattle.planning.specs.declared.rule.RuleSort.{RuleSort}
use Rattle.planning.specs.declared.rule.RuleSort.TheVariants.{Successor, Predecessor}
use Rattle.planning.proofs.Marked.{OfKnown, mark_lawful}
use Rattle.planning.proofs.Successor.{successor_iff, successor_known}
use Rattle.planning.proofs.Predecessor.{predecessor_iff, predecessor_known}
use Rattle.planning.proofs.Macros.{spread_iff, spread_known, spread_based, macro_lawful}
use Rattle.planning.proofs.Plans.{reaches_known}
use Rattle.planning.proofs.Verdicts.{judged_means, judged_decides}

bare_spelled : (t : Task) → Bottom t → (plan : List ℕ) → Known t plan → plan ≡ flat_map t.base_steps plan
bare_spelled t b [] k = refl
bare_spelled t b (a ∷ plan) k =
    ap (λ x. a ∷ x) (bare_spelled t b plan k.1) ∙ ap (λ x. x ++ flat_map t.base_steps plan) (sym (b.alone a k.0))

-- the rule of a layer is what its marks say
rule_iff : (sort : RuleSort) (t : Task) (o1 o2 : ℕ) (strict : Bool) (listed plan : List ℕ) → Lawful t
    → Solves (mark_task t listed (marks_by sort t o1 o2 strict)) plan ↔ (Solves t plan × KeepsBy sort t o1 o2 strict listed plan)
rule_iff Successor t o1 o2 strict listed plan law = successor_iff t o1 o2 strict listed plan law
rule_iff Predecessor t o1 o2 strict listed plan law = predecessor_iff t o1 o2 strict listed plan law

marks_known : (sort : RuleSort) (t : Task) (o1 o2 : ℕ) (strict : Bool) → Lawful t → OfKnown t (marks_by sort t o1 o2 strict)
marks_known Successor = successor_known
marks_known Predecessor = predecessor_known

rule_sound : (p : Pile) (n : ℕ) (rule : Rule) (listed : List ℕ) → Sound p → RuleRows (meaning p) listed → Sound (ruled p n rule listed)
rule_sound p n rule listed s rows = record {
  lawful = mark_lawful (meaning p) listed (marks_of (meaning p) rule) s.lawful rows
      (marks_known rule.sort (meaning p) rule.first rule.second rule.strict s.lawful);
  faithful = λ plan known.
      let here = rule_iff rule.sort (meaning p) rule.first rule.second rule.strict listed plan s.lawful in
      let below = s.faithful plan known in (
        λ h. let g = here.0 h in ((below.0 g.0).0, ((below.0 g.0).1, g.1)),
        λ h. here.1 (below.1 (h.0, h.1.0), h.1.1),
      );
  spelled = s.spelled;
}

macros_sound : (p : Pile) (n : ℕ) (rows : List Join) → Sound p → MacroRows (meaning p) rows → Sound (macros p n rows)
macros_sound p n rows s fit = record {
  lawful = macro_lawful (meaning p) rows s.lawful fit;
  faithful = λ plan known. Iff.trans
      (spread_iff (meaning p) rows fit (meaning p).initial plan known)
      (s.faithful (spread (meaning p).actions rows plan) (spread_known (meaning p) rows fit plan known));
  spelled = λ plan known. s.spelled (spread (meaning p).actions rows plan) (spread_known (meaning p) rows fit plan known) ∙ spread_based (meaning p) rows plan known;
}

pub built_sound : (p : Pile) → Built p → Sound p
built_sound (bare t) b = record {
  lawful = b.lawful;
  faithful = λ plan known. (λ h. (h, tt), λ h. h.0);
  spelled = bare_spelled t b;
}
built_sound (ruled p n rule listed) b = rule_sound p n rule listed (built_sound p b.0) b.1
built_sound (macros p n rows) b = macros_sound p n rows (built_sound p b.0) b.1

-- a plan is accepted exactly when it has at most 256 known actions and is good
judged_good : (p : Pile) → Built p → (plan : List ℕ) → Decides (is_ok (judged (meaning p) plan)) ((length plan ≤ 256) × Known (meaning p) plan × Good p plan)
judged_good p b plan =
    let sound = built_sound p b in
    let d = judged_decides (meaning p) sound.lawful plan in (
      λ e. let h = d.0 e in
          let known = reaches_known (meaning p) (meaning p).initial plan h.1 in
          (h.0, known, (sound.faithful plan known).0 h.1),
      λ h. d.1 (h.0, (sound.faithful plan h.1).1 h.2),
    )

pub judgement : (p : Pile) → Built p → (plan : List ℕ) (r : Verdict) → r ≡ judged (meaning p) plan → Judgement p plan r
judgement p b plan r e = subst (Judgement p plan) (sym e) (record {
  exact = refl;
  means = judged_means (meaning p) (built_sound p b).lawful plan;
  solves = judged_decides (meaning p) (built_sound p b).lawful plan;
  good = judged_good p b plan;
  sound = built_sound p b;
})
