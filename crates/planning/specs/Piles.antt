-- A pile: a bottom task with layers stacked on it, and what it means.
use Rattle.std.specs.Prelude.{◌≡◌, ℕ, ◌<◌, ◌↔◌, List}
use Rattle.std.specs.List.{flat_map, AllByRecursion}
use Rattle.planning.specs.Tasks.{Task, Lawful, Solves}
use Rattle.planning.specs.Bottoms.{Bottom}
use Rattle.planning.specs.Rules.{KeepsRule}
use Rattle.planning.specs.Marks.{rule_task, higher}
use Rattle.planning.specs.Macros.{macro_task, spread}
use Rattle.planning.specs.Rows.{RuleRows, MacroRows}
use Rattle.planning.specs.declared.join.Join.{Join}
use Rattle.planning.specs.declared.rule.Rule.{Rule}

-- a bottom; a rule layer with its listed atoms, or a macro layer with its rows, on a pile, with the number that its marks or macros
-- begin at
pub data Pile : Type 0 where
  bare : Task → Pile
  ruled : Pile → ℕ → Rule → List ℕ → Pile
  macros : Pile → ℕ → List Join → Pile

-- the task that the whole pile means
abbrev pub meaning : Pile → Task
meaning (bare t) = t
meaning (ruled p n rule listed) = rule_task (meaning p) rule listed
meaning (macros p n rows) = macro_task (meaning p) rows

abbrev pub bottom : Pile → Task
bottom (bare t) = t
bottom (ruled p n rule listed) = bottom p
bottom (macros p n rows) = bottom p

-- a plan written out down the pile, from the top: a rule layer leaves it unchanged
abbrev pub written : Pile → List ℕ → List ℕ
written (bare t) plan = plan
written (ruled p n rule listed) plan = written p plan
written (macros p n rows) plan = written p (spread (meaning p).actions rows plan)

-- a plan keeps the rule of each layer, which speaks of the plan written out down to that layer; a macro layer has none
abbrev pub Keeps : Pile → List ℕ → Type 0
Keeps (bare t) plan = Unit {0}
Keeps (ruled p n rule listed) plan = Keeps p plan × KeepsRule (meaning p) rule listed plan
Keeps (macros p n rows) plan = Keeps p (spread (meaning p).actions rows plan)

-- the bottom is one, every row of every layer is one that its layer accepts, and its marks or macros begin behind what is below
abbrev pub Built : Pile → Type 0
Built (bare t) = Bottom t
Built (ruled p n rule listed) = Built p × RuleRows (meaning p) listed × (n ≡ (meaning p).atoms)
Built (macros p n rows) = Built p × MacroRows (meaning p) rows × (n ≡ (meaning p).actions)

-- a task one higher, and otherwise the same: what an empty layer means
abbrev pub raised : Task → Task
raised t = record {
  atoms = t.atoms;
  actions = t.actions;
  initial = t.initial;
  goal = t.goal;
  needs = t.needs;
  deletes = t.deletes;
  adds = t.adds;
  kind = t.kind;
  base_steps = t.base_steps;
  parts = t.parts;
  height = higher t.height;
  first_height = t.first_height;
}

abbrev pub Known : Task → List ℕ → Type 0
Known t plan = AllByRecursion (λ a. a < t.actions) plan

-- the plan written out solves the bottom task, and it keeps each layer's rule
abbrev pub Good : Pile → List ℕ → Type 0
Good p plan = Solves (bottom p) (written p plan) × Keeps p plan

-- the pile's task accepts exactly the good plans
abbrev pub Faithful : Pile → Type 0
Faithful p = (plan : List ℕ) → Known (meaning p) plan → Solves (meaning p) plan ↔ Good p plan

-- a plan written out is its base steps in a row
abbrev pub Spelled : Pile → Type 0
Spelled p = (plan : List ℕ) → Known (meaning p) plan → written p plan ≡ flat_map (meaning p).base_steps plan

pub record Sound (p : Pile) : Type 0 where
  pub lawful : Lawful (meaning p)
  pub faithful : Faithful p
  pub spelled : Spelled p
