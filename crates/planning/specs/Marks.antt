-- The task of a rule layer: for each listed atom p a mark, an atom more, that watches over p.
use Rattle.std.specs.Prelude.{ℕ, suc, ◌+◌, ◌-◌, Bool, true, false, cond, not, ◌&&◌, List, length, ◌==◌, nat_lt, slice_index}
use Rattle.planning.specs.Sets.{AtomSet, ◌∪◌, ◌∖◌}
use Rattle.planning.specs.Tasks.{Task}
use Rattle.planning.specs.declared.rule.Rule.{Rule}
use Rattle.planning.specs.declared.rule.RuleSort.{RuleSort}
use Rattle.planning.specs.declared.rule.RuleSort.TheVariants.{Successor, Predecessor}

-- one higher, or 255 over 255
abbrev pub higher : ℕ → ℕ
higher h = cond (nat_lt h 255) (suc h) 255

-- the set, if b
abbrev pub when : Bool → AtomSet → AtomSet
when b s = λ p. b && s p

-- s below n, and from n on the marks of those listed atoms that are in m: the k-th listed atom, from 0, has the mark n + k
abbrev pub marked : ℕ → List ℕ → AtomSet → AtomSet → AtomSet
marked n listed s m = λ p. cond (nat_lt p n) (s p) (nat_lt (p - n) (length listed) && m (slice_index listed (p - n)))

-- of which atoms there is a mark in each set of the layer's task
pub record Marks : Type 0 where
  pub initial : AtomSet
  pub goal : AtomSet
  pub needs : ℕ → AtomSet
  pub deletes : ℕ → AtomSet
  pub adds : ℕ → AtomSet

abbrev pub is_kind : Task → ℕ → ℕ → Bool
is_kind t a o = t.kind a == o

-- all marks are initial, and strict puts them all into the goal; kind o1 adding p deletes the mark, another kind adding p adds it, an
-- action that deletes p without adding it adds it; a kind other than o2 that needs p needs it
abbrev pub successor_marks : Task → ℕ → ℕ → Bool → Marks
successor_marks t o1 o2 strict = record {
  initial = λ p. true;
  goal = λ p. strict;
  needs = λ a. when (not (is_kind t a o2)) (t.needs a);
  deletes = λ a. when (is_kind t a o1) (t.adds a);
  adds = λ a. when (not (is_kind t a o1)) (t.adds a) ∪ t.deletes a ∖ t.adds a;
}

-- marks are initial unless strict; kind o1 adding p adds the mark, another kind adding p deletes it; kind o2 needing p needs it
abbrev pub predecessor_marks : Task → ℕ → ℕ → Bool → Marks
predecessor_marks t o1 o2 strict = record {
  initial = λ p. not strict;
  goal = λ p. false;
  needs = λ a. when (is_kind t a o2) (t.needs a);
  deletes = λ a. when (not (is_kind t a o1)) (t.adds a);
  adds = λ a. when (is_kind t a o1) (t.adds a);
}

abbrev pub marks_by : RuleSort → Task → ℕ → ℕ → Bool → Marks
marks_by Successor = successor_marks
marks_by Predecessor = predecessor_marks

abbrev pub marks_of : Task → Rule → Marks
marks_of t rule = marks_by rule.sort t rule.first rule.second rule.strict

abbrev pub mark_task : Task → List ℕ → Marks → Task
mark_task t listed m = record {
  atoms = t.atoms + length listed;
  actions = t.actions;
  initial = marked t.atoms listed t.initial m.initial;
  goal = marked t.atoms listed t.goal m.goal;
  needs = λ a. marked t.atoms listed (t.needs a) (m.needs a);
  deletes = λ a. marked t.atoms listed (t.deletes a) (m.deletes a);
  adds = λ a. marked t.atoms listed (t.adds a) (m.adds a);
  kind = t.kind;
  base_steps = t.base_steps;
  parts = t.parts;
  height = higher t.height;
  first_height = λ p. cond (nat_lt p t.atoms) (t.first_height p) (cond (nat_lt p (t.atoms + length listed)) (higher t.height) 0);
}

abbrev pub rule_task : Task → Rule → List ℕ → Task
rule_task t rule listed = mark_task t listed (marks_of t rule)
