-- An action that does what two do, one after the other.
use Rattle.std.specs.Prelude.{◌≡◌, ◌↔◌}
use Rattle.atoms.specs.Has.{has}
use Rattle.planning.specs.Sets.{AtomSet, ◌⊆◌, ◌∪◌, ◌∖◌}
use Rattle.tasks.specs.declared.action.Action.{Action}

-- the state after an action
abbrev pub after_action : Action → AtomSet → AtomSet
after_action x s = s ∖ has x.deletes ∪ has x.adds

-- in every state: applicable exactly when the first is and then the second, and the same state afterwards
pub record Follows (first second both : Action) : Type 0 where
  pub applicable : (s : AtomSet) → (has both.needs ⊆ s) ↔ ((has first.needs ⊆ s) × (has second.needs ⊆ after_action first s))
  pub acts : (s : AtomSet) → after_action both s ≡ after_action second (after_action first s)
