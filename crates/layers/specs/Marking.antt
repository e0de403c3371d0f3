-- Of which atoms an action needs, deletes and adds the mark.
use Rattle.std.specs.Prelude.{◌≡◌, ℕ}
use Rattle.atoms.specs.Has.{has}
use Rattle.planning.specs.Marks as planning
use Rattle.layers.specs.declared.marks.Marks.{Marks}

pub record MarksOf (m : planning.Marks) (a : ℕ) (r : Marks) : Type 0 where
  pub needs_are : has r.needs ≡ m.needs a
  pub deletes_are : has r.deletes ≡ m.deletes a
  pub adds_are : has r.adds ≡ m.adds a
