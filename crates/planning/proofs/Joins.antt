-- A joined action does what its two parts do, one after the other.
use Rattle.std.proofs.Common.{◌≡◌, ◌↔◌, arith}
use mathlib.Core.Path.{fun_ext}
use Rattle.planning.specs.Sets.{AtomSet, ◌∪◌, ◌∖◌, ◌⊆◌}
use Rattle.planning.specs.Tasks.{Task, after}
use Rattle.planning.specs.Macros.{joined_needs, joined_deletes, joined_adds, Joinable}
use Rattle.planning.specs.declared.join.Join.{Join}

-- the state after an action of these effects
abbrev pub moved : AtomSet → AtomSet → AtomSet → AtomSet
moved adds deletes s = s ∖ deletes ∪ adds

pub joined_state : (t : Task) (w : Join) (s : AtomSet)
    → moved (joined_adds t w) (joined_deletes t w) s ≡ after t w.second (after t w.first s)
joined_state t w s = fun_ext λ p. grind arith

pub joined_needed : (t : Task) (w : Join) (s : AtomSet) → Joinable t w.first w.second
    → (joined_needs t w ⊆ s) ↔ ((t.needs w.first ⊆ s) × (t.needs w.second ⊆ after t w.first s))
joined_needed t w s j = (λ h. (λ p n. grind (arith, h p), λ p n. grind (arith, h p, j p)), λ h p n. grind (arith, h.0 p, h.1 p))
