-- Which atoms a set has.
use Rattle.std.specs.Prelude.{ℕ, ◌/◌, ◌%◌, ◌&&◌, nat_lt, slice_index}
use Rattle.planning.specs.Sets.{AtomSet, only}
use Rattle.atoms.specs.Digits.{bit}
use Rattle.atoms.specs.declared.set.Atoms.{Atoms}

-- atom p has a digit of its own: digit p % 64 of word p / 64
unfoldable pub has : Atoms → AtomSet
has a p = nat_lt p 320 && bit (slice_index a.words (p / 64)) (p % 64)

-- the atom p alone; nothing if p is past 319
abbrev pub only_atom : ℕ → AtomSet
only_atom p = λ q. nat_lt p 320 && only p q
