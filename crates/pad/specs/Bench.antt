-- The service bench of a handwriting pad: five atoms, six actions, and their names.
use Rattle.std.specs.Prelude.{ℕ, List, [], ◌∷◌, codes, slice_index_or}
use Rattle.planning.specs.Sets.{none, only, ◌∪◌}
use Rattle.planning.specs.Tasks.{Task}
use Rattle.planning.specs.Bottoms.{Row, set_at, flat_task}

-- atoms: 0 on, 1 keyed, 2 aligned, 3 sealed, 4 seen
-- actions: 0 power-on, 1 load-keys, 2 align, 3 seal, 4 reset, 5 inspect
abbrev pub bench_row : ℕ → Row
bench_row a = record {
  needs = set_at (none ∷ only 0 ∷ only 0 ∷ (only 1 ∪ only 2) ∷ only 0 ∷ (only 2 ∪ only 3) ∷ []) a;
  deletes = set_at (none ∷ none ∷ none ∷ only 0 ∷ (only 1 ∪ only 2) ∷ none ∷ []) a;
  adds = set_at (only 0 ∷ only 1 ∷ only 2 ∷ only 3 ∷ only 0 ∷ only 4 ∷ []) a;
  kind = a;
}

abbrev pub bench : Task
bench = flat_task 5 6 none (only 3) bench_row

abbrev pub action_name : ℕ → List ℕ
action_name a = slice_index_or (codes "power-on" ∷ codes "load-keys" ∷ codes "align" ∷ codes "seal" ∷ codes "reset" ∷ codes "inspect" ∷ []) a (codes "unknown")

abbrev pub atom_name : ℕ → List ℕ
atom_name p = slice_index_or (codes "on" ∷ codes "keyed" ∷ codes "aligned" ∷ codes "sealed" ∷ codes "seen" ∷ []) p (codes "unknown")
