-- What the bench calls an action or an atom; a macro, an unknown action and a mark have a number alone.
use Rattle.std.specs.Prelude.{ℕ, List, ◌++◌, if◌then◌else◌, nat_lt, codes}
use Rattle.std.specs.Fmt.{decimal}
use Rattle.pad.specs.Bench.{action_name, atom_name}
use Rattle.bench.specs.declared.show.Name.{Name}
use Rattle.bench.specs.declared.show.Name.TheVariants.{Action, Atom}

abbrev pub name_text : Name → List ℕ
name_text (Action a) = if nat_lt a 6 then action_name a else codes "action-" ++ decimal a
name_text (Atom p) = if nat_lt p 5 then atom_name p else codes "mark-" ++ decimal p
