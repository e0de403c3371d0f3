-- The digit that is set is the atom's.
use Rattle.std.proofs.Common.{◌≡◌, length, rules}
use mathlib.Core.Path.{fun_ext}
use Rattle.std.proofs.lemmas.Bool.{lt-ltb}
use Rattle.atoms.proofs.Sets.{has_inserted}
use Rattle.atoms.proofs.set.Atoms.insert.Goals as goal

pub returns-then-p-lt320 : goal.returns-then-p-lt320
returns-then-p-lt320 c =
    let n : length c.args.self.words ≡ 5 = search rules in
    let h = c.if-p-lt320.true in
    fun_ext (λ q. rw (lt-ltb _ _ h, c.from.ensures) (has_inserted c.args.self c.args.p n h q))
