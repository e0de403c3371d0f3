-- Five words of 0 have no digit.
use Rattle.std.proofs.Common.{◌%◌, ◌∙◌, ⊎_elim}
use mathlib.Core.Path.{fun_ext}
use Rattle.std.proofs.lemmas.Bool.{cases_lt}
use Rattle.atoms.proofs.Digits.{bit_none}
use Rattle.atoms.proofs.Sets.{made, has_made, has_past}
use Rattle.atoms.proofs.set.Atoms.empty.Goals as goal

pub returns : goal.returns
returns c = fun_ext (λ p. ⊎_elim (λ h. has_made (λ _. 0) p h ∙ bit_none (p % 64)) (has_past (made (λ _. 0)) p) (cases_lt p 320))
