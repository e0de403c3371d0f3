use Rattle.std.proofs.Common.{◌-◌, ◌%◌, ◌^◌, not, sym, ap, ◌∙◌, ⊎_elim, arith, lit<}
use mathlib.Core.Path.{fun_ext}
use Rattle.std.proofs.lemmas.Bool.{cases_lt, lt-ltb, le-ltb}
use Rattle.atoms.proofs.Digits.{bit_none, bit_not}
use Rattle.atoms.proofs.Sets.{made, has_made, has_past}
use Rattle.atoms.proofs.set.Atoms.all.Goals as goal

pub returns : goal.returns
returns c = fun_ext (λ p. ⊎_elim
    (λ h. has_made (λ _. 2 ^ 64 - 1) p h ∙ bit_not 64 0 (p % 64) (lit< tt) (omega arith) ∙ ap not (bit_none (p % 64)) ∙ sym (lt-ltb p 320 h))
    (λ h. has_past (made (λ _. 2 ^ 64 - 1)) p h ∙ sym (le-ltb p 320 h)) (cases_lt p 320))
