use Rattle.std.proofs.Common.{◌≡◌, ℕ, ◌+◌, ◌<◌, false, ◌&&◌, ◌||◌, eqb, ltb, ap, ◌∙◌, arith}
use mathlib.Core.Path.{fun_ext}
use Rattle.std.proofs.lemmas.Bool.Decides.{nat_tests}
use Rattle.planning.specs.Sets.{◌∪◌}
use Rattle.atoms.specs.Has.{only_atom}
use Rattle.trials.proofs.full.first.Goals as goal

nowhere : (q : ℕ) → false ≡ ltb q 0
nowhere q = grind (arith, nat_tests)

more : (k q : ℕ) → k < 320 → (ltb q k || (ltb k 320 && eqb q k)) ≡ ltb q (k + 1)
more k q h = grind (arith, nat_tests)

pub loop-i-init : goal.loop-i-init
loop-i-init c _ = c.empty-set.ensures ∙ fun_ext nowhere

pub loop-i-preserved : goal.loop-i-preserved
loop-i-preserved c h =
    c.insert-set.ensures ∙ ap (λ f. f ∪ only_atom c.loop-i.i) (c.loop-i.invariant (omega arith))
    ∙ fun_ext (λ q. more c.loop-i.i q (omega arith))
