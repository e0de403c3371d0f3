-- What a trim of the plan held is for.
use Rattle.std.proofs.Common.{◌≡◌, ℕ, ◌≤◌, List, [], length, Some, None, sym, ap, ◌∙◌, subst, arith}
use Rattle.std.proofs.Math.Nat.{min-le_left}
use Rattle.std.proofs.lemmas.List.{length-take}
use Rattle.planning.specs.Orders.{Held}
use Rattle.planning.specs.Piles.{Pile, Built, meaning}
use Rattle.planning.specs.Trims.{trimmed, Spare, Trims}
use Rattle.plans.specs.Steps.{steps_of}
use Rattle.plans.specs.declared.plan.Plan.{Plan}
use Rattle.planning.proofs.Soundness.{built_sound}
use Rattle.planning.proofs.Trims.{trim_means, trim_idle}

-- a plan record has up to 256 steps
pub few : (p : Plan) → length (steps_of p) ≤ 256
few p = omega (arith, length-take p.len p.steps, min-le_left p.len (length p.steps), p.fits)

abbrev row_of : Held → List ℕ
row_of None = []
row_of (Some row) = row

-- what is left is a plan trimmed
pub held_trims : (p : Pile) → Built p → (hold : Held) (row short plan left : List ℕ) → hold ≡ Some row → length row ≤ 256 → short ≡ (trimmed (meaning p) row).plan
    → hold ≡ Some plan → ◌≡◌ {A = Held} (Some short) (Some left) → Trims (meaning p) plan left
held_trims p b hold row short plan left e m is f h =
    let same : row ≡ plan = ap row_of (sym e ∙ f) in
    let rest : (trimmed (meaning p) row).plan ≡ left = sym is ∙ ap row_of h in
    subst (λ (x : List ℕ). Trims (meaning p) x left) same (subst (λ (x : List ℕ). Trims (meaning p) row x) rest (trim_means (meaning p) (built_sound p b).lawful row m))

-- a trim of the plan held with nothing to leave out
pub held_idle : (p : Pile) → Built p → (hold : Held) (row plan : List ℕ) → hold ≡ Some row → hold ≡ Some plan → Spare (meaning p) plan
    → ((trimmed (meaning p) row).plan ≡ plan) × ((trimmed (meaning p) row).gone ≡ [])
held_idle p b hold row plan e f spare =
    let same : row ≡ plan = ap row_of (sym e ∙ f) in
    let idle = trim_idle (meaning p) (built_sound p b).lawful (length row) row (subst (Spare (meaning p)) (sym same) spare) in
    (idle.0 ∙ same, idle.1)
