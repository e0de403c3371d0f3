-- A trim under way: what is left of the plan, and the actions that left it so far.
use Rattle.std.proofs.Common.{◌≡◌, ℕ, zero, suc, ◌<◌, List, [], ◌∷◌, ◌++◌, length, get_or, Some, None, Option, sym, ap, ◌∙◌, subst}
use Rattle.std.proofs.lemmas.List.{append-nil, append_assoc}
use Rattle.planning.specs.Tasks.{Task}
use Rattle.planning.specs.Trims.{left_out, strikable, trim_at, trim_by, trimmed}
use Rattle.planning.proofs.Trims.{left_shorter}

module _ (t : Task) (plan : List ℕ) where
  -- n rounds more come to the plan trimmed
  abbrev Comes : ℕ → List ℕ → List ℕ → Type 0
  Comes n left gone = ((trim_by n t left).plan ≡ (trimmed t plan).plan) × (gone ++ (trim_by n t left).gone ≡ (trimmed t plan).gone)

  abbrev pub Leads : List ℕ → List ℕ → Type 0
  Leads left gone = Comes (length left) left gone

  on : (n : ℕ) (left gone : List ℕ) (i : ℕ) → strikable t left ≡ Some i → Comes (suc n) left gone → Comes n (left_out left i) (gone ++ get_or left i 0 ∷ [])
  on n left gone i e h = (
    sym (ap (λ (o : Option ℕ). (trim_at left (trim_by n t) o).plan) e) ∙ h.0,
    append_assoc gone (get_or left i 0 ∷ []) (trim_by n t (left_out left i)).gone
        ∙ sym (ap (λ (o : Option ℕ). gone ++ (trim_at left (trim_by n t) o).gone) e) ∙ h.1,
  )

  pub leads_on : (left gone : List ℕ) (i : ℕ) → i < length left → Some i ≡ strikable t left → Leads left gone → Leads (left_out left i) (gone ++ get_or left i 0 ∷ [])
  leads_on left gone i l e h =
      let size : length left ≡ suc (length (left_out left i)) = sym (left_shorter left i l) in
      on (length (left_out left i)) left gone i (sym e) (subst (λ (n : ℕ). Comes n left gone) size h)

  -- no round more, or one that strikes nothing
  over : (n : ℕ) (left gone : List ℕ) → strikable t left ≡ None → Comes n left gone → (left ≡ (trimmed t plan).plan) × (gone ≡ (trimmed t plan).gone)
  over zero left gone e h = (h.0, sym (append-nil gone) ∙ h.1)
  over (suc n) left gone e h = (
    sym (ap (λ (o : Option ℕ). (trim_at left (trim_by n t) o).plan) e) ∙ h.0,
    sym (append-nil gone) ∙ sym (ap (λ (o : Option ℕ). gone ++ (trim_at left (trim_by n t) o).gone) e) ∙ h.1,
  )

  pub leads_last : (left gone : List ℕ) → None ≡ strikable t left → Leads left gone → (left ≡ (trimmed t plan).plan) × (gone ≡ (trimmed t plan).gone)
  leads_last left gone e h = over (length left) left gone (sym e) h
