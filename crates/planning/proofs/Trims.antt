-- A trimmed plan solves what the plan solved, has no step to leave out, and is worth what did not leave.
use Rattle.std.proofs.Common.{◌≡◌, ℕ, zero, suc, ◌+◌, ◌<◌, ◌≤◌, true, List, [], ◌∷◌, ◌++◌, length, get_or, take, drop, sym, refl, ap, ◌∙◌, arith}
use Rattle.std.proofs.lemmas.List.{take-append-drop, drop_more, length-append, length-take-le, length-drop}
use Rattle.planning.specs.Tasks.{Task, Lawful, Solves}
use Rattle.planning.specs.Amounts.{Amounts}
use Rattle.planning.specs.Edits.{splice}
use Rattle.planning.specs.Orders.{charge}
use Rattle.planning.specs.Trims.{left_out, can_strike, trim_at, trim_by, trimmed, Spare, Trims}
use Rattle.planning.proofs.Counts.{lowest_elim}
use Rattle.planning.proofs.Verdicts.{judged_decides}
use Rattle.planning.proofs.Charges.{charge_append}

pub cut_one : (plan : List ℕ) (i : ℕ) → i < length plan → plan ≡ take i plan ++ ((get_or plan i 0 ∷ []) ++ drop (i + 1) plan)
cut_one plan i l = sym (take-append-drop i plan) ∙ ap (λ r. take i plan ++ r) (drop_more plan i 0 l)

pub left_shorter : (plan : List ℕ) (i : ℕ) → i < length plan → suc (length (left_out plan i)) ≡ length plan
left_shorter plan i l = omega (arith, length-append (take i plan) (drop (i + 1) plan), length-take-le i plan (omega arith), length-drop (i + 1) plan)

module _ (t : Task) (law : Lawful t) where
  strike_solves : (plan : List ℕ) (i : ℕ) → can_strike t plan i ≡ true → Solves t (left_out plan i)
  strike_solves plan i e = ((judged_decides t law (left_out plan i)).0 e).1

  pub trim_solves : (n : ℕ) (plan : List ℕ) → Solves t plan → Solves t (trim_by n t plan).plan
  trim_solves zero plan h = h
  trim_solves (suc n) plan h = lowest_elim (can_strike t plan) (length plan) (λ o. Solves t (trim_at plan (trim_by n t) o).plan)
      (λ s. h) (λ i l e u. trim_solves n (left_out plan i) (strike_solves plan i e))

  pub trim_shorter : (n : ℕ) (plan : List ℕ) → length (trim_by n t plan).plan ≤ length plan
  trim_shorter zero plan = omega arith
  trim_shorter (suc n) plan = lowest_elim (can_strike t plan) (length plan) (λ o. length (trim_at plan (trim_by n t) o).plan ≤ length plan)
      (λ s. omega arith) (λ i l e u. omega (arith, trim_shorter n (left_out plan i), left_shorter plan i l))

  pub trim_spare : (n : ℕ) (plan : List ℕ) → length plan ≤ n → length plan ≤ 256 → Spare t (trim_by n t plan).plan
  trim_spare zero plan l m = λ i k h. omega arith
  trim_spare (suc n) plan l m = lowest_elim (can_strike t plan) (length plan) (λ o. Spare t (trim_at plan (trim_by n t) o).plan)
      (λ s i k h. let e = (judged_decides t law (left_out plan i)).1 (omega (arith, left_shorter plan i k), h) in cc (s i k))
      (λ i k e u. trim_spare n (left_out plan i) (omega (arith, left_shorter plan i k)) (omega (arith, left_shorter plan i k)))

  -- a trim of a plan with nothing to leave out
  pub trim_idle : (n : ℕ) (plan : List ℕ) → Spare t plan → ((trim_by n t plan).plan ≡ plan) × ((trim_by n t plan).gone ≡ [])
  trim_idle zero plan h = (refl, refl)
  trim_idle (suc n) plan h = lowest_elim (can_strike t plan) (length plan) (λ o. ((trim_at plan (trim_by n t) o).plan ≡ plan) × ((trim_at plan (trim_by n t) o).gone ≡ []))
      (λ s. (refl, refl)) (λ i l e u. absurd (h i l (strike_solves plan i e)))

  pub trim_means : (plan : List ℕ) → length plan ≤ 256 → Trims t plan (trimmed t plan).plan
  trim_means plan m = record { solves = trim_solves (length plan) plan; spare = trim_spare (length plan) plan (omega arith) m }

  module _ {A : Type 0} (am : Amounts A) (price : ℕ → A) where
    pub nothing_gone : (x : A) → x ≡ am.join x am.nought
    nothing_gone x = sym (am.comm x am.nought ∙ am.unit x)

    -- x, o and z together, where o is n with g
    shuffle : (x o n g z : A) → o ≡ am.join n g → am.join x (am.join o z) ≡ am.join (am.join x (am.join n z)) g
    shuffle x o n g z e =
        ap (λ o. am.join x (am.join o z)) e
        ∙ (ap (am.join x) (am.assoc n g z ∙ (ap (am.join n) (am.comm g z) ∙ sym (am.assoc n z g)))
        ∙ sym (am.assoc x (am.join n z) g))

    three : (x y z : List ℕ) → charge am price t (x ++ (y ++ z)) ≡ am.join (charge am price t x) (am.join (charge am price t y) (charge am price t z))
    three x y z = charge_append am price t x (y ++ z) ∙ ap (am.join (charge am price t x)) (charge_append am price t y z)

    -- old steps replaced by new ones, while some left
    pub splice_worth : (plan : List ℕ) (i n : ℕ) (old new gone : List ℕ) → plan ≡ take i plan ++ (old ++ drop (i + n) plan)
        → charge am price t old ≡ am.join (charge am price t new) (charge am price t gone)
        → charge am price t plan ≡ am.join (charge am price t (splice plan i n new)) (charge am price t gone)
    splice_worth plan i n old new gone e v =
        ap (charge am price t) e
        ∙ (three (take i plan) old (drop (i + n) plan)
        ∙ (shuffle (charge am price t (take i plan)) (charge am price t old) (charge am price t new) (charge am price t gone) (charge am price t (drop (i + n) plan)) v
        ∙ ap (λ k. am.join k (charge am price t gone)) (sym (three (take i plan) new (drop (i + n) plan)))))

    pub left_worth : (plan : List ℕ) (i : ℕ) → i < length plan → charge am price t plan ≡ am.join (charge am price t (left_out plan i)) (charge am price t (get_or plan i 0 ∷ []))
    left_worth plan i l = splice_worth plan i 1 (get_or plan i 0 ∷ []) [] (get_or plan i 0 ∷ []) (cut_one plan i l) (sym (am.unit (charge am price t (get_or plan i 0 ∷ []))))

    pub trim_worth : (n : ℕ) (plan : List ℕ)
        → charge am price t plan ≡ am.join (charge am price t (trim_by n t plan).plan) (charge am price t (trim_by n t plan).gone)
    trim_worth zero plan = nothing_gone (charge am price t plan)
    trim_worth (suc n) plan = lowest_elim (can_strike t plan) (length plan)
        (λ o. charge am price t plan ≡ am.join (charge am price t (trim_at plan (trim_by n t) o).plan) (charge am price t (trim_at plan (trim_by n t) o).gone))
        (λ s. nothing_gone (charge am price t plan))
        (λ i l e u.
        let rest = trim_by n t (left_out plan i) in
        left_worth plan i l
        ∙ ap (λ x. am.join x (charge am price t (get_or plan i 0 ∷ []))) (trim_worth n (left_out plan i))
        ∙ am.assoc (charge am price t rest.plan) (charge am price t rest.gone) (charge am price t (get_or plan i 0 ∷ []))
        ∙ ap (am.join (charge am price t rest.plan))
        (am.comm (charge am price t rest.gone) (charge am price t (get_or plan i 0 ∷ []))
        ∙ sym (charge_append am price t (get_or plan i 0 ∷ []) rest.gone)))
