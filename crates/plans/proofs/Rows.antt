-- A script's steps: one of them, one more in front of those from an index on, and all but one.
use Rattle.std.proofs.Common.{◌≡◌, ℕ, zero, suc, ◌+◌, ◌<◌, List, [], ◌∷◌, ◌++◌, length, get_or, take, drop, set, Option, sym, ap, ◌∙◌, subst, ap₂, arith}
use Rattle.std.proofs.Math.Seq.{take-append_seam}
use Rattle.std.proofs.lemmas.List.{length-map, drop-map, drop_more, drop-set, length_push, length-take, take-take, get_or-take, get_or_at}
use Rattle.atoms.specs.declared.Atoms.{Atoms}
use Rattle.planning.specs.Tasks.{Task}
use Rattle.tasks.specs.Answers.{Acts}
use Rattle.tasks.specs.Regressed.{Wanted}
use Rattle.plans.specs.Scripts.{numbers, Told}
use Rattle.plans.specs.declared.script.Step.{Step}

pub as_many : (script : List Step) → length script ≡ length (numbers script)
as_many script = sym (length-map script (λ s. s.number))

pub numbers_drop : (n : ℕ) (script : List Step) → numbers (drop n script) ≡ drop n (numbers script)
numbers_drop n script = sym (drop-map (λ s. s.number) n script)

module _ (t : Task) where
  pub told_drop : (n : ℕ) (script : List Step) → Told t script → Told t (drop n script)
  told_drop zero script h = h
  told_drop (suc n) [] h = h
  told_drop (suc n) (s ∷ rest) h = told_drop n rest h.2

  told_at : (script : List Step) (i : ℕ) (d : Step) → i < length script → Told t script
      → Acts t (get_or (numbers script) i 0) (get_or script i d).action × Wanted t (numbers (drop (suc i) script)) (get_or script i d).later
  told_at [] i d l h = absurd (omega arith)
  told_at (s ∷ rest) zero d l h = (h.0, h.1)
  told_at (s ∷ rest) (suc i) d l h = told_at rest i d (omega arith) h.2

  module _ (script : List Step) (i : ℕ) (s d : Step) (e : s ≡ get_or script i d) (l : i < length script) (h : Told t script) where
    pub acts_at : Acts t (get_or (numbers script) i 0) s.action
    acts_at = subst (λ (x : Step). Acts t (get_or (numbers script) i 0) x.action) (sym e) (told_at script i d l h).0

    pub later_at : Wanted t (drop (i + 1) (numbers script)) s.later
    later_at =
        let next : suc i ≡ i + 1 = omega arith in
        let rest : numbers (drop (suc i) script) ≡ drop (i + 1) (numbers script) = numbers_drop (suc i) script ∙ ap (λ k. drop k (numbers script)) next in
        subst (λ (r : List ℕ). Wanted t r s.later) rest
        (subst (λ (x : Step). Wanted t (numbers (drop (suc i) script)) x.later) (sym e) (told_at script i d l h).1)

-- one step more, at index i, in front of those from m on
module _ (plan : List ℕ) (i j m : ℕ) (at : i ≡ j) (next : m ≡ i + 1) (l : i < length plan) where
  more : drop j plan ≡ get_or plan i 0 ∷ drop m plan
  more = ap (λ k. drop k plan) (sym at) ∙ drop_more plan i 0 l ∙ ap (λ k. get_or plan i 0 ∷ drop k plan) (sym next)

  pub wanted_more : (t : Task) (want : Option Atoms) → Wanted t (get_or plan i 0 ∷ drop m plan) want → Wanted t (drop j plan) want
  wanted_more t want w = subst (λ (x : List ℕ). Wanted t x want) (sym more) w

  -- the script has it written
  module _ (script : List Step) (r : i < length script) (s : Step) (number : s.number ≡ get_or plan i 0) (rest : numbers (drop m script) ≡ drop m plan) where
    steps : drop j (set script i s) ≡ s ∷ drop m script
    steps = ap (λ k. drop k (set script i s)) (sym at) ∙ drop-set script i s r ∙ ap (λ k. s ∷ drop k script) (sym next)

    pub numbers_more : numbers (drop j (set script i s)) ≡ drop j plan
    numbers_more = ap (λ x. numbers x) steps ∙ ap₂ (λ a x. a ∷ x) number rest ∙ sym more

    pub told_more : (t : Task) → Acts t (get_or plan i 0) s.action → Wanted t (drop m plan) s.later → Told t (drop m script) → Told t (drop j (set script i s))
    told_more t acts later told = subst (Told t) (sym steps)
        (subst (λ (a : ℕ). Acts t a s.action) (sym number) acts, subst (λ (x : List ℕ). Wanted t x s.later) (sym rest) later, told)

module _ {X : Type 0} (steps : List X) where
  -- of the first steps the last is taken, at index i
  pub taken_back : (left more : List X) (x : X) (i : ℕ) → i ≡ length left → more ≡ take (length more) steps → more ≡ left ++ x ∷ []
      → (left ≡ take (length left) steps) × (length more ≡ i + 1) × (x ≡ get_or steps i x) × (i < length steps)
  taken_back left more x i at e f =
      let size : length more ≡ i + 1 = omega (arith, ap length f, length_push left x) in
      let inside : i < length steps = omega (arith, ap length e, length-take (length more) steps) in
      let front : left ++ x ∷ [] ≡ take (i + 1) steps = sym f ∙ e ∙ ap (λ k. take k steps) size in (
        sym (take-append_seam left (x ∷ [])) ∙ ap (take (length left)) front ∙ take-take (length left) (i + 1) steps (omega arith),
        size,
        sym (get_or_at left x [] x i (sym at)) ∙ ap (λ l. get_or l i x) front ∙ get_or-take (i + 1) steps i x (omega arith),
        inside,
      )
