-- One step left out of a script, while those before it move up by one.
use Rattle.std.proofs.Common.{◌≡◌, ℕ, ◌+◌, ◌-◌, ◌<◌, ◌≤◌, List, [], ◌∷◌, ◌++◌, length, get_or, take, drop, set, Option, sym, refl, ap, ◌∙◌, subst, arith}
use Rattle.std.proofs.lemmas.List.{append-nil, drop-drop, drop_at, drop_all, take_all, drop-set-add, length-drop, length-take-le, get_or_append_left, get_or-take, get_or-map}
use borrow.Rule.Slice.PartMut.{put_mid}
use Rattle.atoms.specs.declared.Atoms.{Atoms}
use Rattle.planning.specs.Tasks.{Task}
use Rattle.planning.specs.Trims.{left_out}
use Rattle.planning.proofs.Trims.{left_shorter}
use Rattle.tasks.specs.Answers.{Acts}
use Rattle.tasks.specs.Regressed.{Wanted}
use Rattle.plans.specs.Scripts.{numbers, Told}
use Rattle.plans.specs.declared.script.Step.{Step}
use Rattle.plans.proofs.Rows.{as_many, numbers_drop, numbers_more, told_more, wanted_more}

module _ (script : List Step) (i : ℕ) (l : i < length script) where
  abbrev left : List ℕ
  left = left_out (numbers script) i

  inside : i < length (numbers script)
  inside = omega (arith, as_many script)

  -- those behind the step
  behind : drop (i + 1) (numbers script) ≡ drop i left
  behind = sym (drop_at (take i (numbers script)) (drop (i + 1) (numbers script)) i (length-take-le i (numbers script) (omega (arith, inside))))

  pub behind_numbers : numbers (drop i (drop 1 script)) ≡ drop i left
  behind_numbers =
      let next : 1 + i ≡ i + 1 = omega arith in
      ap (λ x. numbers x) (drop-drop i 1 script) ∙ numbers_drop (1 + i) script ∙ ap (λ k. drop k (numbers script)) next ∙ behind

  pub behind_wanted : (t : Task) (want : Option Atoms) → Wanted t (drop (i + 1) (numbers script)) want → Wanted t (drop i left) want
  behind_wanted t want w = subst (λ (x : List ℕ). Wanted t x want) behind w

  -- one of those before, at index k, in front of those from m on
  module _ (k m : ℕ) (b : k < i) (next : m ≡ k + 1) where
    stays : get_or (numbers script) k 0 ≡ get_or left k 0
    stays =
        let few : k < length (take i (numbers script)) = omega (arith, inside, length-take-le i (numbers script)) in
        sym (get_or-take i (numbers script) k 0 b) ∙ sym (get_or_append_left (take i (numbers script)) (drop (i + 1) (numbers script)) 0 k few)

    within : k < length left
    within = omega (arith, inside, left_shorter (numbers script) i inside)

    pub moved_wanted : (t : Task) (want : Option Atoms) → Wanted t (get_or (numbers script) k 0 ∷ drop m left) want → Wanted t (drop k left) want
    moved_wanted t want w = wanted_more left k k m refl next within t want (subst (λ (a : ℕ). Wanted t (a ∷ drop m left) want) stays w)

    -- it is written one place further
    module _ (now : List Step) (size : length now ≡ length script) (s d : Step) (number : s.number ≡ (get_or script k d).number)
        (rest : numbers (drop m (drop 1 now)) ≡ drop m left) where
      room : k < length (drop 1 now)
      room = omega (arith, length-drop 1 now)

      is : s.number ≡ get_or left k 0
      is = number ∙ sym (get_or-map (λ s. s.number) script k d 0 (omega arith)) ∙ stays

      place : drop 1 (set now (k + 1) s) ≡ set (drop 1 now) k s
      place = let swap : k + 1 ≡ 1 + k = omega arith in ap (λ j. drop 1 (set now j s)) swap ∙ drop-set-add 1 now k s

      pub moved_numbers : numbers (drop k (drop 1 (set now (k + 1) s))) ≡ drop k left
      moved_numbers = ap (λ x. numbers (drop k x)) place ∙ numbers_more left k k m refl next within (drop 1 now) room s is rest

      pub moved_told : (t : Task) → Acts t (get_or (numbers script) k 0) s.action → Wanted t (drop m left) s.later → Told t (drop m (drop 1 now))
          → Told t (drop k (drop 1 (set now (k + 1) s)))
      moved_told t acts later told = subst (λ (x : List Step). Told t (drop k x)) (sym place)
          (told_more left k k m refl next within (drop 1 now) room s is rest t (subst (λ (a : ℕ). Acts t a s.action) stays acts) later told)

-- the part of a room from a place on
module _ (room : List Step) (first : ℕ) (l : first ≤ length room) where
  pub part : take (length room - first) (drop first room) ≡ drop first room
  part = take_all (length room - first) (drop first room) (omega (arith, length-drop first room))

  -- that part is written, and one place more is free
  pub freed : (new : List Step) → drop (first + 1) (put_mid first (length room - first) room new) ≡ drop 1 new
  freed new =
      let rest : drop (length room - first) (drop first room) ≡ [] = drop_all (length room - first) (drop first room) (omega (arith, length-drop first room)) in
      sym (drop-drop 1 first (put_mid first (length room - first) room new))
      ∙ ap (drop 1) (drop_at (take first room) (new ++ drop (length room - first) (drop first room)) first (length-take-le first room l) ∙ ap (λ x. new ++ x) rest ∙ append-nil new)
