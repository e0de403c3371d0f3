-- The marks of a successor layer say what its rule says.
use Rattle.std.proofs.Common.{◌≡◌, ℕ, zero, suc, ◌<◌, Bool, true, false, cond, not, ◌&&◌, T, eqb, ◌↔◌, List, [], ◌∷◌, length, get_or, sym, refl, subst, arith, eqb→eq}
use Rattle.std.proofs.lemmas.Bool.Decides.{nat_tests}
use Rattle.planning.specs.Sets.{AtomSet}
use Rattle.planning.specs.Tasks.{Task, after, finally, Reaches, Solves, Lawful}
use Rattle.planning.specs.Places.{action_at}
use Rattle.planning.specs.Rules.{Listed, Achieves, LastAdds, SuccessorRule}
use Rattle.planning.specs.Marks.{is_kind, successor_marks, mark_task}
use Rattle.planning.proofs.Marked.{next, Watch, marks_split, OfKnown}
use Rattle.planning.proofs.Carried.{step, Carried, Placed, placed, provides, achieves, ends, last_adds}

pub same_kind : (a b : ℕ) → a ≡ b → T (eqb a b)
same_kind a b e = grind (arith, nat_tests)

module _ (t : Task) (o1 o2 : ℕ) (strict : Bool) where
  one : ℕ → Bool
  one a = is_kind t a o1

  -- an action that uses the atom while the last to add it was of kind o1 is of kind o2
  abbrev Use : Bool → ℕ → Type 0
  Use c a = T c → T (is_kind t a o2)

  abbrev End : Bool → Bool → Type 0
  End z c = T strict → T z → T c → ⊥

  mark_next : (a q : ℕ) (s : AtomSet) (c : Bool)
      → next (successor_marks t o1 o2 strict) a q (not (s q && c)) ≡ not (after t a s q && cond (t.adds a q) (is_kind t a o1) c)
  mark_next a q s c = grind arith

  -- the mark holds unless the atom does and was last added by kind o1
  watched : (q : ℕ) (s : AtomSet) (c : Bool) (r : List ℕ) → Reaches t s r
      → Watch (successor_marks t o1 o2 strict) q (not (s q && c)) r ↔ Carried t q (λ a. is_kind t a o1) Use (End (finally t s r q)) c r
  watched q s c [] h =
      (λ f st v k. grind (arith, f st), λ f st. grind (arith, f st))
  watched q s c (a ∷ r) h =
      let ih = watched q (after t a s) (cond (t.adds a q) (is_kind t a o1) c) r h.2 in (
        λ w. (
          λ n k. grind (arith, h.1 q n, w.0),
          ih.0 (subst (λ (b : Bool). Watch (successor_marks t o1 o2 strict) q b r) (mark_next a q s c) w.1),
        ),
        λ w. (
          λ n. grind (arith, w.0),
          subst (λ (b : Bool). Watch (successor_marks t o1 o2 strict) q b r) (sym (mark_next a q s c)) (ih.1 w.1),
        ),
      )

  module _ (listed plan : List ℕ) (law : Lawful t) where
    start : (v : Bool) → not (v && false) ≡ true
    start v = grind arith

    rule_from : Solves t plan → ((k : ℕ) → k < length listed → Watch (successor_marks t o1 o2 strict) (get_or listed k 0) true plan)
        → SuccessorRule t o1 o2 strict listed plan
    rule_from h w = record { served = served; last = last }
      where
        spot : (k : ℕ) → k < length listed → Placed t (get_or listed k 0) (λ a. is_kind t a o1) Use (End (finally t t.initial plan (get_or listed k 0))) false plan
        spot k l = (placed t (get_or listed k 0) (λ a. is_kind t a o1) Use (End (finally t t.initial plan (get_or listed k 0))) false plan).0
            ((watched (get_or listed k 0) t.initial false plan h).0
            (subst (λ (b : Bool). Watch (successor_marks t o1 o2 strict) (get_or listed k 0) b plan) (sym (start (t.initial (get_or listed k 0)))) (w k l)))

        served : (p i j : ℕ) → Listed listed p → Achieves t plan i j p → t.kind (action_at plan i) ≡ o1 → t.kind (action_at plan j) ≡ o2
        served p zero j l a = absurd (omega (arith, a.from_one))
        served p (suc i) zero l a = absurd (omega (arith, a.earlier))
        served p (suc i) (suc j) l a =
            let b = provides t plan i j (get_or listed l.0 0) (subst (Achieves t plan (suc i) (suc j)) (sym l.2) a) in
            λ e. eqb→eq (t.kind (step plan j)) o2 ((spot l.0 l.1).pairs i j b (same_kind (t.kind (step plan i)) o1 e))

        last : T strict → (p i : ℕ) → Listed listed p → T (finally t t.initial plan p) → LastAdds t plan i p → t.kind (action_at plan i) ≡ o1 → ⊥
        last st p zero l v a = absurd (omega (arith, a.from_one))
        last st p (suc i) l v a =
            let b = ends t plan i (get_or listed l.0 0) (subst (LastAdds t plan (suc i)) (sym l.2) a) in
            let w = subst (λ (x : ℕ). T (finally t t.initial plan x)) (sym l.2) v in
            λ e. (spot l.0 l.1).last i b st w (same_kind (t.kind (step plan i)) o1 e)

    marks_from : Solves t plan → SuccessorRule t o1 o2 strict listed plan
        → (k : ℕ) → k < length listed → Watch (successor_marks t o1 o2 strict) (get_or listed k 0) true plan
    marks_from h rule k l =
        let q : ℕ = get_or listed k 0 in
        subst (λ (b : Bool). Watch (successor_marks t o1 o2 strict) q b plan) (start (t.initial q))
        ((watched q t.initial false plan h).1
        ((placed t q (λ a. is_kind t a o1) Use (End (finally t t.initial plan q)) false plan).1
        (record {
          pairs = λ i j a e. same_kind (t.kind (step plan j)) o2 (rule.served q (suc i) (suc j) (k, l, refl) (achieves t plan i j q a) (eqb→eq (t.kind (step plan i)) o1 e));
          first = λ j m n f c. absurd c;
          last = λ i a st v e. rule.last st q (suc i) (k, l, refl) v (last_adds t plan i q a) (eqb→eq (t.kind (step plan i)) o1 e);
          never = λ f st v c. c;
        })))

    pub successor_iff : Solves (mark_task t listed (successor_marks t o1 o2 strict)) plan ↔ (Solves t plan × SuccessorRule t o1 o2 strict listed plan)
    successor_iff =
        let split = marks_split t listed (successor_marks t o1 o2 strict) law t.initial (λ q. true) plan in
        (λ h. ((split.0 h).0, rule_from (split.0 h).0 (split.0 h).1), λ h. split.1 (h.0, marks_from h.0 h.1))

pub successor_known : (t : Task) (o1 o2 : ℕ) (strict : Bool) → Lawful t → OfKnown t (successor_marks t o1 o2 strict)
successor_known t o1 o2 strict law = record {
  needs = λ a q h. law.needs_known a q (grind arith);
  deletes = λ a q h. law.adds_known a q (grind arith);
  adds = λ a q h. grind (arith, law.adds_known a q, law.deletes_known a q);
}
