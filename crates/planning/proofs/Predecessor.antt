-- The marks of a predecessor layer say what its rule says.
use Rattle.std.proofs.Common.{◌≡◌, ℕ, zero, suc, ◌<◌, ◌≤◌, Bool, cond, not, T, ◌↔◌, List, [], ◌∷◌, length, get_or, take, sym, refl, subst, arith, eqb→eq}
use Rattle.planning.specs.Sets.{AtomSet}
use Rattle.planning.specs.Tasks.{Task, after, finally, Reaches, Solves, Lawful}
use Rattle.planning.specs.Places.{action_at, state_before}
use Rattle.planning.specs.Rules.{Listed, Achieves, UsesFromStart, PredecessorRule}
use Rattle.planning.specs.Marks.{is_kind, predecessor_marks, mark_task}
use Rattle.planning.proofs.Marked.{next, Watch, marks_split, OfKnown}
use Rattle.planning.proofs.Carried.{step, shift, in_front, Carried, Placed, placed, provides, achieves}
use Rattle.planning.proofs.Successor.{same_kind}

-- what holds at a use and was added by no action has held all along
held_since : (t : Task) (q : ℕ) (s : AtomSet) (r : List ℕ) (j : ℕ) → Reaches t s r → j < length r → T (t.needs (step r j) q)
    → ((k : ℕ) → k < j → T (t.adds (step r k) q) → ⊥) → (k : ℕ) → k ≤ j → T (finally t s (take k r) q)
held_since t q s [] j h l n f = λ k m. absurd (omega arith)
held_since t q s (a ∷ r) zero h l n f = in_front (λ k. T (finally t s (take k (a ∷ r)) q)) 0 (h.1 q n) (λ k m. absurd (omega arith))
held_since t q s (a ∷ r) (suc j) h l n f =
    let later = held_since t q (after t a s) r j h.2 (omega arith) n (λ k m. f (suc k) (omega arith)) in
    in_front (λ k. T (finally t s (take k (a ∷ r)) q)) (suc j) (grind (arith, later 0 (omega arith), f 0 (omega arith))) (λ k m. later k (omega arith))

module _ (t : Task) (o1 o2 : ℕ) (strict : Bool) where
  -- an action of kind o2 uses the atom only while the mark holds
  abbrev Use : Bool → ℕ → Type 0
  Use c a = T (is_kind t a o2) → T c

  abbrev End : Bool → Type 0
  End c = Unit {0}

  mark_next : (a q : ℕ) (c : Bool) → next (predecessor_marks t o1 o2 strict) a q c ≡ cond (t.adds a q) (is_kind t a o1) c
  mark_next a q c = grind arith

  watched : (q : ℕ) (c : Bool) (r : List ℕ)
      → Watch (predecessor_marks t o1 o2 strict) q c r ↔ Carried t q (λ a. is_kind t a o1) Use End c r
  watched q c [] = (λ h. tt, λ h x. absurd x)
  watched q c (a ∷ r) =
      let ih = watched q (cond (t.adds a q) (is_kind t a o1) c) r in (
        λ w. (
          λ n k. w.0 (grind arith),
          ih.0 (subst (λ (b : Bool). Watch (predecessor_marks t o1 o2 strict) q b r) (mark_next a q c) w.1),
        ),
        λ w. (
          λ n. w.0 (grind arith) (grind arith),
          subst (λ (b : Bool). Watch (predecessor_marks t o1 o2 strict) q b r) (sym (mark_next a q c)) (ih.1 w.1),
        ),
      )

  module _ (listed plan : List ℕ) (law : Lawful t) where
    rule_from : ((k : ℕ) → k < length listed → Watch (predecessor_marks t o1 o2 strict) (get_or listed k 0) (not strict) plan)
        → PredecessorRule t o1 o2 strict listed plan
    rule_from w = record { served = served; fresh = fresh }
      where
        spot : (k : ℕ) → k < length listed → Placed t (get_or listed k 0) (λ a. is_kind t a o1) Use End (not strict) plan
        spot k l = (placed t (get_or listed k 0) (λ a. is_kind t a o1) Use End (not strict) plan).0 ((watched (get_or listed k 0) (not strict) plan).0 (w k l))

        served : (p i j : ℕ) → Listed listed p → Achieves t plan i j p → t.kind (action_at plan j) ≡ o2 → t.kind (action_at plan i) ≡ o1
        served p zero j l a = absurd (omega (arith, a.from_one))
        served p (suc i) zero l a = absurd (omega (arith, a.earlier))
        served p (suc i) (suc j) l a =
            let b = provides t plan i j (get_or listed l.0 0) (subst (Achieves t plan (suc i) (suc j)) (sym l.2) a) in
            λ e. eqb→eq (t.kind (step plan i)) o1 ((spot l.0 l.1).pairs i j b (same_kind (t.kind (step plan j)) o2 e))

        fresh : T strict → (p j : ℕ) → Listed listed p → UsesFromStart t plan j p → t.kind (action_at plan j) ≡ o2 → ⊥
        fresh st p zero l u = absurd (omega (arith, u.from_one))
        fresh st p (suc j) l u =
            let v = subst (UsesFromStart t plan (suc j)) (sym l.2) u in
            λ e. let k : T (not strict) = (spot l.0 l.1).first j (omega (arith, v.within)) v.needed (λ k m. v.unadded (suc k) (omega arith) (omega arith))
            (same_kind (t.kind (step plan j)) o2 e) in
            grind arith

    marks_from : Solves t plan → PredecessorRule t o1 o2 strict listed plan
        → (k : ℕ) → k < length listed → Watch (predecessor_marks t o1 o2 strict) (get_or listed k 0) (not strict) plan
    marks_from h rule k l =
        (watched (get_or listed k 0) (not strict) plan).1
        ((placed t (get_or listed k 0) (λ a. is_kind t a o1) Use End (not strict) plan).1
        (record {
          pairs = λ i j a e. same_kind (t.kind (step plan i)) o1 (rule.served (get_or listed k 0) (suc i) (suc j) (k, l, refl) (achieves t plan i j (get_or listed k 0) a) (eqb→eq (t.kind (step plan j)) o2 e));
          first = λ j m n f e.
              let never : T strict → ⊥ = λ st. rule.fresh st (get_or listed k 0) (suc j) (k, l, refl) (uses (get_or listed k 0) j m n f) (eqb→eq (t.kind (step plan j)) o2 e) in
              grind arith;
          last = λ i a. tt;
          never = λ f. tt;
        }))
      where
        uses : (q j : ℕ) → j < length plan → T (t.needs (step plan j) q) → ((k : ℕ) → k < j → T (t.adds (step plan k) q) → ⊥) → UsesFromStart t plan (suc j) q
        uses q j m n f = record { from_one = omega arith; within = omega arith; needed = n; held = held; unadded = unadded }
          where
            held : (k : ℕ) → 1 ≤ k → k ≤ suc j → T (state_before t plan k q)
            held = shift (λ k. T (state_before t plan k q)) 0 (suc j) (λ k x y. held_since t q t.initial plan j h m n f k (omega arith))

            unadded : (k : ℕ) → 1 ≤ k → k < suc j → T (t.adds (action_at plan k) q) → ⊥
            unadded k x y = shift (λ k. T (t.adds (action_at plan k) q) → ⊥) 0 j (λ k z. f k) k x (omega arith)

    pub predecessor_iff : Solves (mark_task t listed (predecessor_marks t o1 o2 strict)) plan ↔ (Solves t plan × PredecessorRule t o1 o2 strict listed plan)
    predecessor_iff =
        let split = marks_split t listed (predecessor_marks t o1 o2 strict) law t.initial (λ q. not strict) plan in
        (λ h. ((split.0 h).0, rule_from (split.0 h).1), λ h. split.1 (h.0, marks_from h.0 h.1))

pub predecessor_known : (t : Task) (o1 o2 : ℕ) (strict : Bool) → Lawful t → OfKnown t (predecessor_marks t o1 o2 strict)
predecessor_known t o1 o2 strict law = record {
  needs = λ a q h. law.needs_known a q (grind arith);
  deletes = λ a q h. law.adds_known a q (grind arith);
  adds = λ a q h. law.adds_known a q (grind arith);
}
