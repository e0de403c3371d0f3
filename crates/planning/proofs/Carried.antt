-- What a rule says by places in a plan, as a recursion along the plan that carries whether the last action to add the atom was of kind o1.
use Rattle.std.proofs.Common.{◌≡◌, ℕ, zero, suc, ◌<◌, ◌≤◌, Bool, cond, T, ◌↔◌, List, [], ◌∷◌, length, get_or, sym, subst, arith}
use Rattle.std.proofs.lemmas.Bool.{cond_both}
use Rattle.planning.specs.Tasks.{Task}
use Rattle.planning.specs.Places.{action_at}
use Rattle.planning.specs.Rules.{Achieves, LastAdds}

-- Indices count from 0, places from 1: the same relations by index.
abbrev pub step : List ℕ → ℕ → ℕ
step plan i = get_or plan i 0

pub record Provides (t : Task) (plan : List ℕ) (i j p : ℕ) : Type 0 where
  pub earlier : i < j
  pub within : j < length plan
  pub added : T (t.adds (step plan i) p)
  pub needed : T (t.needs (step plan j) p)
  pub between : (k : ℕ) → i < k → k < j → T (t.adds (step plan k) p) → ⊥

pub record Ends (t : Task) (plan : List ℕ) (i p : ℕ) : Type 0 where
  pub within : i < length plan
  pub added : T (t.adds (step plan i) p)
  pub later : (k : ℕ) → i < k → k < length plan → T (t.adds (step plan k) p) → ⊥

-- what holds from one index more on
pub shift : (P : ℕ → Type 0) (i j : ℕ) → ((k : ℕ) → i ≤ k → k < j → P (suc k)) → (k : ℕ) → i < k → k ≤ j → P k
shift P i j h zero l m = absurd (omega arith)
shift P i j h (suc k) l m = h k (omega arith) (omega arith)

-- and at index 0 too
pub in_front : (P : ℕ → Type 0) (j : ℕ) → P 0 → ((k : ℕ) → k < j → P (suc k)) → (k : ℕ) → k ≤ j → P k
in_front P j h more zero m = h
in_front P j h more (suc k) m = more k (omega arith)

pub provides : (t : Task) (plan : List ℕ) (i j p : ℕ) → Achieves t plan (suc i) (suc j) p → Provides t plan i j p
provides t plan i j p h = record {
  earlier = omega arith;
  within = omega arith;
  added = h.added;
  needed = h.needed;
  between = λ k l m. h.between (suc k) (omega arith) (omega arith);
}

pub achieves : (t : Task) (plan : List ℕ) (i j p : ℕ) → Provides t plan i j p → Achieves t plan (suc i) (suc j) p
achieves t plan i j p h = record {
  from_one = omega arith;
  earlier = omega arith;
  within = omega arith;
  added = h.added;
  needed = h.needed;
  between = λ k l m. shift (λ k. T (t.adds (action_at plan k) p) → ⊥) (suc i) j h.between k l (omega arith);
}

pub ends : (t : Task) (plan : List ℕ) (i p : ℕ) → LastAdds t plan (suc i) p → Ends t plan i p
ends t plan i p h = record { within = omega arith; added = h.added; later = λ k l m. h.later (suc k) (omega arith) (omega arith) }

pub last_adds : (t : Task) (plan : List ℕ) (i p : ℕ) → Ends t plan i p → LastAdds t plan (suc i) p
last_adds t plan i p h = record {
  from_one = omega arith;
  within = omega arith;
  added = h.added;
  later = shift (λ k. T (t.adds (action_at plan k) p) → ⊥) (suc i) (length plan) h.later;
}

pub cond_yes : (b x y : Bool) → T b → cond b x y ≡ x
cond_yes b x y h = grind arith

cond_no : (b x y : Bool) → (T b → ⊥) → cond b x y ≡ y
cond_no b x y h = grind arith

module _ (t : Task) (q : ℕ) (one : ℕ → Bool) (R : Bool → ℕ → Type 0) (E : Bool → Type 0) where
  -- c is carried: whether the last action that added q was one
  abbrev pub Carried : Bool → List ℕ → Type 0
  Carried c [] = E c
  Carried c (a ∷ r) = (T (t.needs a q) → R c a) × Carried (cond (t.adds a q) (one a) c) r

  -- the step at an index does not add it
  abbrev Without : List ℕ → ℕ → Type 0
  Without r k = T (t.adds (step r k) q) → ⊥

  pub record Placed (c : Bool) (r : List ℕ) : Type 0 where
    pub pairs : (i j : ℕ) → Provides t r i j q → R (one (step r i)) (step r j)
    pub first : (j : ℕ) → j < length r → T (t.needs (step r j) q) → ((k : ℕ) → k < j → T (t.adds (step r k) q) → ⊥) → R c (step r j)
    pub last : (i : ℕ) → Ends t r i q → E (one (step r i))
    pub never : ((k : ℕ) → k < length r → T (t.adds (step r k) q) → ⊥) → E c

  provides_down : (a : ℕ) (r : List ℕ) (i j : ℕ) → Provides t (a ∷ r) (suc i) (suc j) q → Provides t r i j q
  provides_down a r i j h = record {
    earlier = omega arith;
    within = omega arith;
    added = h.added;
    needed = h.needed;
    between = λ k l m. h.between (suc k) (omega arith) (omega arith);
  }

  provides_up : (a : ℕ) (r : List ℕ) (i j : ℕ) → Provides t r i j q → Provides t (a ∷ r) (suc i) (suc j) q
  provides_up a r i j h = record {
    earlier = omega arith;
    within = omega arith;
    added = h.added;
    needed = h.needed;
    between = λ k l m. shift (Without (a ∷ r)) (suc i) j h.between k l (omega arith);
  }

  ends_down : (a : ℕ) (r : List ℕ) (i : ℕ) → Ends t (a ∷ r) (suc i) q → Ends t r i q
  ends_down a r i h = record { within = omega arith; added = h.added; later = λ k l m. h.later (suc k) (omega arith) (omega arith) }

  ends_up : (a : ℕ) (r : List ℕ) (i : ℕ) → Ends t r i q → Ends t (a ∷ r) (suc i) q
  ends_up a r i h = record { within = omega arith; added = h.added; later = λ k l m. shift (Without (a ∷ r)) (suc i) (length r) h.later k l (omega arith) }

  -- one more action in front
  placed_up : (c : Bool) (a : ℕ) (r : List ℕ) → (T (t.needs a q) → R c a) → Placed (cond (t.adds a q) (one a) c) r → Placed c (a ∷ r)
  placed_up c a r uses h = record { pairs = pairs; first = first; last = last; never = never }
    where
      pairs : (i j : ℕ) → Provides t (a ∷ r) i j q → R (one (step (a ∷ r) i)) (step (a ∷ r) j)
      pairs i zero k = absurd (omega arith)
      pairs zero (suc j) k = subst (λ (b : Bool). R b (step r j)) (cond_yes (t.adds a q) (one a) c k.added)
          (h.first j (omega arith) k.needed (λ n l. k.between (suc n) (omega arith) (omega arith)))
      pairs (suc i) (suc j) k = h.pairs i j (provides_down a r i j k)

      first : (j : ℕ) → j < length (a ∷ r) → T (t.needs (step (a ∷ r) j) q) → ((k : ℕ) → k < j → Without (a ∷ r) k) → R c (step (a ∷ r) j)
      first zero l n f = uses n
      first (suc j) l n f = subst (λ (b : Bool). R b (step r j)) (cond_no (t.adds a q) (one a) c (f 0 (omega arith)))
          (h.first j (omega arith) n (λ k m. f (suc k) (omega arith)))

      last : (i : ℕ) → Ends t (a ∷ r) i q → E (one (step (a ∷ r) i))
      last zero k = subst E (cond_yes (t.adds a q) (one a) c k.added) (h.never (λ n l. k.later (suc n) (omega arith) (omega arith)))
      last (suc i) k = h.last i (ends_down a r i k)

      never : ((k : ℕ) → k < length (a ∷ r) → Without (a ∷ r) k) → E c
      never f = subst E (cond_no (t.adds a q) (one a) c (f 0 (omega arith))) (h.never (λ k l. f (suc k) (omega arith)))

  placed_down : (c : Bool) (a : ℕ) (r : List ℕ) → Placed c (a ∷ r) → Placed (cond (t.adds a q) (one a) c) r
  placed_down c a r h = record {
    pairs = λ i j k. h.pairs (suc i) (suc j) (provides_up a r i j k);
    first = λ j l n f. cond_both (t.adds a q) (one a) c (λ b. R b (step r j))
        (λ e. h.pairs 0 (suc j) (record { earlier = omega arith; within = omega arith; added = subst T (sym e) tt; needed = n; between = λ k x m. shift (Without (a ∷ r)) 0 j (λ k y. f k) k x (omega arith) }))
        (λ e. h.first (suc j) (omega arith) n (λ k m. in_front (Without (a ∷ r)) j (subst T e) f k (omega arith)));
    last = λ i k. h.last (suc i) (ends_up a r i k);
    never = λ f. cond_both (t.adds a q) (one a) c E
        (λ e. h.last 0 (record { within = omega arith; added = subst T (sym e) tt; later = λ k x m. shift (Without (a ∷ r)) 0 (length r) (λ k y. f k) k x (omega arith) }))
        (λ e. h.never (λ k m. in_front (Without (a ∷ r)) (length r) (subst T e) f k (omega arith)));
  }

  placed_from : (c : Bool) (r : List ℕ) → Carried c r → Placed c r
  placed_from c [] h = record { pairs = λ i j k. absurd (omega arith); first = λ j l n f. absurd (omega arith); last = λ i k. absurd (omega arith); never = λ f. h }
  placed_from c (a ∷ r) h = placed_up c a r h.0 (placed_from (cond (t.adds a q) (one a) c) r h.1)

  carried_from : (c : Bool) (r : List ℕ) → Placed c r → Carried c r
  carried_from c [] h = h.never (λ k l. absurd (omega arith))
  carried_from c (a ∷ r) h =
      (λ n. h.first 0 (omega arith) n (λ k l. absurd (omega arith)), carried_from (cond (t.adds a q) (one a) c) r (placed_down c a r h))

  pub placed : (c : Bool) (r : List ℕ) → Carried c r ↔ Placed c r
  placed c r = (placed_from c r, carried_from c r)
