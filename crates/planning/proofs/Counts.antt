-- How many numbers below a limit are in a set, and which is the lowest and the greatest.
use Rattle.std.proofs.Common.{◌≡◌, ℕ, zero, suc, ◌+◌, ◌<◌, ◌≤◌, Bool, true, false, cond, T, is_some, Some, None, Option, sym, refl, ap, ◌∙◌, ap₂, ⊎_elim, add-zero, add_assoc, add-suc, arith, MatchOption}
use Rattle.std.specs.Option.{option_or}
use Rattle.std.proofs.lemmas.Bool.{cases_lt, cases_order, cond_both}
use Rattle.planning.specs.Sets.{AtomSet, Under, count, lowest, greatest}

pub count_same : (f g : AtomSet) (n : ℕ) → ((k : ℕ) → k < n → f k ≡ g k) → count f n ≡ count g n
unfolding count
count_same f g zero h = refl
count_same f g (suc n) h = ap₂ (λ x b. x + cond b 1 0) (count_same f g n (λ k l. h k (omega arith))) (h n (omega arith))

pub count_le : (f : AtomSet) (n : ℕ) → count f n ≤ n
unfolding count
count_le f zero = omega arith
count_le f (suc n) = cond_both (f n) 1 0 (λ x. count f n + x ≤ suc n) (λ _. omega (arith, count_le f n)) (λ _. omega (arith, count_le f n))

pub count_add : (f : AtomSet) (m n : ℕ) → count f (m + n) ≡ count f m + count (λ k. f (m + k)) n
unfolding count
count_add f m zero = ap (count f) (add-zero m) ∙ sym (add-zero _)
count_add f m (suc n) = ap (count f) (add-suc m n) ∙ ap (λ x. x + cond (f (m + n)) 1 0) (count_add f m n) ∙ add_assoc _ _ _

-- one number more at the bottom
pub count_low : (f : AtomSet) (n : ℕ) → count f (suc n) ≡ cond (f 0) 1 0 + count (λ k. f (suc k)) n
unfolding count
count_low f zero = omega arith
count_low f (suc n) = ap (λ x. x + cond (f (suc n)) 1 0) (count_low f n) ∙ add_assoc _ _ _

-- o is the lowest number of the set below n, if there is one
abbrev pub Lowest : AtomSet → ℕ → Option ℕ → Type 0
Lowest f n o = MatchOption o ((k : ℕ) → k < n → f k ≡ false) (λ p. (p < n) × (f p ≡ true) × ((k : ℕ) → k < p → f k ≡ false))

pub lowest_tells : (f : AtomSet) (n : ℕ) → Lowest f n (lowest f n)
unfolding lowest
lowest_tells f zero = λ k l. absurd (omega arith)
lowest_tells f (suc n) = go (lowest f n) (lowest_tells f n) (f n) refl
  where
    go : (o : Option ℕ) → Lowest f n o → (b : Bool) → f n ≡ b → Lowest f (suc n) (option_or o (cond b (Some n) None))
    go (Some p) h b e = (omega (arith, h.0), h.1, h.2)
    go None h true e = (omega arith, e, h)
    go None h false e = λ k l. ⊎_elim (h k) (λ m. let s : k ≡ n = omega arith in cc) (cases_lt k n)

lowest_is : (f : AtomSet) (n : ℕ) (o o' : Option ℕ) → Lowest f n o → Lowest f n o' → o ≡ o'
lowest_is f n None None h k = refl
lowest_is f n None (Some q) h k = absurd (cc (h q k.0))
lowest_is f n (Some p) None h k = absurd (cc (k p h.0))
lowest_is f n (Some p) (Some q) h k = ap Some (⊎_elim (λ e. e) (⊎_elim (λ l. absurd (cc (k.2 p l))) (λ l. absurd (cc (h.2 q l)))) (cases_order p q))

pub lowest_none : (f : AtomSet) (n : ℕ) → ((k : ℕ) → k < n → f k ≡ false) → lowest f n ≡ None
lowest_none f n h = lowest_is f n (lowest f n) None (lowest_tells f n) h

pub lowest_some : (f : AtomSet) (n p : ℕ) → p < n → f p ≡ true → ((k : ℕ) → k < p → f k ≡ false) → lowest f n ≡ Some p
lowest_some f n p l t h = lowest_is f n (lowest f n) (Some p) (lowest_tells f n) (l, t, h)

-- what holds of none, where there is none, and of the lowest holds of what `lowest` answers
pub lowest_elim : (f : AtomSet) (n : ℕ) (P : Option ℕ → Type 0) → (((k : ℕ) → k < n → f k ≡ false) → P None)
    → ((p : ℕ) → p < n → f p ≡ true → ((k : ℕ) → k < p → f k ≡ false) → P (Some p)) → P (lowest f n)
lowest_elim f n P none some = go (lowest f n) (lowest_tells f n)
  where
    go : (o : Option ℕ) → Lowest f n o → P o
    go None h = none h
    go (Some p) h = some p h.0 h.1 h.2

pub lowest_empty : (f : AtomSet) (n : ℕ) → is_some (lowest f n) ≡ false → (k : ℕ) → k < n → f k ≡ false
lowest_empty f n = lowest_elim f n (λ o. is_some o ≡ false → (k : ℕ) → k < n → f k ≡ false) (λ h e. h) (λ p l t u e. absurd cc)

pub greatest_none : (f : AtomSet) (n : ℕ) → ((k : ℕ) → k < n → f k ≡ false) → greatest f n ≡ None
unfolding greatest
greatest_none f zero h = refl
greatest_none f (suc n) h = ap₂ (λ b o. cond b (Some n) o) (h n (omega arith)) (greatest_none f n (λ k l. h k (omega arith)))

pub greatest_some : (f : AtomSet) (n p : ℕ) → p < n → f p ≡ true → ((k : ℕ) → p < k → k < n → f k ≡ false) → greatest f n ≡ Some p
unfolding greatest
greatest_some f zero p l t h = absurd (omega arith)
greatest_some f (suc n) p l t h = ⊎_elim
    (λ m. ap₂ (λ b o. cond b (Some n) o) (h n m (omega arith)) (greatest_some f n p m t (λ k q r. h k q (omega arith))))
    (λ m. let e : n ≡ p = omega arith in ap (λ b. cond b (Some n) (greatest f n)) (ap f e ∙ t) ∙ ap Some e)
    (cases_lt p n)

-- what a set has below its own limit is all that it has
pub under_false : (f : AtomSet) (n k : ℕ) → Under n f → n ≤ k → f k ≡ false
under_false f n k u l = let h : T (f k) → k < n = u k in grind arith

-- what changes no more from n on
settled : {X : Type 0} (g : ℕ → X) (n m : ℕ) → ((k : ℕ) → n ≤ k → g (suc k) ≡ g k) → n ≤ m → g m ≡ g n
settled g n zero more l = let e : 0 ≡ n = omega arith in ap g e
settled g n (suc m) more l = ⊎_elim
    (λ h. let e : suc m ≡ n = omega arith in ap g e)
    (λ h. more m h ∙ settled g n m more h)
    (cases_lt m n)

pub count_under : (f : AtomSet) (n m : ℕ) → Under n f → n ≤ m → count f m ≡ count f n
unfolding count
count_under f n m u = settled (count f) n m (λ k l. ap (λ b. count f k + cond b 1 0) (under_false f n k u l) ∙ add-zero (count f k))

pub lowest_under : (f : AtomSet) (n m : ℕ) → Under n f → n ≤ m → lowest f m ≡ lowest f n
unfolding lowest
lowest_under f n m u =
    settled (lowest f) n m (λ k l. ap (λ b. option_or (lowest f k) (cond b (Some k) None)) (under_false f n k u l) ∙ grind arith)
