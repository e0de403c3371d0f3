-- What the words of a set say of its atoms.
use Rattle.std.proofs.Common.{◌≡◌, ℕ, zero, suc, ◌+◌, ◌-◌, ◌*◌, ◌/◌, ◌%◌, ◌^◌, ◌<◌, ◌≤◌, Bool, true, false, ◌&&◌, ◌||◌, T, eqb, ◌⊎◌, [], ◌∷◌, length, get_or, set, Some, sym, refl, ap, ◌∙◌, subst, ap₂, inl, inr, ⊎_elim, arith, get_or-set_other, get_or-set_same, take, take_all, add-one}
use lib.Bits.{bit_or}
use lib.Count.{ones}
use Rattle.std.proofs.lemmas.Bool.{lt-ltb, le-ltb, eq-eqb, ne_eqb, cases_lt, cases_eq}
use Rattle.std.proofs.lemmas.Nat.{one_shl}
use Rattle.atoms.specs.declared.set.Atoms.{Atoms}
use mathlib.Core.Path.{fun_ext}
use Rattle.std.specs.Prelude.{Decides, sum_by}
use Rattle.std.proofs.lemmas.List.Sums.{sum_by_more}
use Rattle.planning.specs.Sets.{Under, count, lowest, greatest, same_below}
use Rattle.planning.proofs.Same.{same_decides}
use Rattle.planning.proofs.Counts.{count_same, count_add, lowest_some, greatest_some}
use Rattle.atoms.specs.Digits.{bit}
use Rattle.atoms.specs.Has.{has}
use Rattle.atoms.proofs.Digits.{bit-or, bit_one, bit_none, bit_top, bit_high, Lowest, ones_count}

abbrev pub word : Atoms → ℕ → ℕ
word a i = get_or a.words i 0

pub has_in : (a : Atoms) (p : ℕ) → p < 320 → has a p ≡ bit (word a (p / 64)) (p % 64)
unfolding has
has_in a p h = ap (λ b. b && bit (word a (p / 64)) (p % 64)) (lt-ltb p 320 h)

pub has_past : (a : Atoms) (p : ℕ) → 320 ≤ p → has a p ≡ false
unfolding has
has_past a p h = ap (λ b. b && bit (word a (p / 64)) (p % 64)) (le-ltb p 320 h)

-- no set has an atom from 320 on
pub has_under : (a : Atoms) → Under 320 (has a)
has_under a p t = ⊎_elim (λ h. h) (λ l. absurd (subst T (has_past a p l) t)) (cases_lt p 320)

pub has_at : (a : Atoms) (i k : ℕ) → i < 5 → k < 64 → has a (i * 64 + k) ≡ bit (word a i) k
has_at a i k h l = has_in a (i * 64 + k) (omega arith) ∙ ap₂ (λ x y. bit (word a x) y) (omega arith) (omega arith)

-- what `==` and `!=` of two sets go by says exactly whether they have the same atoms
pub same_atoms_decide : (a b : Atoms) → Decides (same_below 320 (has a) (has b)) (has a ≡ has b)
same_atoms_decide a b = (
  λ e. fun_ext (λ p. ⊎_elim ((same_decides 320 (has a) (has b)).0 e p) (λ l. has_past a p l ∙ sym (has_past b p l)) (cases_lt p 320)),
  λ e. (same_decides 320 (has a) (has b)).1 (λ k l. ap (λ f. f k) e),
)

-- five words, one by one
abbrev pub made : (ℕ → ℕ) → Atoms
made f = record { words = f 0 ∷ f 1 ∷ f 2 ∷ f 3 ∷ f 4 ∷ [] }

word_made : (f : ℕ → ℕ) (i : ℕ) → i < 5 → word (made f) i ≡ f i
word_made f zero h = refl
word_made f (suc zero) h = refl
word_made f (suc (suc zero)) h = refl
word_made f (suc (suc (suc zero))) h = refl
word_made f (suc (suc (suc (suc zero)))) h = refl
word_made f (suc (suc (suc (suc (suc i))))) h = absurd (omega arith)

pub has_made : (f : ℕ → ℕ) (p : ℕ) → p < 320 → has (made f) p ≡ bit (f (p / 64)) (p % 64)
has_made f p h = has_in (made f) p h ∙ ap (λ w. bit w (p % 64)) (word_made f (p / 64) (omega arith))

-- an operation word by word is one atom by atom
pub pointwise : (op : ℕ → ℕ → ℕ) (on : Bool → Bool → Bool) (a b r : Atoms) → on false false ≡ false
    → ((i : ℕ) → i < 5 → word r i ≡ op (word a i) (word b i))
    → ((i k : ℕ) → i < 5 → k < 64 → bit (op (word a i) (word b i)) k ≡ on (bit (word a i) k) (bit (word b i) k))
    → has r ≡ (λ p. on (has a p) (has b p))
pointwise op on a b r z words each = fun_ext (λ p. go p (cases_lt p 320))
  where
    go : (p : ℕ) → (p < 320) ⊎ (320 ≤ p) → has r p ≡ on (has a p) (has b p)
    go p (inl h) =
        has_in r p h ∙ ap (λ w. bit w (p % 64)) (words (p / 64) (omega arith)) ∙ each (p / 64) (p % 64) (omega arith) (omega arith)
        ∙ sym (ap₂ on (has_in a p h) (has_in b p h))
    go p (inr h) = has_past r p h ∙ sym z ∙ sym (ap₂ on (has_past a p h) (has_past b p h))

pub or_same : (x y : Bool) → y ≡ false → x ≡ (x || y)
or_same true y e = refl
or_same false y e = sym e

-- one atom more
pub has_inserted : (a : Atoms) (p : ℕ) → length a.words ≡ 5 → p < 320 → (q : ℕ)
    → has (record { words = set a.words (p / 64) (bit_or (word a (p / 64)) ((1 * 2 ^ (p % 64)) % 2 ^ 64)) }) q ≡ (has a q || eqb q p)
has_inserted a p len h q = go (cases_lt q 320) (cases_eq (q / 64) (p / 64))
  where
    new : Atoms
    new = record { words = set a.words (p / 64) (bit_or (word a (p / 64)) ((1 * 2 ^ (p % 64)) % 2 ^ 64)) }

    flag : (1 * 2 ^ (p % 64)) % 2 ^ 64 ≡ 2 ^ (p % 64)
    flag = one_shl (p % 64) 64 (omega arith)

    same : q / 64 ≡ p / 64 → eqb (q % 64) (p % 64) ≡ eqb q p
    same e = elim (cases_eq q p) [ inl s ↦ eq-eqb _ _ (omega arith) ∙ sym (eq-eqb q p s) | inr n ↦ ne_eqb _ _ (λ s. n (omega arith)) ∙ sym (ne_eqb q p n) ]

    go : (q < 320) ⊎ (320 ≤ q) → (q / 64 ≡ p / 64) ⊎ (q / 64 ≡ p / 64 → ⊥) → has new q ≡ (has a q || eqb q p)
    go (inr l) e = has_past new q l ∙ sym (ap₂ ◌||◌ (has_past a q l) (ne_eqb q p (omega arith)))
    go (inl l) (inl e) =
        has_in new q l ∙ ap (λ w. bit w (q % 64)) (ap (λ i. get_or new.words i 0) e ∙ get_or-set_same a.words (p / 64) _ 0 (omega arith))
        ∙ bit-or (word a (p / 64)) _ (q % 64)
        ∙ ap₂ ◌||◌ (sym (has_in a q l ∙ ap (λ i. bit (word a i) (q % 64)) e)) (ap (λ w. bit w (q % 64)) flag ∙ bit_one (p % 64) (q % 64) ∙ same e)
    go (inl l) (inr n) =
        has_in new q l ∙ ap (λ w. bit w (q % 64)) (get_or-set_other a.words (p / 64) (q / 64) _ 0 n)
        ∙ sym (has_in a q l) ∙ or_same (has a q) (eqb q p) (ne_eqb q p (λ e. n (ap (λ x. x / 64) e)))

-- one word more is counted
pub count_word : (a : Atoms) (i : ℕ) → i < 5 → word a i < 2 ^ 64
    → count (has a) ((i + 1) * 64) ≡ count (has a) (i * 64) + ones (word a i)
count_word a i h l =
    ap (count (has a)) (omega arith) ∙ count_add (has a) (i * 64) 64
    ∙ ap (λ n. count (has a) (i * 64) + n) (count_same _ _ 64 (λ k m. has_at a i k h m) ∙ sym (ones_count 64 (word a i) l))

-- the atoms are the ones of all words
pub count_words : (a : Atoms) → length a.words ≡ 5 → ((i : ℕ) → i < 5 → word a i < 2 ^ 64) → sum_by ones a.words ≡ count (has a) 320
unfolding count
count_words a long fits = ap (sum_by ones) (sym (take_all 5 a.words (omega arith))) ∙ up_to 5 (omega arith)
  where
    up_to : (n : ℕ) → n ≤ 5 → sum_by ones (take n a.words) ≡ count (has a) (n * 64)
    up_to zero h = refl
    up_to (suc n) h =
        ap (λ m. sum_by ones (take m a.words)) (sym (add-one n)) ∙ sum_by_more ones a.words n 0 (omega arith)
        ∙ ap (λ m. m + ones (word a n)) (up_to n (omega arith)) ∙ sym (count_word a n (omega arith) (fits n (omega arith)))
        ∙ ap (λ m. count (has a) (m * 64)) (add-one n)

-- a word says of each atom from i * 64 up
pub word_part : (a : Atoms) (i p : ℕ) → i < 5 → i * 64 ≤ p → p < (i + 1) * 64 → has a p ≡ bit (word a i) (p - i * 64)
word_part a i p h l m = ap (has a) (omega arith) ∙ has_at a i (p - i * 64) h (omega arith)

pub no_word : (a : Atoms) (p : ℕ) → (p < 320 → word a (p / 64) ≡ 0) → has a p ≡ false
no_word a p none = ⊎_elim (λ h. has_in a p h ∙ ap (λ w. bit w (p % 64)) (none h) ∙ bit_none _) (has_past a p) (cases_lt p 320)

-- the lowest atom stands in the first word that is not 0
pub lowest_at : (a : Atoms) (i t : ℕ) → i < 5 → Lowest 64 (word a i) t → ((p : ℕ) → p < i * 64 → has a p ≡ false)
    → lowest (has a) 320 ≡ Some (i * 64 + t)
lowest_at a i t h low before =
    lowest_some (has a) 320 (i * 64 + t) (omega (arith, low.within)) (has_at a i t h low.within ∙ low.here)
    (λ k l. ⊎_elim (before k) (λ m. word_part a i k h m (omega (arith, low.within)) ∙ low.under (k - i * 64) (omega arith)) (cases_lt k (i * 64)))

-- and the highest in the last
pub highest_at : (a : Atoms) (i j : ℕ) → i < 5 → j < 64 → 2 ^ j ≤ word a i → word a i < 2 ^ suc j
    → ((p : ℕ) → (i + 1) * 64 ≤ p → has a p ≡ false) → greatest (has a) 320 ≡ Some (i * 64 + j)
highest_at a i j h l low high past =
    greatest_some (has a) 320 (i * 64 + j) (omega arith) (has_at a i j h l ∙ bit_top (word a i) j low high)
    (λ k m _. ⊎_elim (λ n. word_part a i k h (omega arith) n ∙ bit_high (word a i) (suc j) (k - i * 64) high (omega arith)) (past k) (cases_lt k ((i + 1) * 64)))
