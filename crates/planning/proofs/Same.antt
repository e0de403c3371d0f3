-- Sets that agree below a number: an equivalence.
use Rattle.std.specs.Prelude.{Decides}
use Rattle.std.specs.Cmp.{IsEquivalence}
use Rattle.std.proofs.Common.{◌≡◌, ℕ, ◌<◌, Bool, false, not, ◌&&◌, T, is_some, is_none, sym, refl, ap, ◌∙◌, subst, arith}
use Rattle.std.proofs.lemmas.Bool.{not-true}
use Rattle.std.proofs.lemmas.Bool.Decides.{same_from_decides, Decides-like, Decides-and}
use Rattle.planning.specs.Sets.{AtomSet, ◌∖◌, ◌⊆◌, Under, lowest, same_below}
use Rattle.planning.proofs.Counts.{lowest_none, lowest_empty}

pub within : (x y : Bool) → (x && not y) ≡ false → T x → T y
within x y e t = grind arith

pub without : (x y : Bool) → (T x → T y) → (x && not y) ≡ false
without x y h = grind arith

alike : (x y : Bool) → (T x → T y) → (T y → T x) → x ≡ y
alike x y f g = grind arith

module _ (n : ℕ) where
  -- what the one has, the other has too
  none_left : (f g : AtomSet) → Decides (is_none (lowest (f ∖ g) n)) ((k : ℕ) → k < n → T (f k) → T (g k))
  none_left f g = (
    λ e k l. within (f k) (g k) (lowest_empty (f ∖ g) n (not-true (is_some (lowest (f ∖ g) n)) e) k l),
    λ h. ap is_none (lowest_none (f ∖ g) n (λ k l. without (f k) (g k) (h k l))),
  )

  both_left : (f g : AtomSet) → Decides (same_below n f g) (((k : ℕ) → k < n → T (f k) → T (g k)) × ((k : ℕ) → k < n → T (g k) → T (f k)))
  both_left f g = Decides-and _ _ (none_left f g) (none_left g f)

  pub same_decides : (f g : AtomSet) → Decides (same_below n f g) ((k : ℕ) → k < n → f k ≡ g k)
  same_decides f g = Decides-like _
      (λ h k l. alike (f k) (g k) (h.0 k l) (h.1 k l))
      (λ e. (λ k l. subst T (e k l), λ k l. subst T (sym (e k l))))
      (both_left f g)

  -- of sets that have nothing from n on
  pub subsets_decide : (f g : AtomSet) → Under n f → Under n g → Decides (same_below n f g) ((f ⊆ g) × (g ⊆ f))
  subsets_decide f g u v = Decides-like _
      (λ h. (λ p t. h.0 p (u p t) t, λ p t. h.1 p (v p t) t))
      (λ h. (λ k l. h.0 k, λ k l. h.1 k))
      (both_left f g)

  pub same_equivalence : IsEquivalence (same_below n)
  same_equivalence = record {
    refl = λ f. (same_decides f f).1 (λ k l. refl);
    symm = λ f g. same_from_decides _ _ (same_decides f g) (Decides-like _ (λ e k l. sym (e k l)) (λ e k l. sym (e k l)) (same_decides g f));
    congr = λ f g h e.
        let same = (same_decides f g).0 e in
        same_from_decides _ _ (same_decides f h) (Decides-like _ (λ q k l. same k l ∙ q k l) (λ q k l. sym (same k l) ∙ q k l) (same_decides g h));
  }
