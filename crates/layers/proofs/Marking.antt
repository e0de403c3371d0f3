-- What a rule layer marks: atom by atom, and over a task that is lawful and rows that fit it.
use Rattle.std.proofs.Common.{◌≡◌, ℕ, ◌+◌, ◌-◌, ◌<◌, ◌≤◌, Bool, true, false, ltb, List, length, get_or, take, sym, ap, ◌∙◌, ap₂, arith}
use mathlib.Core.Path.{fun_ext}
use Rattle.std.proofs.ByRecursion.{All-get_or}
use Rattle.std.proofs.lemmas.List.{length-take-le, get_or-take}
use Rattle.std.proofs.lemmas.Bool.{lt-ltb}
use Rattle.std.proofs.lemmas.Bool.Decides.{nat_tests}
use Rattle.atoms.specs.Has.{only_atom}
use Rattle.planning.specs.Sets.{AtomSet, Under, only, ◌∪◌}
use Rattle.planning.specs.Tasks.{Task, Lawful}
use Rattle.planning.specs.Marks.{marked, when}
use Rattle.planning.specs.Rows.{RuleRows}

-- one listed atom more
marked_more : (n k : ℕ) (xs : List ℕ) (s m : AtomSet) → Under n s → k < length xs
    → marked n (take (k + 1) xs) s m ≡ marked n (take k xs) s m ∪ when (m (get_or xs k 0)) (only (n + k))
marked_more n k xs s m u h = fun_ext λ q.
    let less = length-take-le k xs (omega arith) in
    let more = length-take-le (k + 1) xs (omega arith) in
    grind (arith, nat_tests, u q, get_or-take k xs (q - n) 0, get_or-take (k + 1) xs (q - n) 0)

-- whether its mark is put in or not
pub marked_yes : (n k r : ℕ) (xs : List ℕ) (s m now : AtomSet) → Under n s → k < length xs → n + k < 320 → r ≡ n + k → m (get_or xs k 0) ≡ true
    → now ≡ marked n (take k xs) s m → now ∪ only_atom r ≡ marked n (take (k + 1) xs) s m
marked_yes n k r xs s m now u h l e y is =
    ap₂ ◌∪◌ is (ap only_atom e ∙ ap (λ b. when b (only (n + k))) (lt-ltb (n + k) 320 l ∙ sym y)) ∙ sym (marked_more n k xs s m u h)

pub marked_no : (n k : ℕ) (xs : List ℕ) (s m now : AtomSet) → Under n s → k < length xs → m (get_or xs k 0) ≡ false
    → now ≡ marked n (take k xs) s m → now ≡ marked n (take (k + 1) xs) s m
marked_no n k xs s m now u h y is =
    is ∙ fun_ext (λ q. grind arith) ∙ sym (marked_more n k xs s m u h)

-- only the listed atoms count
marked_same : (n : ℕ) (listed : List ℕ) (s m m' : AtomSet) → ((k : ℕ) → k < length listed → m (get_or listed k 0) ≡ m' (get_or listed k 0))
    → marked n listed s m ≡ marked n listed s m'
marked_same n listed s m m' h = fun_ext (λ q. grind (arith, nat_tests, h (q - n)))

module _ (t : Task) (law : Lawful t) (listed : List ℕ) (rows : RuleRows t listed) where
  -- a set that the layer marked, by what the task below answered
  pub mark_is : (n : ℕ) (s s' m m' r : AtomSet) → n ≡ t.atoms → s ≡ s' → m ≡ m' → Under t.atoms s'
      → (n + length listed ≤ 320 → Under n s → r ≡ marked n listed s m) → r ≡ marked t.atoms listed s' m'
  mark_is n s s' m m' r e f g u is = is (omega (arith, e, rows.room)) (rw (e, f) u) ∙ cc

  -- all marks, or none
  pub mark_all : (b : Bool) (n : ℕ) (s s' m m' r : AtomSet) → n ≡ t.atoms → s ≡ s' → m ≡ when b (λ p. ltb p 320) → m' ≡ (λ p. b) → Under t.atoms s'
      → (n + length listed ≤ 320 → Under n s → r ≡ marked n listed s m) → r ≡ marked t.atoms listed s' m'
  mark_all b n s s' m m' r e f g h u is =
      mark_is n s s' m (when b (λ p. ltb p 320)) r e f g u is
      ∙ marked_same t.atoms listed s' (when b (λ p. ltb p 320)) (λ p. b) (λ k l. let low = All-get_or (λ p. p < t.atoms) listed k 0 l rows.known in grind (arith, nat_tests))
      ∙ ap (marked t.atoms listed s') (sym h)
