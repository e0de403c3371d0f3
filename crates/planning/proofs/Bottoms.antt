-- A task given by rows that fit is a bottom.
use Rattle.std.proofs.Common.{ℕ, ◌<◌, ◌≤◌, cond, T, ltb, List, length, refl, arith}
use Rattle.std.specs.List.{AllByRecursion}
use Rattle.std.proofs.ByRecursion.{All-get_or}
use Rattle.std.proofs.lemmas.Bool.Decides.{nat_tests}
use Rattle.planning.specs.Sets.{AtomSet, none, only, ◌∪◌, Under}
use Rattle.planning.specs.Bottoms.{Bottom, Row, RowUnder, set_at, flat_task}

pub none_under : (n : ℕ) → Under n none
none_under n p h = absurd h

pub only_under : (n q : ℕ) → q < n → Under n (only q)
only_under n q l p h = grind (arith, nat_tests)

pub union_under : (n : ℕ) (a b : AtomSet) → Under n a → Under n b → Under n (a ∪ b)
union_under n a b u v p h = grind (arith, u p, v p)

pub set_at_under : (n : ℕ) (sets : List AtomSet) → AllByRecursion (Under n) sets → (a : ℕ) → a < length sets → Under n (set_at sets a)
set_at_under n sets h a l = All-get_or (Under n) sets a none l h

module _ (n m : ℕ) (initial goal : AtomSet) (row : ℕ → Row) where
  known : (set : ℕ → AtomSet) (a p : ℕ) → T (cond (ltb a m) (set a) none p) → a < m
  known set a p h = grind (arith, nat_tests)

  under : (set : ℕ → AtomSet) → ((a : ℕ) → a < m → Under n (set a)) → (a : ℕ) → Under n (cond (ltb a m) (set a) none)
  under set f a p h = let l = known set a p h in let u = f a l p in grind (arith, nat_tests)

  pub flat_bottom : n ≤ 320 → m ≤ 288 → Under n initial → Under n goal → ((a : ℕ) → a < m → RowUnder n (row a)) → Bottom (flat_task n m initial goal row)
  flat_bottom few_atoms few_actions starts aims fits = record {
    lawful = record {
      few_atoms = few_atoms;
      few_actions = few_actions;
      low = omega arith;
      initial_under = starts;
      goal_under = aims;
      needs_under = under (λ a. (row a).needs) (λ a l. (fits a l).needs_under);
      deletes_under = under (λ a. (row a).deletes) (λ a l. (fits a l).deletes_under);
      adds_under = under (λ a. (row a).adds) (λ a l. (fits a l).adds_under);
      needs_known = known (λ a. (row a).needs);
      deletes_known = known (λ a. (row a).deletes);
      adds_known = known (λ a. (row a).adds);
      kind_known = λ a l. grind (arith, nat_tests, (fits a l).kind_fits);
      kind_unknown = λ a l. grind (arith, nat_tests);
      base_known = λ a l. grind (arith, nat_tests);
      base_unknown = λ a l. grind (arith, nat_tests);
      parts_unknown = λ a l. refl;
      parts_lower = λ c a b e. absurd cc;
      parts_base = λ c a b e. absurd cc;
      first_known = λ p l. omega arith;
      first_unknown = λ p l. refl;
    };
    ground = refl;
    alone = λ a l. grind (arith, nat_tests);
    whole = λ a. refl;
  }
