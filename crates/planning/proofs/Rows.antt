-- A row is accepted exactly when the rows with it behind them are acceptable.
use Rattle.std.proofs.Common.{◌≡◌, ℕ, ◌+◌, ◌-◌, ◌<◌, true, false, not, ◌||◌, T, ltb, leb, List, [], ◌∷◌, ◌++◌, length, is_ok, Decides, Result, sym, refl, subst, arith}
use Rattle.std.proofs.ByRecursion.{All-append, all-has, has_push}
use Rattle.std.proofs.lemmas.List.{get_or_append_left, get_or_push, length_push}
use Rattle.std.proofs.lemmas.Bool.Decides.{nat_tests}
use Rattle.std.proofs.lemmas.Bool.{cond_both, leb-true, leb-false, ltb-false, or_parts, not-false}
use Rattle.planning.specs.Sets.{Under}
use Rattle.planning.specs.Tasks.{Task, Lawful}
use Rattle.planning.specs.Macros.{clash}
use Rattle.planning.specs.Rows.{Rising, RuleRows, above, rule_row, RowFits, MacroRows, unless_clash, macro_room, macro_row}
use Rattle.planning.specs.declared.fault.Fault.{Fault}
use Rattle.planning.specs.declared.join.Join.{Join}
use Rattle.planning.proofs.Counts.{lowest_elim}

-- a refusal decides what never holds
refused : {P : Type 0} → (P → ⊥) → Decides false P
refused h = (λ x. absurd cc, λ p. absurd (h p))

module _ (t : Task) (listed : List ℕ) (p : ℕ) where
  rising_push : Rising listed → above listed p ≡ true → Rising (listed ++ p ∷ [])
  rising_push up e i j l m =
      let n = length_push listed p in
      grind (arith, nat_tests, get_or_append_left listed (p ∷ []) 0 i, get_or_append_left listed (p ∷ []) 0 j, get_or_push listed p 0 j, up i j, up i (length listed - 1))

  above_push : Rising (listed ++ p ∷ []) → above listed p ≡ true
  above_push up =
      let n = length_push listed p in
      grind (arith, nat_tests, get_or_append_left listed (p ∷ []) 0 (length listed - 1), get_or_push listed p 0 (length listed), up (length listed - 1) (length listed))

  pub rule_row_decides : RuleRows t listed → Decides (is_ok (rule_row t listed p)) (RuleRows t (listed ++ p ∷ []))
  rule_row_decides rows =
      cond_both (leb t.atoms p || not (above listed p)) _ _ Decided (λ e. refused (λ r. bad r e))
      (λ e. cond_both (leb 32 (length listed)) _ _ Decided (λ f. refused (λ r. omega (arith, r.few, more, leb-true 32 (length listed) f)))
      (λ f. cond_both (leb 320 (t.atoms + length listed)) _ _ Decided (λ g. refused (λ r. omega (arith, r.room, more, leb-true 320 (t.atoms + length listed) g)))
      (λ g.
      let parts = or_parts (leb t.atoms p) (not (above listed p)) e in (
        λ x. record {
          known = All-append (λ p. p < t.atoms) listed (p ∷ []) rows.known (leb-false t.atoms p parts.0, tt);
          rising = rising_push rows.rising (not-false (above listed p) parts.1);
          few = omega (arith, more, leb-false 32 (length listed) f);
          room = omega (arith, more, leb-false 320 (t.atoms + length listed) g);
        },
        λ r. refl,
      ))))
    where
      more : length (listed ++ p ∷ []) ≡ length listed + 1
      more = length_push listed p

      Decided : Result (List ℕ) Fault → Type 0
      Decided d = Decides (is_ok d) (RuleRows t (listed ++ p ∷ []))

      bad : RuleRows t (listed ++ p ∷ []) → (leb t.atoms p || not (above listed p)) ≡ true → ⊥
      bad r e =
          let k : p < t.atoms = all-has (λ p. p < t.atoms) (listed ++ p ∷ []) p r.known (has_push listed p) in
          let up = above_push r.rising in
          grind (arith, nat_tests)

module _ (t : Task) (law : Lawful t) (rows : List Join) (w : Join) where
  pub clash_under : Under t.atoms (clash t w.first w.second)
  clash_under p h = grind (arith, law.needs_under w.second p)

  pub macro_row_decides : MacroRows t rows → Decides (is_ok (macro_row t rows w)) (MacroRows t (rows ++ w ∷ []))
  macro_row_decides fit =
      cond_both (leb t.actions w.first) _ _ Decided (λ p. refused (λ h. let k = (last h).first_known in omega (arith, leb-true t.actions w.first p)))
      (λ p. cond_both (leb t.actions w.second) _ _ Decided (λ q. refused (λ h. let k = (last h).second_known in omega (arith, leb-true t.actions w.second q)))
      (λ q. cond_both (leb 65535 w.kind) _ _ Decided (λ r. refused (λ h. let k = (last h).kind_fits in omega (arith, leb-true 65535 w.kind r)))
      (λ r. lowest_elim (clash t w.first w.second) t.atoms (λ o. Decided (unless_clash t o (macro_room t rows w)))
      (λ free. cond_both (leb 16 (length rows)) _ _ Decided (λ u. refused (λ h. omega (arith, h.few, more, leb-true 16 (length rows) u)))
      (λ u. cond_both (leb 288 (t.actions + length rows) || ltb 8 steps) _ _ Decided (λ v. refused (λ h. full h v))
      (λ v.
      let parts = or_parts (leb 288 (t.actions + length rows)) (ltb 8 steps) v in (
        λ x. record {
          each = All-append (RowFits t) rows (w ∷ []) fit.each (
            record {
              first_known = leb-false t.actions w.first p;
              second_known = leb-false t.actions w.second q;
              joins = λ k h. subst T (free k (clash_under k h)) h;
              kind_fits = omega (arith, leb-false 65535 w.kind r);
              short = ltb-false 8 steps parts.1;
            },
            tt,
          );
          few = omega (arith, more, leb-false 16 (length rows) u);
          room = omega (arith, more, leb-false 288 (t.actions + length rows) parts.0);
        },
        λ h. refl,
      ))))
      (λ x l e u. refused (λ h. (last h).joins x (subst T (sym e) tt))))))
    where
      steps : ℕ
      steps = length (t.base_steps w.first) + length (t.base_steps w.second)

      more : length (rows ++ w ∷ []) ≡ length rows + 1
      more = length_push rows w

      Decided : Result (List Join) Fault → Type 0
      Decided d = Decides (is_ok d) (MacroRows t (rows ++ w ∷ []))

      last : MacroRows t (rows ++ w ∷ []) → RowFits t w
      last r = all-has (RowFits t) (rows ++ w ∷ []) w r.each (has_push rows w)

      full : MacroRows t (rows ++ w ∷ []) → (leb 288 (t.actions + length rows) || ltb 8 steps) ≡ true → ⊥
      full r e = let k = (last r).short in grind (arith, nat_tests, more, r.room)
