-- A fold or unfold of a macro of the topmost layer never breaks a plan: it is refused for its form only.
use Rattle.std.proofs.Common.{◌≡◌, ℕ, suc, ◌+◌, ◌-◌, ◌<◌, ◌≤◌, true, ltb, List, [], ◌∷◌, ◌++◌, length, get_or, take, drop, is_ok, Some, None, Ok, Err, Option, sym, refl, ap, ◌∙◌, subst, ap₂, inl, inr, ⊎_elim, append_assoc, arith}
use Rattle.std.proofs.ByRecursion.{All-append, All-take, All-drop}
use Rattle.std.proofs.lemmas.Bool.{cases_lt, cond_both, ltb-false}
use Rattle.std.proofs.lemmas.Bool.Decides.{nat_tests}
use Rattle.std.proofs.lemmas.Option.{some_pair_parts}
use Rattle.planning.specs.Tasks.{Task, Lawful, Solves}
use Rattle.planning.specs.Places.{action_at}
use Rattle.planning.specs.Macros.{blank, macro_task, unfolded as both, spread}
use Rattle.planning.specs.Rows.{MacroRows}
use Rattle.planning.specs.Verdicts.{Verdict, and_then, judged}
use Rattle.planning.specs.Edits.{splice, tried, is_place, are_places, are_parts, folded, opened, unfolded, OnlyForm}
use Rattle.planning.specs.Piles.{Known}
use Rattle.planning.specs.declared.join.Join.{Join}
use Rattle.planning.proofs.Macros.{row_fits, spread_iff, macro_lawful}
use Rattle.planning.proofs.Plans.{reaches_known}
use Rattle.planning.proofs.Edits.{at_place_is, at_places_are, place_of, places_of, parts_of}
use Rattle.planning.proofs.Verdicts.{judged_decides}

module _ (t : Task) (law : Lawful t) (rows : List Join) (fit : MacroRows t rows) where
  abbrev top : Task
  top = macro_task t rows

  lawful : Lawful top
  lawful = macro_lawful t rows law fit

  spread_append : (x y : List ℕ) → spread t.actions rows (x ++ y) ≡ spread t.actions rows x ++ spread t.actions rows y
  spread_append [] y = refl
  spread_append (a ∷ x) y =
      ap (λ r. both t.actions rows a ++ r) (spread_append x y) ∙ sym (append_assoc (both t.actions rows a) (spread t.actions rows x) (spread t.actions rows y))

  -- a macro of this layer: its parts stand below it
  record Joins (a b c : ℕ) : Type 0 where
    first : a < t.actions
    second : b < t.actions
    known : c < top.actions
    writes : both t.actions rows c ≡ a ∷ b ∷ []

  joins : (a b c : ℕ) → t.actions ≤ c → top.parts c ≡ Some (a, b) → Joins a b c
  joins a b c l e = ⊎_elim here there (cases_lt c (t.actions + length rows))
    where
      here : c < t.actions + length rows → Joins a b c
      here k =
          let w : Join = get_or rows (c - t.actions) blank in
          let ok = row_fits t rows fit (c - t.actions) (omega arith) in
          let same = some_pair_parts w.first a w.second b (grind (arith, nat_tests)) in
          record { first = rw (← same.0) ok.first_known; second = rw (← same.1) ok.second_known; known = k; writes = grind (arith, nat_tests, same.0, same.1) }

      there : t.actions + length rows ≤ c → Joins a b c
      there k = let none = lawful.parts_unknown c k in absurd cc

  alone : (a : ℕ) → a < t.actions → both t.actions rows a ≡ a ∷ []
  alone a l = grind (arith, nat_tests)

  -- with the macro, and with its parts
  abbrev one_for : List ℕ → ℕ → List ℕ → List ℕ
  one_for pre c post = pre ++ ((c ∷ []) ++ post)

  abbrev two_for : List ℕ → ℕ → ℕ → List ℕ → List ℕ
  two_for pre a b post = pre ++ ((a ∷ b ∷ []) ++ post)

  same_spread : (pre post : List ℕ) (a b c : ℕ) → Joins a b c → spread t.actions rows (one_for pre c post) ≡ spread t.actions rows (two_for pre a b post)
  same_spread pre post a b c j =
      let s = spread t.actions rows in
      spread_append pre ((c ∷ []) ++ post)
      ∙ ap (λ r. s pre ++ r) (ap (λ r. r ++ s post) j.writes ∙ sym (ap₂ (λ x y. x ++ (y ++ s post)) (alone a j.first) (alone b j.second)))
      ∙ sym (spread_append pre ((a ∷ b ∷ []) ++ post))

  swap_solves : (x y : List ℕ) → Known top y → spread t.actions rows x ≡ spread t.actions rows y → Solves top x → Solves top y
  swap_solves x y k e h =
      (spread_iff t rows fit t.initial y k).1
      (subst (λ (r : List ℕ). Solves t r) e ((spread_iff t rows fit t.initial x (reaches_known top top.initial x h)).0 h))

  -- an edited plan that solves the task, unless it is too long
  tried_form : (x : List ℕ) → Solves top x → OnlyForm (tried top x)
  tried_form x h = cond_both (ltb 256 (length x)) _ _ (λ v. OnlyForm (and_then v (λ _. Ok x)))
      (λ e. inr (inr (inr (inr refl))))
      (λ e. accepted (judged top x) ((judged_decides top lawful x).1 (ltb-false 256 (length x) e, h)))
    where
      accepted : (v : Verdict) → is_ok v ≡ true → OnlyForm (and_then v (λ _. Ok x))
      accepted (Ok u) f = tt
      accepted (Err y) f = absurd cc

  module _ (plan : List ℕ) (h : Solves top plan) where
    known : Known top plan
    known = reaches_known top top.initial plan h

    part_known : (i n : ℕ) (mid : List ℕ) → Known top mid → Known top (splice plan i n mid)
    part_known i n mid m =
        All-append (λ a. a < top.actions) (take i plan) (mid ++ drop (i + n) plan) (All-take (λ a. a < top.actions) i plan known)
        (All-append (λ a. a < top.actions) mid (drop (i + n) plan) m (All-drop (λ a. a < top.actions) (i + n) plan known))

    fold_solves : (i c : ℕ) → 0 < i → i < length plan → Joins (action_at plan i) (action_at plan (suc i)) c → Solves top (splice plan (i - 1) 2 (c ∷ []))
    fold_solves i c l m j =
        let a = action_at plan i in
        let b = action_at plan (suc i) in
        let pre = take (i - 1) plan in
        let post = drop (i - 1 + 2) plan in
        swap_solves plan (one_for pre c post) (part_known (i - 1) 2 (c ∷ []) (j.known, tt))
        (ap (spread t.actions rows) (at_places_are plan i l m) ∙ sym (same_spread pre post a b c j)) h

    unfold_solves : (i a b : ℕ) → 0 < i → i ≤ length plan → Joins a b (action_at plan i) → Solves top (splice plan (i - 1) 1 (a ∷ b ∷ []))
    unfold_solves i a b l m j =
        let c = action_at plan i in
        let pre = take (i - 1) plan in
        let post = drop (i - 1 + 1) plan in
        let low : (x : ℕ) → x < t.actions → x < top.actions = λ x k. omega arith in
        swap_solves plan (two_for pre a b post) (part_known (i - 1) 1 (a ∷ b ∷ []) (low a j.first, (low b j.second, tt)))
        (ap (spread t.actions rows) (at_place_is plan i l m) ∙ same_spread pre post a b c j) h

    pub fold_form : (i c : ℕ) → t.actions ≤ c → OnlyForm (folded top plan i c)
    fold_form i c low = cond_both (are_places plan i) _ _ OnlyForm
        (λ e. cond_both (ltb c top.actions) _ _ OnlyForm
        (λ d. cond_both (are_parts (top.parts c) (action_at plan i) (action_at plan (suc i))) _ _ OnlyForm
        (λ f.
        let p = places_of top lawful plan i e in
        let j = joins (action_at plan i) (action_at plan (suc i)) c low (parts_of top lawful (top.parts c) (action_at plan i) (action_at plan (suc i)) f) in
        tried_form (splice plan (i - 1) 2 (c ∷ [])) (fold_solves i c p.0 p.1 j))
        (λ f. inr (inr (inr (inl refl)))))
        (λ d. inr (inr (inl refl))))
        (λ e. inr (inl refl))

    pub unfold_form : (i : ℕ) → t.actions ≤ action_at plan i → OnlyForm (unfolded top plan i)
    unfold_form i low = cond_both (is_place plan i) _ _ OnlyForm (λ e. opens e (top.parts (action_at plan i)) refl) (λ e. inr (inl refl))
      where
        opens : is_place plan i ≡ true → (o : Option (ℕ × ℕ)) → top.parts (action_at plan i) ≡ o → OnlyForm (opened top plan i o)
        opens e None f = inr (inr (inr (inl refl)))
        opens e (Some w) f =
            let p = place_of top lawful plan i e in
            tried_form (splice plan (i - 1) 1 (w.0 ∷ w.1 ∷ [])) (unfold_solves i w.0 w.1 p.0 p.1 (joins w.0 w.1 (action_at plan i) low f))
