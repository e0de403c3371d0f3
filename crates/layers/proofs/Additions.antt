-- A row that is refused, and one that is accepted.
use Rattle.std.proofs.Common.{◌≡◌, cond, List, [], ◌∷◌, ◌++◌, is_ok, Ok, Err, Decides, Result, sym, refl, ap, ◌∙◌, subst}
use Rattle.std.specs.Result.{result_unwrap_or}
use Rattle.std.proofs.lemmas.Bool.{true≢false}
use Rattle.planning.specs.Verdicts.{Verdict, on_ok}
use Rattle.planning.specs.declared.fault.Fault.{Fault}
use Rattle.layers.specs.Adding.{Added}

module _ {Row : Type 0} (Below : Type 0) (Fit : List Row → Type 0) (defined : Result (List Row) Fault) (old : List Row) (row : Row)
    (decides : Below → Fit old → Decides (is_ok defined) (Fit (old ++ row ∷ []))) (fit : Below → Fit old) where
  decides_by : (d : Result (List Row) Fault) → (Below → d ≡ defined) → Below → Decides (is_ok d) (Fit (old ++ row ∷ []))
  decides_by d e b = subst (λ (x : Result (List Row) Fault). Decides (is_ok x) (Fit (old ++ row ∷ []))) (sym (e b)) (decides b (fit b))

  pub added_none : (f : Fault) → (Below → Err f ≡ defined) → Added Below Fit defined old old row (Err f)
  added_none f e = record { behind = refl; refused = λ _. refl; exact = e; decides = decides_by (Err f) e; fits = fit }

  pub fits_more : (Below → Ok (old ++ row ∷ []) ≡ defined) → Below → Fit (old ++ row ∷ [])
  fits_more e b = (decides_by (Ok (old ++ row ∷ [])) e b).0 refl

  pub added_one : (new : List Row) → new ≡ old ++ row ∷ [] → (Below → Ok (old ++ row ∷ []) ≡ defined) → Added Below Fit defined old new row (Ok tt)
  added_one new is e = record {
    behind = is;
    refused = λ x. absurd (true≢false x);
    exact = λ b. ap Ok is ∙ e b;
    decides = decides_by (Ok (old ++ row ∷ [])) e;
    fits = λ b. subst Fit (sym is) (fits_more e b);
  }

-- the rows afterwards: as defined, or as before
pub added_rows : {Row : Type 0} (Below : Type 0) (Fit : List Row → Type 0) (defined : Result (List Row) Fault) (old new : List Row) (row : Row) (r : Verdict)
    → Added Below Fit defined old new row r → Below → new ≡ result_unwrap_or defined old
added_rows Below Fit defined old new row r a b = go r (a.exact b) a.behind
  where
    go : (r : Verdict) → on_ok (λ _. new) r ≡ defined → new ≡ cond (is_ok r) (old ++ row ∷ []) old → new ≡ result_unwrap_or defined old
    go (Ok u) e f = ap (λ d. result_unwrap_or d old) e
    go (Err x) e f = f ∙ ap (λ d. result_unwrap_or d old) e
