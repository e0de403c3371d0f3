-- What adding a row to a layer does.
use Rattle.std.specs.Prelude.{◌≡◌, false, cond, List, [], ◌∷◌, ◌++◌, is_ok, Decides, Result}
use Rattle.planning.specs.Verdicts.{Verdict, on_ok}
use Rattle.planning.specs.declared.fault.Fault.{Fault}

-- from the rows `old` to `new` by the row, with the answer r; Fit are the rows that the layer accepts, and `defined` the rows with this
-- one behind them or the fault, as defined; what depends on the task below holds if that is built
pub record Added {Row : Type 0} (Below : Type 0) (Fit : List Row → Type 0) (defined : Result (List Row) Fault) (old new : List Row) (row : Row) (r : Verdict) : Type 0 where
  -- an accepted row stands behind the earlier ones, a refused one changes nothing
  pub behind : new ≡ cond (is_ok r) (old ++ row ∷ []) old
  pub refused : is_ok r ≡ false → new ≡ old
  pub exact : Below → on_ok (λ _. new) r ≡ defined
  -- accepted exactly when the extended rows are acceptable
  pub decides : Below → Decides (is_ok r) (Fit (old ++ row ∷ []))
  pub fits : Below → Fit new
