-- A run of calls, one call after the other.
use Rattle.std.proofs.Common.{◌≡◌, ℕ, ◌+◌, ◌<◌, List, [], ◌∷◌, ◌++◌, reverse, length, get_or, take, set, sym, refl, ap, ◌∙◌, subst, ap₂, arith}
use Rattle.std.proofs.lemmas.List.{reverse-append, take_more, take_more_set, length-take-le}
use Rattle.planning.specs.Amounts.{Amounts}
use Rattle.planning.specs.Orders.{Held}
use Rattle.planning.specs.Runs.{Call, Answer, Log, answered, log_of, performed, RunFrom}
use Rattle.planning.specs.Tasks.{Task}

module _ {A : Type 0} where
  answered_push : (calls : List Call) (answers : List (Answer A)) (c : Call) (a : Answer A) → length calls ≡ length answers
      → answered (calls ++ c ∷ []) (answers ++ a ∷ []) ≡ answered calls answers ++ (c, a) ∷ []
  answered_push [] [] c a e = refl
  answered_push [] (b ∷ answers) c a e = absurd (omega arith)
  answered_push (d ∷ calls) [] c a e = absurd (omega arith)
  answered_push (d ∷ calls) (b ∷ answers) c a e = ap (λ r. (d, b) ∷ r) (answered_push calls answers c a (omega arith))

  -- the first i + 1 calls, once the answer to the last of them is written
  pub log_more : (calls : List Call) (answers : List (Answer A)) (i : ℕ) (blank : Call) (a : Answer A) → i < length calls → i < length answers
      → log_of (take (i + 1) calls) (take (i + 1) (set answers i a)) ≡ (get_or calls i blank, a) ∷ log_of (take i calls) (take i answers)
  log_more calls answers i blank a l m =
      let same : length (take i calls) ≡ length (take i answers) = omega (arith, length-take-le i calls (omega arith), length-take-le i answers (omega arith)) in
      ap₂ log_of (take_more calls i blank l) (take_more_set answers i a m)
      ∙ ap reverse (answered_push (take i calls) (take i answers) (get_or calls i blank) a same)
      ∙ reverse-append (answered (take i calls) (take i answers)) ((get_or calls i blank, a) ∷ [])

  module _ (am : Amounts A) (price : ℕ → A) (t : Task) where
    pub run_more : (first before held : Held) (calls : List Call) (answers : List (Answer A)) (i : ℕ) (blank : Call) (a : Answer A) → i < length calls → i < length answers
        → RunFrom am price t first (log_of (take i calls) (take i answers)) before → performed am price t before (get_or calls i blank) ≡ (a, held)
        → RunFrom am price t first (log_of (take (i + 1) calls) (take (i + 1) (set answers i a))) held
    run_more first before held calls answers i blank a l m r e =
        subst (λ (log : Log A). RunFrom am price t first log held) (sym (log_more calls answers i blank a l m)) (before, r, e)

  answered_all : (calls : List Call) (answers : List (Answer A)) → answered (take (length calls) calls) (take (length calls) answers) ≡ answered calls answers
  answered_all [] answers = refl
  answered_all (c ∷ calls) [] = refl
  answered_all (c ∷ calls) (a ∷ answers) = ap (λ r. (c, a) ∷ r) (answered_all calls answers)

  -- once all calls are carried out, what stands beyond the answers says nothing
  pub log_all : (calls : List Call) (answers : List (Answer A)) (i : ℕ) → i ≡ length calls → log_of (take i calls) (take i answers) ≡ log_of calls answers
  log_all calls answers i e = ap (λ n. log_of (take n calls) (take n answers)) e ∙ ap reverse (answered_all calls answers)
