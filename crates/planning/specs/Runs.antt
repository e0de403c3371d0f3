-- Runs of calls on an order, and the printed term: what holds after every list of calls.
use Rattle.std.specs.Prelude.{◌≡◌, ℕ, ◌+◌, ◌<◌, ◌≤◌, Bool, true, false, cond, T, ◌↔◌, List, [], ◌∷◌, reverse, length, Some, None, Ok, Err, Option, ◌==◌}
use Rattle.planning.specs.Tasks.{Task}
use Rattle.planning.specs.Amounts.{Amounts, total}
use Rattle.planning.specs.Orders.{Held, Outcome, load_call, drop_call, swap_call, fold_call, unfold_call, trim_call}
use Rattle.planning.specs.Piles.{Pile, meaning, written, Known, Good}
use Rattle.planning.specs.Trims.{left_out}
use Rattle.planning.specs.declared.fault.Fault.{Fault}

pub data Call : Type 0 where
  load_row : List ℕ → Call
  drop_step : ℕ → Call
  swap_steps : ℕ → Call
  fold_steps : ℕ → ℕ → Call
  unfold_step : ℕ → Call
  trim_plan : Call

-- only drop and trim answer a credit
pub data Answer (A : Type 0) : Type 0 where
  done : Answer A
  credit : A → Answer A
  refused : Fault → Answer A

-- calls with their answers, the newest first
abbrev pub Log : Type 0 → Type 0
Log A = List (Call × Answer A)

module _ {A : Type 0} where
  -- each call beside its answer
  abbrev pub answered : List Call → List (Answer A) → List (Call × Answer A)
  answered [] answers = []
  answered (c ∷ calls) [] = []
  answered (c ∷ calls) (a ∷ answers) = (c, a) ∷ answered calls answers

  -- the log of calls and of their answers, both in the order in which the calls were made
  abbrev pub log_of : List Call → List (Answer A) → Log A
  log_of calls answers = reverse (answered calls answers)

  abbrev pub said : {X : Type 0} → (X → Answer A) → Outcome X → Answer A × Held
  said answer (Ok x, held) = (answer x, held)
  said answer (Err f, held) = (refused f, held)

  abbrev pub is_accepted : Answer A → Bool
  is_accepted done = true
  is_accepted (credit c) = true
  is_accepted (refused f) = false

abbrev pub is_trim : Call → Bool
is_trim (load_row row) = false
is_trim (drop_step i) = false
is_trim (swap_steps i) = false
is_trim (fold_steps i c) = false
is_trim (unfold_step i) = false
is_trim trim_plan = true

module _ {A : Type 0} (am : Amounts A) (price : ℕ → A) (t : Task) where
  -- the answer to a call, and the plan held after it
  abbrev pub performed : Held → Call → Answer A × Held
  performed held (load_row row) = said (λ _. done) (load_call t held row)
  performed held (drop_step i) = said credit (drop_call am price t held i)
  performed held (swap_steps i) = said (λ _. done) (swap_call t held i)
  performed held (fold_steps i c) = said (λ _. done) (fold_call t held i c)
  performed held (unfold_step i) = said (λ _. done) (unfold_call t held i)
  performed held trim_plan = said credit (trim_call am price t held)

  -- the calls were carried out one after the other on an order that held `first`
  abbrev pub RunFrom : Held → Log A → Held → Type 0
  RunFrom first [] held = held ≡ first
  RunFrom first (e ∷ earlier) held = (before : Held) × RunFrom first earlier before × (performed before e.0 ≡ (e.1, held))

  -- the same on an order that held no plan at first
  abbrev pub Run : Log A → Held → Type 0
  Run = RunFrom None

module _ {A : Type 0} (am : Amounts A) where
  abbrev row_after : Call → Answer A → Option (List ℕ) → Option (List ℕ)
  row_after (load_row row) answer earlier = cond (is_accepted answer) (Some row) earlier
  row_after (drop_step i) answer earlier = earlier
  row_after (swap_steps i) answer earlier = earlier
  row_after (fold_steps i c) answer earlier = earlier
  row_after (unfold_step i) answer earlier = earlier
  row_after trim_plan answer earlier = earlier

  -- the plan last loaded: the row of the last accepted load
  abbrev pub last_loaded : Log A → Option (List ℕ)
  last_loaded [] = None
  last_loaded (e ∷ earlier) = row_after e.0 e.1 (last_loaded earlier)

  abbrev joined_credit : Answer A → A → A
  joined_credit done earlier = earlier
  joined_credit (credit c) earlier = am.join c earlier
  joined_credit (refused f) earlier = earlier

  abbrev credits_after : Call → Answer A → A → A
  credits_after (load_row row) answer earlier = cond (is_accepted answer) am.nought earlier
  credits_after (drop_step i) answer earlier = joined_credit answer earlier
  credits_after (swap_steps i) answer earlier = joined_credit answer earlier
  credits_after (fold_steps i c) answer earlier = joined_credit answer earlier
  credits_after (unfold_step i) answer earlier = joined_credit answer earlier
  credits_after trim_plan answer earlier = joined_credit answer earlier

  -- the credits that accepted calls answered after the last accepted load, joined
  abbrev pub credits_since : Log A → A
  credits_since [] = am.nought
  credits_since (e ∷ earlier) = credits_after e.0 e.1 (credits_since earlier)

-- the last accepted call was a trim
abbrev pub trimmed_last : {A : Type 0} → Log A → Bool
trimmed_last [] = false
trimmed_last (e ∷ earlier) = cond (is_accepted e.1) (is_trim e.0) (trimmed_last earlier)

-- how often an action stands in a row
abbrev pub times : ℕ → List ℕ → ℕ
times x [] = 0
times x (a ∷ r) = cond (x == a) 1 0 + times x r

module _ {A : Type 0} (am : Amounts A) (price : ℕ → A) (p : Pile) where
  -- a load of at most 256 known actions is accepted exactly when its plan is good
  abbrev pub LoadExact : Call → Answer A → Type 0
  LoadExact (load_row row) answer = length row ≤ 256 → Known (meaning p) row → T (is_accepted answer) ↔ Good p row
  LoadExact (drop_step i) answer = Unit {0}
  LoadExact (swap_steps i) answer = Unit {0}
  LoadExact (fold_steps i c) answer = Unit {0}
  LoadExact (unfold_step i) answer = Unit {0}
  LoadExact trim_plan answer = Unit {0}

  abbrev pub LoadsExact : Log A → Type 0
  LoadsExact [] = Unit {0}
  LoadsExact (e ∷ earlier) = LoadExact e.0 e.1 × LoadsExact earlier

  -- a trim after an accepted load is accepted
  abbrev pub TrimsAccepted : Log A → Type 0
  TrimsAccepted [] = Unit {0}
  TrimsAccepted (e ∷ earlier) = (T (is_trim e.0) → (row : List ℕ) → last_loaded am earlier ≡ Some row → T (is_accepted e.1)) × TrimsAccepted earlier

  -- the quote of a plan: the amounts of the plan written out, joined
  abbrev pub quote_of : List ℕ → A
  quote_of plan = total am price (written p plan)

  -- the plan that is held, beside the one last loaded
  pub record Kept (log : Log A) (row plan : List ℕ) : Type 0 where
    -- (a) written out it solves the bottom task, and it keeps each layer's rule
    pub plan_good : Good p plan
    -- (b) written out it has no base action more often
    pub no_more_often : (x : ℕ) → times x (written p plan) ≤ times x (written p row)
    -- (b) and its quote with all credits since is the quote of the plan last loaded
    pub balance : quote_of row ≡ am.join (quote_of plan) (credits_since am log)

  -- the three points of the term, of a log of calls with their answers and of the plan held after them
  pub record Term (log : Log A) (held : Held) : Type 0 where
    -- (a)
    pub loads_exact : LoadsExact log
    -- before the first accepted load no plan is held, and from then on one is
    pub unloaded : last_loaded am log ≡ None → held ≡ None
    pub loaded : (row : List ℕ) → last_loaded am log ≡ Some row → (plan : List ℕ) × (held ≡ Some plan) × Kept log row plan
    -- (c)
    pub trims_accepted : TrimsAccepted log
    pub nothing_to_strike : T (trimmed_last log) → (plan : List ℕ) → held ≡ Some plan → (i : ℕ) → i < length plan → Good p (left_out plan i) → ⊥

  -- the term, and what a quote answers then
  pub record QuotedTerm (log : Log A) (held : Held) (quote : A) : Type 0 where
    pub term : Term log held
    -- nought before the first accepted load
    pub unloaded_quote : last_loaded am log ≡ None → quote ≡ am.nought
    -- (b) from then on the quote of the plan held, which with all credits since is the quote of the plan last loaded
    pub loaded_quote : (row plan : List ℕ) → last_loaded am log ≡ Some row → held ≡ Some plan → (quote ≡ quote_of plan) × (quote_of row ≡ am.join quote (credits_since am log))
