-- The three points of the term hold of every run over a sound pile: one invariant, and one lemma for each call.
use Rattle.std.proofs.Common.{◌≡◌, ℕ, ◌+◌, ◌-◌, ◌<◌, ◌≤◌, Bool, cond, T, eqb, List, [], ◌∷◌, length, take, drop, is_ok, Some, None, Ok, Err, Option, sym, refl, ap, ◌∙◌, subst, arith}
use Rattle.std.specs.List.{flat_map}
use Rattle.std.proofs.ByRecursion.{All-append, All-take, All-drop}
use Rattle.planning.specs.Tasks.{Task}
use Rattle.planning.specs.Amounts.{Amounts, total}
use Rattle.planning.specs.Places.{action_at}
use Rattle.planning.specs.Faults.{at_place}
use Rattle.planning.specs.Verdicts.{Verdict, judged}
use Rattle.planning.specs.Edits.{Edited, dropped, swapped, folded, unfolded}
use Rattle.planning.specs.Trims.{Spare, left_out, trimmed}
use Rattle.planning.specs.Orders.{Held, loaded, taken_or, taken, charge, quoted}
use Rattle.planning.specs.Piles.{Pile, meaning, written, Known, Good, Sound}
use Rattle.planning.specs.Runs.{Call, load_row, drop_step, swap_steps, fold_steps, unfold_step, trim_plan, Answer, done, credit, refused, Log, said, is_accepted, is_trim, performed, Run, last_loaded, credits_since, trimmed_last, times, LoadExact, LoadsExact, TrimsAccepted, Kept, Term, QuotedTerm}
use Rattle.planning.specs.declared.fault.Fault.{Fault}
use Rattle.planning.specs.declared.refusal.Refusal.TheVariants.{NoPlan}
use Rattle.planning.proofs.Plans.{reaches_known}
use Rattle.planning.proofs.Verdicts.{judged_decides}
use Rattle.planning.proofs.Trims.{nothing_gone, trim_solves, trim_shorter, trim_spare, trim_worth}
use Rattle.planning.proofs.Edits.{Fine, Leaves, drop_leaves, swap_leaves, fold_leaves, unfold_leaves}

-- counting is an amount too
abbrev counting : Amounts ℕ
counting = record {
  nought = 0;
  join = λ x y. x + y;
  back = λ x y. x - y;
  assoc = λ x y z. omega arith;
  comm = λ x y. omega arith;
  unit = λ x. omega arith;
  undo = λ x y. omega arith;
}

-- one for x and nought for others
abbrev one_for : ℕ → ℕ → ℕ
one_for x a = cond (eqb x a) 1 0

times_total : (x : ℕ) (r : List ℕ) → times x r ≡ total counting (one_for x) r
times_total x [] = refl
times_total x (a ∷ r) = ap (λ k. cond (eqb x a) 1 0 + k) (times_total x r)

known_without : (t : Task) (plan : List ℕ) (i : ℕ) → Known t plan → Known t (left_out plan i)
known_without t plan i h = All-append (λ a. a < t.actions) (take i plan) (drop (i + 1) plan)
    (All-take (λ a. a < t.actions) i plan h) (All-drop (λ a. a < t.actions) (i + 1) plan h)

module _ {A : Type 0} (am : Amounts A) (price : ℕ → A) (p : Pile) (s : Sound p) where
  abbrev t : Task
  t = meaning p

  -- what holds of the plan held, beside the plan last loaded, the credits since, and whether the last accepted call was a trim
  record Own (credits : A) (trims : Bool) (row plan : List ℕ) : Type 0 where
    fine : Fine t s.lawful plan
    row_known : Known t row
    fewer : (x : ℕ) → times x (flat_map t.base_steps plan) ≤ times x (flat_map t.base_steps row)
    charged : charge am price t row ≡ am.join (charge am price t plan) credits
    least : T trims → Spare t plan

  abbrev Owned : Log A → List ℕ → List ℕ → Type 0
  Owned log = Own (credits_since am log) (trimmed_last log)

  record Inv (log : Log A) (held : Held) : Type 0 where
    loads : LoadsExact am price p log
    trims : TrimsAccepted am price p log
    nothing : last_loaded am log ≡ None → held ≡ None
    something : (row : List ℕ) → last_loaded am log ≡ Some row → (plan : List ℕ) × (held ≡ Some plan) × Owned log row plan

  start : Inv [] None
  start = record {
    loads = tt;
    trims = tt;
    nothing = λ e. refl;
    something = λ row e. absurd cc;
  }

  owned : (log : Log A) (held : Held) (row plan : List ℕ) → Inv log held → last_loaded am log ≡ Some row → held ≡ Some plan → Owned log row plan
  owned log held row plan inv e h = let own = inv.something row e in subst (Owned log row) (cc (own.1, h)) own.2

  -- a refused call
  unmoved : (log : Log A) (c : Call) (f : Fault) (held : Held) → Inv log held
      → last_loaded am ((c, refused f) ∷ log) ≡ last_loaded am log → credits_since am ((c, refused f) ∷ log) ≡ credits_since am log
      → LoadExact am price p c (refused f) → (T (is_trim c) → (row : List ℕ) → last_loaded am log ≡ Some row → T (is_accepted {A = A} (refused f)))
      → Inv ((c, refused f) ∷ log) held
  unmoved log c f held inv x y load trim = record {
    loads = (load, inv.loads);
    trims = (trim, inv.trims);
    nothing = λ e. inv.nothing (sym x ∙ e);
    something = λ row e. rw y (inv.something row (sym x ∙ e));
  }

  loads_row : (log : Log A) (held : Held) (row : List ℕ) → Inv log held → (v : Verdict) → judged t row ≡ v
      → Inv ((load_row row, (said (λ _. done) (loaded t held row v)).0) ∷ log) (said {A = A} (λ _. done) (loaded t held row v)).1
  loads_row log held row inv (Ok u) e =
      let h = (judged_decides t s.lawful row).0 (ap is_ok e) in
      let known = reaches_known t t.initial row h.1 in
      record {
        loads = ((λ l m. (λ x. (s.faithful row m).0 h.1, λ x. tt)), inv.loads);
        trims = ((λ x. absurd x), inv.trims);
        nothing = λ x. absurd cc;
        something = λ r x.
            let same : row ≡ r = cc in (
              row,
              refl,
              subst (λ (r : List ℕ). Owned ((load_row row, done) ∷ log) r row) same (record {
                fine = h;
                row_known = known;
                fewer = λ x. omega arith;
                charged = nothing_gone t s.lawful am price (charge am price t row);
                least = λ x. absurd x;
              }),
            );
      }
  loads_row log held row inv (Err f) e =
      unmoved log (load_row row) f held inv refl refl
      (λ l m. (λ x. absurd x, λ g. let ok = (judged_decides t s.lawful row).1 (l, (s.faithful row m).1 g) in absurd (cc (ap is_ok e))))
      (λ x. absurd x)

  -- an accepted call on the plan held
  moved : (log : Log A) (plan new gone : List ℕ) (c : Call) (a : Answer A) → Inv log (Some plan)
      → last_loaded am ((c, a) ∷ log) ≡ last_loaded am log → credits_since am ((c, a) ∷ log) ≡ am.join (charge am price t gone) (credits_since am log)
      → T (is_accepted a) → LoadExact am price p c a → (T (trimmed_last ((c, a) ∷ log)) → T (is_trim c))
      → (Fine t s.lawful plan → Leaves t s.lawful am price plan new gone) → ((x : ℕ) → Fine t s.lawful plan → Leaves t s.lawful counting (one_for x) plan new gone)
      → (Fine t s.lawful plan → T (is_trim c) → Spare t new) → Inv ((c, a) ∷ log) (Some new)
  moved log plan new gone c a inv x y ok load last worth counts spare = record {
    loads = (load, inv.loads);
    trims = ((λ z row e. ok), inv.trims);
    nothing = λ e. let h = inv.nothing (sym x ∙ e) in absurd cc;
    something = λ row e. (new, refl, next row (owned log (Some plan) row plan inv (sym x ∙ e) refl));
  }
    where
      next : (row : List ℕ) → Owned log row plan → Owned ((c, a) ∷ log) row new
      next row own =
          let out = worth own.fine in
          record {
            fine = out.0;
            row_known = own.row_known;
            fewer = λ k.
                let q = (counts k own.fine).1 in
                let u = times_total k (flat_map t.base_steps plan) in
                let v = times_total k (flat_map t.base_steps new) in
                let d = own.fewer k in
                omega arith;
            charged = own.charged
                ∙ ap (λ z. am.join z (credits_since am log)) out.1
                ∙ am.assoc (charge am price t new) (charge am price t gone) (credits_since am log)
                ∙ ap (am.join (charge am price t new)) (sym y);
            least = λ z. spare own.fine (last z);
          }

  -- a swap, fold or unfold of the plan held
  edits : (log : Log A) (plan : List ℕ) (c : Call) → Inv log (Some plan)
      → ((a : Answer A) → last_loaded am ((c, a) ∷ log) ≡ last_loaded am log)
      → credits_since am ((c, done) ∷ log) ≡ credits_since am log → ((f : Fault) → credits_since am ((c, refused f) ∷ log) ≡ credits_since am log)
      → ((a : Answer A) → LoadExact am price p c a) → (T (is_trim c) → ⊥)
      → (e : Edited) → ((new : List ℕ) → e ≡ Ok new → Leaves t s.lawful am price plan new [])
      → ((x : ℕ) (new : List ℕ) → e ≡ Ok new → Leaves t s.lawful counting (one_for x) plan new [])
      → Inv ((c, (said (λ _. done) (taken_or (Some plan) e)).0) ∷ log) (said {A = A} (λ _. done) (taken_or (Some plan) e)).1
  edits log plan c inv same still kept load other (Ok new) worth counts =
      moved log plan new [] c done inv (same done) (still ∙ sym (am.unit (credits_since am log))) tt (load done) (λ z. z)
      (λ f. worth new refl) (λ x f. counts x new refl) (λ f z. absurd (other z))
  edits log plan c inv same still kept load other (Err f) worth counts =
      unmoved log c f (Some plan) inv (same (refused f)) (kept f) (load (refused f)) (λ z. absurd (other z))

  drops : (log : Log A) (plan : List ℕ) (i : ℕ) → Inv log (Some plan) → (e : Edited) → dropped t plan i ≡ e
      → Inv ((drop_step i, (said credit (taken (charge am price t (action_at plan i ∷ [])) plan e)).0) ∷ log) (said credit (taken (charge am price t (action_at plan i ∷ [])) plan e)).1
  drops log plan i inv (Ok new) k =
      moved log plan new (action_at plan i ∷ []) (drop_step i) (credit (charge am price t (action_at plan i ∷ []))) inv refl refl tt tt (λ z. z)
      (λ f. drop_leaves t s.lawful am price plan new i k) (λ x f. drop_leaves t s.lawful counting (one_for x) plan new i k) (λ f z. absurd z)
  drops log plan i inv (Err f) k = unmoved log (drop_step i) f (Some plan) inv refl refl tt (λ z. absurd z)

  trims_plan : (log : Log A) (plan : List ℕ) → Inv log (Some plan)
      → Inv ((trim_plan, credit (charge am price t (trimmed t plan).gone)) ∷ log) (Some (trimmed t plan).plan)
  trims_plan log plan inv =
      let n = length plan in
      moved log plan (trimmed t plan).plan (trimmed t plan).gone trim_plan (credit (charge am price t (trimmed t plan).gone)) inv refl refl tt tt (λ z. tt)
      (λ f. (shorter f, trim_worth t s.lawful am price n plan)) (λ x f. (shorter f, trim_worth t s.lawful counting (one_for x) n plan))
      (λ f z. trim_spare t s.lawful n plan (omega arith) f.0)
    where
      shorter : Fine t s.lawful plan → Fine t s.lawful (trimmed t plan).plan
      shorter f = (omega (arith, f.0, trim_shorter t s.lawful (length plan) plan), trim_solves t s.lawful (length plan) plan f.1)

  -- with no plan every call but a load is refused
  no_plan : (log : Log A) (c : Call) → Inv log None → last_loaded am ((c, refused (at_place NoPlan 0)) ∷ log) ≡ last_loaded am log
      → credits_since am ((c, refused (at_place NoPlan 0)) ∷ log) ≡ credits_since am log → LoadExact am price p c (refused (at_place NoPlan 0))
      → Inv ((c, refused (at_place NoPlan 0)) ∷ log) None
  no_plan log c inv x y load = unmoved log c (at_place NoPlan 0) None inv x y load
      (λ z row e. let h = inv.something row e in let k = h.1 in absurd cc)

  step_holds : (log : Log A) (held : Held) (c : Call) → Inv log held
      → Inv ((c, (performed am price t held c).0) ∷ log) (performed am price t held c).1
  step_holds log held (load_row row) inv = loads_row log held row inv (judged t row) refl
  step_holds log None (drop_step i) inv = no_plan log (drop_step i) inv refl refl tt
  step_holds log None (swap_steps i) inv = no_plan log (swap_steps i) inv refl refl tt
  step_holds log None (fold_steps i c) inv = no_plan log (fold_steps i c) inv refl refl tt
  step_holds log None (unfold_step i) inv = no_plan log (unfold_step i) inv refl refl tt
  step_holds log None trim_plan inv = no_plan log trim_plan inv refl refl tt
  step_holds log (Some plan) (drop_step i) inv = drops log plan i inv (dropped t plan i) refl
  step_holds log (Some plan) (swap_steps i) inv = edits log plan (swap_steps i) inv (λ a. refl) refl (λ f. refl) (λ a. tt) (λ z. z) (swapped t plan i)
      (λ new e. swap_leaves t s.lawful am price plan new i e) (λ x new e. swap_leaves t s.lawful counting (one_for x) plan new i e)
  step_holds log (Some plan) (fold_steps i c) inv = edits log plan (fold_steps i c) inv (λ a. refl) refl (λ f. refl) (λ a. tt) (λ z. z) (folded t plan i c)
      (λ new e. fold_leaves t s.lawful am price plan new i c e) (λ x new e. fold_leaves t s.lawful counting (one_for x) plan new i c e)
  step_holds log (Some plan) (unfold_step i) inv = edits log plan (unfold_step i) inv (λ a. refl) refl (λ f. refl) (λ a. tt) (λ z. z) (unfolded t plan i)
      (λ new e. unfold_leaves t s.lawful am price plan new i e) (λ x new e. unfold_leaves t s.lawful counting (one_for x) plan new i e)
  step_holds log (Some plan) trim_plan inv = trims_plan log plan inv

  run_holds : (log : Log A) (held : Held) → Run am price t log held → Inv log held
  run_holds [] held r = subst (Inv []) (sym r) start
  run_holds (e ∷ log) held r =
      subst (λ (w : Answer A × Held). Inv ((e.0, w.0) ∷ log) w.1) r.2 (step_holds log r.0 e.0 (run_holds log r.0 r.1))

  pub run_term : (log : Log A) (held : Held) → Run am price t log held → Term am price p log held
  run_term log held r =
      let inv = run_holds log held r in
      record {
        loads_exact = inv.loads;
        unloaded = inv.nothing;
        loaded = λ row e. let h = inv.something row e in (h.0, h.1, kept row h.0 h.2);
        trims_accepted = inv.trims;
        nothing_to_strike = λ z plan e i l g. least inv (last_loaded am log) refl z plan e i l g;
      }
    where
      spelled : (plan : List ℕ) → Fine t s.lawful plan → written p plan ≡ flat_map t.base_steps plan
      spelled plan f = s.spelled plan (reaches_known t t.initial plan f.1)

      kept : (row plan : List ℕ) → Owned log row plan → Kept am price p log row plan
      kept row plan own =
          let x = spelled plan own.fine in
          let y = s.spelled row own.row_known in
          record {
            plan_good = (s.faithful plan (reaches_known t t.initial plan own.fine.1)).0 own.fine.1;
            no_more_often = λ a. let u = ap (times a) x in let v = ap (times a) y in let d = own.fewer a in omega arith;
            balance = ap (total am price) y ∙ own.charged ∙ ap (λ r. am.join (total am price r) (credits_since am log)) (sym x);
          }

      least : Inv log held → (o : Option (List ℕ)) → last_loaded am log ≡ o → T (trimmed_last log) → (plan : List ℕ) → held ≡ Some plan → (i : ℕ) → i < length plan → Good p (left_out plan i) → ⊥
      least inv None e z plan h i l g = let k = inv.nothing e in cc
      least inv (Some row) e z plan h i l g =
          let mine = owned log held row plan inv e h in
          mine.least z i l ((s.faithful (left_out plan i) (known_without t plan i (reaches_known t t.initial plan mine.fine.1))).1 g)

  pub quoted_term : (log : Log A) (held : Held) (quote : A) → Run am price t log held → quote ≡ quoted am price t held → QuotedTerm am price p log held quote
  quoted_term log held quote r q = record {
    term = run_term log held r;
    unloaded_quote = λ e. q ∙ ap (quoted am price t) ((run_holds log held r).nothing e);
    loaded_quote = λ row plan e h.
        let mine = owned log held row plan (run_holds log held r) e h in
        let x = s.spelled plan (reaches_known t t.initial plan mine.fine.1) in
        let y = s.spelled row mine.row_known in
        let z : quote ≡ charge am price t plan = q ∙ ap (quoted am price t) h in
        (z ∙ ap (total am price) (sym x), ap (total am price) y ∙ mine.charged ∙ ap (λ k. am.join k (credits_since am log)) (sym z));
  }
