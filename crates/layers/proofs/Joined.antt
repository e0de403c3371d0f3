-- The refusals of a row of a macro layer.
use Rattle.std.proofs.Common.{◌≡◌, ℕ, ◌<◌, List, Some, None, Err, Option, sym, ap, ◌∙◌, subst, ap₂, arith}
use Rattle.std.proofs.lemmas.Bool.Decides.{nat_tests}
use Rattle.atoms.specs.Has.{has}
use Rattle.planning.specs.Sets.{AtomSet, ◌∩◌, ◌∖◌, Under, lowest}
use Rattle.planning.specs.Tasks.{Task, Lawful}
use Rattle.planning.specs.Macros.{clash}
use Rattle.planning.specs.Rows.{unless_clash, macro_room, macro_row}
use Rattle.planning.specs.declared.join.Join.{Join}
use Rattle.planning.specs.declared.refusal.Refusal.TheVariants.{NotJoinable}
use Rattle.tasks.specs.Answers.{Acts}
use Rattle.tasks.specs.declared.action.Action.{Action}
use Rattle.planning.proofs.Counts.{lowest_under}
use Rattle.planning.proofs.Rows.{clash_under}

-- what stands in the way of joining two actions, by their answers
pub clash_is : (t : Task) (a b : ℕ) (first second : Action) (r : AtomSet) → Acts t a first → Acts t b second
    → r ≡ has second.needs ∩ (has first.deletes ∖ has first.adds) → r ≡ clash t a b
clash_is t a b first second r f s e =
    e ∙ ap₂ (λ n d. n ∩ (d ∖ has first.adds)) s.needs_are f.deletes_are ∙ ap (λ x. t.needs b ∩ (t.deletes a ∖ x)) f.adds_are

module _ (t : Task) (law : Lawful t) (rows : List Join) (w : Join) (atoms : AtomSet) (f : w.first < t.actions) (s : w.second < t.actions) (k : w.kind < 65535)
    (is : atoms ≡ clash t w.first w.second) where
  row_known : (o : Option ℕ) → o ≡ lowest atoms 320 → unless_clash t o (macro_room t rows w) ≡ macro_row t rows w
  row_known o e =
      let under : Under t.atoms atoms = subst (Under t.atoms) (sym is) (clash_under t law rows w) in
      let same : o ≡ lowest (clash t w.first w.second) t.atoms = e ∙ lowest_under atoms t.atoms 320 under law.few_atoms ∙ ap (λ x. lowest x t.atoms) is in
      grind (arith, nat_tests)

  pub row_clash : (p h : ℕ) → Some p ≡ lowest atoms 320 → h ≡ t.first_height p
      → Err (record { refusal = NotJoinable; place = 0; atom = p; missing = 0; layer = h }) ≡ macro_row t rows w
  row_clash p h e g = ap (λ x. Err (record { refusal = NotJoinable; place = 0; atom = p; missing = 0; layer = x })) g ∙ row_known (Some p) e

  pub row_free : None ≡ lowest atoms 320 → macro_room t rows w ≡ macro_row t rows w
  row_free e = row_known None e
