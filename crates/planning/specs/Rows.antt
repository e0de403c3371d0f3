-- Which rows a layer accepts, and with what it refuses the others.
use Rattle.std.specs.Prelude.{ℕ, ◌+◌, ◌-◌, ◌<◌, ◌≤◌, Bool, cond, not, ◌||◌, List, [], ◌∷◌, ◌++◌, length, Some, None, Ok, Err, Option, Result, ◌==◌, nat_le, nat_lt, slice_index}
use Rattle.std.specs.List.{AllByRecursion}
use Rattle.planning.specs.Sets.{lowest}
use Rattle.planning.specs.Tasks.{Task}
use Rattle.planning.specs.Faults.{at_place}
use Rattle.planning.specs.Macros.{Joinable, clash}
use Rattle.planning.specs.declared.fault.Fault.{Fault}
use Rattle.planning.specs.declared.join.Join.{Join}
use Rattle.planning.specs.declared.refusal.Refusal.TheVariants.{BadAtom, TableFull, OverLimit, UnknownAction, BadKindOrName, NotJoinable}

-- the rows of a rule layer over t: up to 32 atoms of t, rising, whose marks find room
abbrev pub Rising : List ℕ → Type 0
Rising listed = (i j : ℕ) → i < j → j < length listed → slice_index listed i < slice_index listed j

pub record RuleRows (t : Task) (listed : List ℕ) : Type 0 where
  pub known : AllByRecursion (λ p. p < t.atoms) listed
  pub rising : Rising listed
  pub few : length listed ≤ 32
  pub room : t.atoms + length listed ≤ 320

-- p is above the last of the list
abbrev pub above : List ℕ → ℕ → Bool
above listed p = length listed == 0 || nat_lt (slice_index listed (length listed - 1)) p

-- the rows with p behind them, or why p is refused
abbrev pub rule_row : Task → List ℕ → ℕ → Result (List ℕ) Fault
rule_row t listed p =
    cond (nat_le t.atoms p || not (above listed p)) (Err (at_place BadAtom 0))
    (cond (nat_le 32 (length listed)) (Err (at_place TableFull 0))
    (cond (nat_le 320 (t.atoms + length listed)) (Err (at_place OverLimit 0)) (Ok (listed ++ p ∷ []))))

-- the rows of a macro layer over t: up to 16, each of two known actions that can be joined, with a kind, and 8 base steps at most
pub record RowFits (t : Task) (w : Join) : Type 0 where
  pub first_known : w.first < t.actions
  pub second_known : w.second < t.actions
  pub joins : Joinable t w.first w.second
  pub kind_fits : w.kind ≤ 65534
  pub short : length (t.base_steps w.first) + length (t.base_steps w.second) ≤ 8

pub record MacroRows (t : Task) (rows : List Join) : Type 0 where
  pub each : AllByRecursion (RowFits t) rows
  pub few : length rows ≤ 16
  pub room : t.actions + length rows ≤ 288

-- the fault of two actions that cannot be joined, of which the lowest atom in the way is given, or what comes of them
abbrev pub unless_clash : {X : Type 0} → Task → Option ℕ → Result X Fault → Result X Fault
unless_clash t None r = r
unless_clash t (Some p) r = Err (record { refusal = NotJoinable; place = 0; atom = p; missing = 0; layer = t.first_height p })

-- the rows with w behind them, where there is room
abbrev pub macro_room : Task → List Join → Join → Result (List Join) Fault
macro_room t rows w =
    cond (nat_le 16 (length rows)) (Err (at_place TableFull 0))
    (cond (nat_le 288 (t.actions + length rows) || nat_lt 8 (length (t.base_steps w.first) + length (t.base_steps w.second))) (Err (at_place OverLimit 0))
    (Ok (rows ++ w ∷ [])))

-- the rows with w behind them, or why w is refused
abbrev pub macro_row : Task → List Join → Join → Result (List Join) Fault
macro_row t rows w =
    cond (nat_le t.actions w.first) (Err (at_place UnknownAction 1))
    (cond (nat_le t.actions w.second) (Err (at_place UnknownAction 2))
    (cond (nat_le 65535 w.kind) (Err (at_place BadKindOrName 0))
    (unless_clash t (lowest (clash t w.first w.second) t.atoms) (macro_room t rows w))))
