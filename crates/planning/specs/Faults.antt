-- The refusals' numbers, and faults.
use Rattle.std.specs.Prelude.{ℕ}
use Rattle.planning.specs.declared.fault.Fault.{Fault}
use Rattle.planning.specs.declared.refusal.Refusal.{Refusal}
use Rattle.planning.specs.declared.refusal.Refusal.TheVariants.{
  BadLength,
  BadSize,
  SpareBit,
  BadKindOrName,
  NameTaken,
  MalformedLine,
  UnknownName,
  TooManySteps,
  UnknownAction,
  NotApplicable,
  GoalNotMet,
  BadAtom,
  TableFull,
  NotJoinable,
  OverLimit,
  NoPlan,
  NoStep,
  NotTheParts,
  BufferTooShort,
}

abbrev pub number : Refusal → ℕ
number BadLength = 1
number BadSize = 2
number SpareBit = 3
number BadKindOrName = 4
number NameTaken = 5
number MalformedLine = 6
number UnknownName = 7
number TooManySteps = 8
number UnknownAction = 9
number NotApplicable = 10
number GoalNotMet = 11
number BadAtom = 12
number TableFull = 13
number NotJoinable = 14
number OverLimit = 15
number NoPlan = 16
number NoStep = 17
number NotTheParts = 18
number BufferTooShort = 19

-- a fault that fills its place alone
abbrev pub at_place : Refusal → ℕ → Fault
at_place refusal place = record { refusal = refusal; place = place; atom = 0; missing = 0; layer = 0 }
