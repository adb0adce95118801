-- Histories of an examination: what came of each call since it was made, the latest first.
use Rattle.std.specs.Prelude.{ℕ, ◌+◌, List, [], ◌∷◌, Some, None, Ok, Err, Option, Result}
use Rattle.sheets.specs.declared.fault.SheetFault.{SheetFault}
use Rattle.sheets.specs.declared.outcome.Outcome.{Outcome}
use Rattle.sheets.specs.declared.outcome.Outcome.TheVariants.{Passed, Failed, Open}
use Rattle.sheets.specs.Judges.{Opinion}
use Rattle.sheets.specs.Settling.{Held}
use Rattle.sheets.specs.Sheets.{Condition}
use Rattle.examiner.specs.declared.slip.Returned.{Returned}
use Rattle.examiner.specs.declared.slip.Slip.{Slip}
use Rattle.examiner.specs.declared.verdict.Verdict.{Verdict}

-- what a judge thinks of each sheet
abbrev pub Meaning : Type 0
Meaning = Condition → Opinion

-- a call and what came of it; a settlement finds some things on its desk, and leaves others
pub data Event : Type 0 where
  took : Result Slip SheetFault → Event
  settled : Meaning → Slip → Held → Result Outcome Returned → Held → Event
  handed_back : Slip → Result (Unit {0}) Returned → Event
  told : Verdict → Event

abbrev pub History : Type 0
History = List Event

-- a settlement that was accepted
pub record Settlement : Type 0 where
  pub judge : Meaning
  pub number : ℕ
  pub outcome : Outcome

-- one for each that was not refused, the latest first
abbrev pub accepted : History → List Settlement
accepted [] = []
accepted (took r ∷ h) = accepted h
accepted (settled m l before (Ok o) after ∷ h) = record { judge = m; number = l.number; outcome = o } ∷ accepted h
accepted (settled m l before (Err e) after ∷ h) = accepted h
accepted (handed_back l r ∷ h) = accepted h
accepted (told v ∷ h) = accepted h

-- the slip that is out
abbrev pub out : History → Option Slip
out [] = None
out (took (Ok l) ∷ h) = Some l
out (took (Err f) ∷ h) = out h
out (settled m l before (Ok o) after ∷ h) = None
out (settled m l before (Err e) after ∷ h) = out h
out (handed_back l (Ok u) ∷ h) = None
out (handed_back l (Err e) ∷ h) = out h
out (told v ∷ h) = out h

abbrev pub one_if : Outcome → Outcome → ℕ
one_if Passed Passed = 1
one_if Failed Failed = 1
one_if Open Open = 1
one_if _ _ = 0

-- how many were settled as an outcome
abbrev pub how_many : Outcome → List Settlement → ℕ
how_many o [] = 0
how_many o (s ∷ before) = how_many o before + one_if o s.outcome

-- the number of the first that failed: it stays, once there is one
abbrev pub or_now : Option ℕ → Outcome → ℕ → Option ℕ
or_now (Some k) o n = Some k
or_now None Passed n = None
or_now None Failed n = Some n
or_now None Open n = None

abbrev pub first_failed : List Settlement → Option ℕ
first_failed [] = None
first_failed (s ∷ before) = or_now (first_failed before) s.outcome s.number
