-- What may come next in an examination of a unit with a tag, by what came before.
use Rattle.std.specs.Prelude.{◌≡◌, ◌≢◌, ◌⊎◌, ℕ, Bool, true, false, List, [], ◌∷◌, length, Some, None, Ok, Err, Option, Result, nat_le, nat_lt}
use Rattle.flow.specs.Numbers.{paths}
use Rattle.jcode.specs.declared.refusal.Refusal.TheVariants as refusal
use Rattle.jcode.specs.Units.{JUnit}
use Rattle.checking.specs.Breaks.{steps_of}
use Rattle.sheets.specs.declared.fault.SheetFault.{SheetFault}
use Rattle.sheets.specs.declared.outcome.Outcome.TheVariants.{Passed, Failed, Open}
use Rattle.sheets.specs.Faults.{refused}
use Rattle.sheets.specs.Judges.{Sound}
use Rattle.sheets.specs.Settling.{Room, Settled, condition}
use Rattle.examiner.specs.declared.slip.Slip.{Slip}
use Rattle.examiner.specs.declared.verdict.Judgement.{Judgement}
use Rattle.examiner.specs.declared.verdict.Judgement.TheVariants as judgement
use Rattle.examiner.specs.declared.verdict.Verdict.{Verdict}
use Rattle.examiner.specs.Histories.{Event, History, Settlement, took, settled, handed_back, told, accepted, out, how_many, first_failed}

-- how many paths a unit has
abbrev pub path_count : JUnit → ℕ
path_count u = length (paths (steps_of u))

-- refused where no condition is left, and then where a slip is out
abbrev pub taken : Bool → Option Slip → Slip → Result Slip SheetFault
taken true now next = Err (refused refusal.Condition)
taken false (Some l) next = Err (refused refusal.SlipOut)
taken false None next = Ok next

-- 'failed' with the lowest number; without one 'unfinished' if any is unsettled, 'open' if any is open, else 'cleared'
abbrev pub judged : Option ℕ → Bool → Bool → Judgement
judged (Some k) some_unsettled some_open = judgement.Failed k
judged None true some_open = judgement.Unfinished
judged None false true = judgement.Open
judged None false false = judgement.Cleared

abbrev pub verdict_on : JUnit → List Settlement → Verdict
verdict_on u ss = record {
  passed = how_many Passed ss;
  failed = how_many Failed ss;
  «open» = how_many Open ss;
  judgement = judged (first_failed ss) (nat_lt (length ss) (path_count u)) (nat_lt 0 (how_many Open ss));
}

abbrev pub Step : JUnit → ℕ → History → Event → Type 0
Step u tag h (took r) = r ≡ taken (nat_le (path_count u) (length (accepted h))) (out h) (record { tag = tag; number = length (accepted h) })
-- the slip that is out is settled by what a lawful judge thinks of its path's condition
Step u tag h (settled m l before (Ok o) after) = Sound m × (out h ≡ Some l) × Settled (condition u l.number) (m (condition u l.number)) o before after
-- or it comes back: it is not the one out, or else a buffer is short
Step u tag h (settled m l before (Err e) after) =
    (((out h ≢ Some l) × (e ≡ record { slip = l; fault = refused refusal.Slip })) ⊎ ((out h ≡ Some l) × (Room (condition u l.number) before → ⊥) × (e ≡ record { slip = l; fault = refused refusal.Buffer }))) × (after ≡ before)
Step u tag h (handed_back l (Ok _)) = out h ≡ Some l
Step u tag h (handed_back l (Err e)) = (out h ≢ Some l) × (e ≡ record { slip = l; fault = refused refusal.Slip })
Step u tag h (told v) = v ≡ verdict_on u (accepted h)

-- each call of a history came after those before it
abbrev pub Happened : JUnit → ℕ → History → Type 0
Happened u tag [] = Unit {0}
Happened u tag (e ∷ h) = Step u tag h e × Happened u tag h
