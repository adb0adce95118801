-- The line that reports a verdict.
use Rattle.std.specs.Prelude.{◌≡◌, ◌<◌, ◌≤◌, ℕ, List, ◌++◌, length, drop, Ok, Err, Result, codes, decimal}
use Rattle.jcode.specs.declared.refusal.Refusal.TheVariants.{Buffer}
use Rattle.jcode.specs.Units.{JUnit}
use Rattle.sheets.specs.declared.fault.SheetFault.{SheetFault}
use Rattle.sheets.specs.Faults.{refused}
use Rattle.examiner.specs.declared.verdict.Judgement.{Judgement}
use Rattle.examiner.specs.declared.verdict.Judgement.TheVariants.{Failed, Unfinished, Open, Cleared}
use Rattle.examiner.specs.declared.verdict.Verdict.{Verdict}
use Rattle.examiner.specs.Steps.{path_count}

abbrev pub judgement_text : Judgement → List ℕ
judgement_text (Failed k) = codes "failed " ++ decimal k
judgement_text Unfinished = codes "unfinished"
judgement_text Open = codes "open"
judgement_text Cleared = codes "cleared"

-- what stands after the name
abbrev pub tail_of : ℕ → Verdict → List ℕ
tail_of paths v =
    codes " " ++ (decimal paths
    ++ (codes " passed " ++ (decimal v.passed
    ++ (codes " failed " ++ (decimal v.failed
    ++ (codes " open " ++ (decimal v.open
    ++ (codes " verdict " ++ (judgement_text v.judgement ++ codes "\n")))))))))

-- the unit's name, how many paths it has, and the verdict
abbrev pub line_of : JUnit → Verdict → List ℕ
line_of u v = u.name ++ tail_of (path_count u) v

-- a buffer then begins with the line; one that is too short is refused, and holds what it held
abbrev pub Reported : List ℕ → List ℕ → Result ℕ SheetFault → List ℕ → Type 0
Reported line before (Ok n) after = (length line ≤ length before) × (n ≡ length line) × (after ≡ line ++ drop n before)
Reported line before (Err f) after = (length before < length line) × (f ≡ refused Buffer) × (after ≡ before)
