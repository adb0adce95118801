-- The worked unit: what each definition on the way to a verdict makes of it.
use Rattle.std.specs.Prelude.{◌≡◌, [], ◌∷◌, codes, pos, negsuc}
use Rattle.terms.specs.declared.operator.Operator.TheVariants.{Mul}
use Rattle.terms.specs.Numbers.{quotient, remainder}
use Rattle.jcode.specs.Sentences.{Hang, Break}
use Rattle.jcode.specs.Units.{JUnit}
use Rattle.reckoning.specs.Points.{any_mark}
use Rattle.reckoning.specs.Ranges.{ranges, between}
use Rattle.sheets.specs.PathExamples.{limit, pair}
use Rattle.sheets.specs.PathSheets.{laid_from}
use Rattle.sheets.specs.Settling.{condition}
use Rattle.sheets.specs.Valuations.{Falsifies}
use Rattle.examiner.specs.declared.verdict.Judgement.TheVariants.{Failed, Cleared}
use Rattle.examiner.specs.Reports.{line_of}
use Rattle.examiner.specs.Steps.{path_count, verdict_on}

-- it has no path, so there is nothing to settle
abbrev pub idle : JUnit
idle = record { name = codes "Idle"; variables = []; statements = Break [] ∷ Hang ∷ [] }

pub record WorkedUnit : Type 0 where
  pub limit_has_two : path_count limit ≡ 2
  -- where the parts of sheet 1 stand: the row that each begins with, and how many it has
  pub parts_of_one : laid_from 0 (condition limit 1).parts ≡ pair 0 3 ∷ pair 3 3 ∷ pair 6 5 ∷ pair 11 3 ∷ pair 14 3 ∷ []
  pub seven_falsifies : Falsifies (condition limit 1) (pos 7 ∷ pos 0 ∷ pos 8 ∷ pos 1 ∷ [])
  pub six_does_not : Falsifies (condition limit 1) (pos 6 ∷ pos 0 ∷ pos 8 ∷ pos 1 ∷ []) → ⊥
  -- -7 by 2 gives -3 and leaves -1; 5 by 0 gives 0 and leaves 5
  pub minus_seven_by_two : (quotient (negsuc 6) (pos 2) ≡ negsuc 2) × (remainder (negsuc 6) (pos 2) ≡ negsuc 0)
  pub five_by_zero : (quotient (pos 5) (pos 0) ≡ pos 0) × (remainder (pos 5) (pos 0) ≡ pos 5)
  -- the square of a range, and one that leaves the span
  pub square_in_span : ranges.applied Mul (between (pos 0) (pos 44721)) (between (pos 0) (pos 44721)) any_mark ≡ between (pos 0) (pos 1999967841)
  pub square_past_span : ranges.applied Mul (between (pos 0) (pos 44722)) (between (pos 0) (pos 44722)) any_mark ≡ any_mark
  pub idle_has_none : path_count idle ≡ 0
  pub idle_is_cleared : (verdict_on idle []).judgement ≡ Cleared
  -- the line of a verdict
  pub limit_reads : line_of limit (record { passed = 1; failed = 1; «open» = 0; judgement = Failed 1 }) ≡ codes "Limit 2 passed 1 failed 1 open 0 verdict failed 1\n"
