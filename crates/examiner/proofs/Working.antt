-- The worked unit.
use Rattle.std.proofs.Common.{[], ◌∷◌, pos, refl, arith}
use Rattle.std.proofs.lemmas.Fmt.{decimal_digit}
use Rattle.sheets.proofs.Exampling.{examples}
use Rattle.examiner.specs.WorkedUnit.{WorkedUnit}

pub worked_unit : WorkedUnit
worked_unit = record {
  limit_has_two = refl;
  parts_of_one = refl;
  seven_falsifies = examples.seven_falsifies;
  six_does_not = examples.six_never (pos 0 ∷ pos 8 ∷ pos 1 ∷ []);
  minus_seven_by_two = (refl, refl);
  five_by_zero = (refl, refl);
  square_in_span = refl;
  square_past_span = refl;
  idle_has_none = refl;
  idle_is_cleared = refl;
  limit_reads = rw (decimal_digit 2 (omega arith), decimal_digit 1 (omega arith), decimal_digit 0 (omega arith)) refl;
}
