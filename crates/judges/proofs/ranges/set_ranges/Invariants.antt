use Rattle.std.proofs.Common.{take}
use Rattle.sheets.specs.Places.{cells_in, rows_in}
use Rattle.judges.proofs.Opening.{Ranged}
use Rattle.judges.proofs.ranges.set_ranges.Given as goal

abbrev pub invariant-loop-row : goal.invariant-loop-row
invariant-loop-row l = Ranged (cells_in l.sheet) (take l.row-index (rows_in l.sheet)) l.ranges
