use Rattle.sheets.specs.Valuations.{cell_in}
use Rattle.judges.proofs.Numbers.{Folded}
use Rattle.judges.proofs.number.number_of.Given as goal

abbrev pub invariant-loop-i : goal.invariant-loop-i
invariant-loop-i l = Folded (cell_in l.valuation) l.rows l.i l.stack l.top
