use Rattle.std.proofs.Common.{drop}
use Rattle.checking.specs.CheckedUnits.{said}
use Rattle.sheets.proofs.Adding.{Adds}
use Rattle.sheets.proofs.writer.Writer.new_cells.Given as goal

abbrev pub invariant-loop-variable : goal.invariant-loop-variable
invariant-loop-variable l = Adds (said l.unit) l.listed l.initial.self (drop l.variable-index l.listed) l.self l.after
