use Rattle.std.proofs.Common.{take}
use Rattle.sheets.specs.Currents.{current_in}
use Rattle.sheets.specs.PathSheets.{over}
use Rattle.sheets.specs.Writings.{page, Extends}
use Rattle.sheets.proofs.writer.push_term.Given as goal

abbrev pub invariant-loop-row : goal.invariant-loop-row
invariant-loop-row l = Extends (page l.initial.records l.initial.count) (over (current_in l.before) (current_in l.after) (take l.row-index l.term)) (page l.records l.count)
