use Rattle.checking.specs.CheckedUnits.{said}
use Rattle.checking.specs.Held.{held}
use Rattle.sheets.specs.Matches.{Sensible}
use Rattle.sheets.proofs.Arranging.{laid_out}
use Rattle.sheets.proofs.Deciding.{written_stands}
use Rattle.sheets.proofs.Keeping.{keeps_rules}
use Rattle.sheets.proofs.Running.{matches}
use Rattle.sheets.proofs.Sensing.{sensible}
use Rattle.sheets.proofs.writing.write.Goals as goal

pub returns : goal.returns
returns c =
    let u = c.args.unit.now in
    let s : Sensible (said u) = sensible u.tables.bytes.now u.tables.name (held u.tables) u.unbroken in
    record { writes = c.whole.ensures; fills = written_stands u c.args.number _ _ _ _ _ _ _ c.whole.ensures; keep = keeps_rules (said u) s; runs = matches (said u) s; laid = laid_out (said u) }
