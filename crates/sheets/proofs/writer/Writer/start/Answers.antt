use Rattle.sheets.proofs.Starting.{all_known, started_with}
use Rattle.sheets.proofs.writer.Writer.start.Goals as goal

pub new_cells-requires-clause-known : goal.new_cells-requires-clause-known
new_cells-requires-clause-known c = all_known c.args.unit.now c.count-variables.result c.count-variables.ensures.count c.count-variables.ensures.few c.places.result c.places.ensures _ c.start.ensures.count

pub returns-clause-starts : goal.returns-clause-starts
returns-clause-starts c =
    started_with c.args.unit.now c.count-variables.result c.count-variables.ensures.count c.count-variables.ensures.few c.places.result c.places.ensures
    (record { rows = c.args.rows; parts = c.args.parts; cells = c.args.cells; written = c.default.result; current = c.start.result }) c.new_cells.new.self c.default.ensures.0 c.default.ensures.1.0 c.default.ensures.1.1
    c.start.ensures.cells c.start.ensures.count c.new_cells.ensures.writes
