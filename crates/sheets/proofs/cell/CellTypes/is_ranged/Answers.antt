use Rattle.std.proofs.Common.{◌&&◌, ◌∙◌, ap}
use Rattle.reckoning.specs.Spanning.{ranged_rows}
use Rattle.sheets.specs.Sheets.{cell_bounds}
use Rattle.sheets.proofs.Rooms.{enough}
use Rattle.sheets.proofs.cell.CellTypes.is_ranged.Goals as goal

pub returns : goal.returns
returns c = c.are_ranged.ensures.result ∙ ap (λ b. b && ranged_rows (cell_bounds c.args.self.now.cells.now) c.args.rows.now) (enough c.args.rows.now c.requires)
