use Rattle.std.proofs.Common.{rules}
use Rattle.sheets.proofs.Rooms.{enough}
use Rattle.sheets.proofs.cell.CellTypes.is_truth.Goals as goal

pub returns : goal.returns
returns c = let room = enough c.args.rows.now c.requires in search rules
