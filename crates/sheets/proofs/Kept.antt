-- What every sheet keeps, for the proofs of those who get one.
use Rattle.std.proofs.Common.{ℕ, ◌≤◌, length}
use Rattle.sheets.specs.declared.sheet.Sheet.{Sheet}
use Rattle.sheets.specs.Places.{rows_in, parts_in, cells_in, says}
use Rattle.sheets.specs.Sheets.{Keeps, part}
use Rattle.sheets.specs.Tables.{IsSheet}
use Rattle.sheets.proofs.Ruling.{filled, keeps_from}
use Rattle.sheets.proofs.Replaying.{part_short}

pub sheet_keeps : (s : Sheet) → Keeps (says s)
sheet_keeps s = keeps_from (says s) s.kept

pub is_a_sheet : (s : Sheet) → IsSheet (rows_in s) (parts_in s) (cells_in s)
is_a_sheet s = record { filled = filled (length (rows_in s)) 0 (parts_in s) s.filled; kept = sheet_keeps s }

-- working marks that have room for its rows have room for each part
pub part_rows : (s : Sheet) (p : ℕ) → length (part (says s) p) ≤ length (rows_in s)
part_rows s p = part_short (rows_in s) (parts_in s) (cells_in s) p
