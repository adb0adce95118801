-- A sheet that stands at the front of buffers.
use Rattle.std.specs.Prelude.{◌≡◌, ℕ, ◌≤◌, List, length, take, Ok, Result}
use Rattle.terms.specs.declared.row.Row.{Row}
use Rattle.sheets.specs.declared.cell.Cell.{Cell}
use Rattle.sheets.specs.declared.fault.SheetFault.{SheetFault}
use Rattle.sheets.specs.declared.part.Part.{Part}
use Rattle.sheets.specs.declared.sheet.Sheet.{Sheet}
use Rattle.sheets.specs.declared.writing.Lengths.{Lengths}
use Rattle.sheets.specs.Places.{says, Filled}
use Rattle.sheets.specs.Sheets.{Condition}
use Rattle.sheets.specs.Tables.{IsSheet}

-- buffers that begin with the tables of a sheet, of these lengths
pub record Stands (n : Lengths) (rows : List (Row ℕ)) (parts : List Part) (cells : List Cell) : Type 0 where
  pub in_rows : n.rows ≤ length rows
  pub in_parts : n.parts ≤ length parts
  pub in_cells : n.cells ≤ length cells
  pub sheet : IsSheet (take n.rows rows) (take n.parts parts) (take n.cells cells)

-- these tables fill the place of any sheet, and it says this condition then
abbrev pub FillsWith : Condition → List (Row ℕ) → List Part → List Cell → Type 0
FillsWith c rows parts cells = (r : Result (Unit {0}) SheetFault) (before after : Sheet) → Filled rows parts cells r before after → (r ≡ Ok tt) × (says after ≡ c)

-- buffers that begin with the tables of a sheet, which fill a sheet's place with this condition
pub record StandsFor (c : Condition) (n : Lengths) (rows : List (Row ℕ)) (parts : List Part) (cells : List Cell) : Type 0 where
  pub stands : Stands n rows parts cells
  pub fills : FillsWith c (take n.rows rows) (take n.parts parts) (take n.cells cells)
