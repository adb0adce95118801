-- The sheet of a path, written into buffers.
use Rattle.std.specs.Prelude.{◌≡◌, ℕ, ◌<◌, ◌≤◌, ◌⊎◌, List, length, Some, None, Ok, Err, Option, Result}
use Rattle.terms.specs.declared.row.Row.{Row}
use Rattle.flow.specs.Numbers.{paths}
use Rattle.jcode.specs.declared.refusal.Refusal.TheVariants.{Condition as NoCondition, Buffer}
use Rattle.jcode.specs.ReadUnits.{over}
use Rattle.jcode.specs.Tables.{put}
use Rattle.jcode.specs.Units.{JUnit}
use Rattle.checking.specs.Breaks.{steps_of}
use Rattle.sheets.specs.declared.cell.Cell.{Cell}
use Rattle.sheets.specs.declared.fault.SheetFault.{SheetFault}
use Rattle.sheets.specs.declared.part.Part.{Part}
use Rattle.sheets.specs.declared.writing.Lengths.{Lengths}
use Rattle.sheets.specs.Faults.{refused}
use Rattle.sheets.specs.PathSheets.{rows_of, laid_from}
use Rattle.sheets.specs.Settling.{Written, condition}
use Rattle.sheets.specs.Sheets.{Condition}

abbrev pub lengths_of : Condition → Lengths
lengths_of c = record { rows = length (rows_of c.parts); parts = length c.parts; cells = length c.cells }

-- buffers that hold what they held
abbrev pub Same : List (Row ℕ) → List Part → List Cell → List (Row ℕ) → List Part → List Cell → Type 0
Same rows parts cells rows_after parts_after cells_after = (rows_after ≡ rows) × (parts_after ≡ parts) × (cells_after ≡ cells)

-- a path's sheet in buffers, of which what finds no room is left out
abbrev pub Drafts : JUnit → ℕ → List (Row ℕ) → List Part → List Cell → Option Lengths → List (Row ℕ) → List Part → List Cell → Type 0
Drafts u k rows parts cells None rows_after parts_after cells_after = (length (paths (steps_of u)) ≤ k) × Same rows parts cells rows_after parts_after cells_after
Drafts u k rows parts cells (Some n) rows_after parts_after cells_after =
    (k < length (paths (steps_of u))) × (n ≡ lengths_of (condition u k)) × (rows_after ≡ put rows 0 (rows_of (condition u k).parts)) × (parts_after ≡ put parts 0 (laid_from 0 (condition u k).parts)) × (cells_after ≡ put cells 0 (condition u k).cells)

-- how long the sheet of a path is; refused where there is no such path
abbrev pub Measures : JUnit → ℕ → Result Lengths SheetFault → Type 0
Measures u k (Ok n) = (k < length (paths (steps_of u))) × (n ≡ lengths_of (condition u k))
Measures u k (Err f) = (length (paths (steps_of u)) ≤ k) × (f ≡ refused NoCondition)

-- the sheet of a path at the front of buffers; refused where there is no such path, and then where a buffer is short, and they hold what they held
abbrev pub WritesSheet : JUnit → ℕ → List (Row ℕ) → List Part → List Cell → Result Lengths SheetFault → List (Row ℕ) → List Part → List Cell → Type 0
WritesSheet u k rows parts cells (Ok n) rows_after parts_after cells_after =
    (k < length (paths (steps_of u))) × Written (condition u k) (length rows) (length parts) (length cells) × (n ≡ lengths_of (condition u k))
    × (rows_after ≡ over (rows_of (condition u k).parts) rows) × (parts_after ≡ over (laid_from 0 (condition u k).parts) parts) × (cells_after ≡ over (condition u k).cells cells)
WritesSheet u k rows parts cells (Err f) rows_after parts_after cells_after =
    (((length (paths (steps_of u)) ≤ k) × (f ≡ refused NoCondition)) ⊎ ((k < length (paths (steps_of u))) × (Written (condition u k) (length rows) (length parts) (length cells) → ⊥) × (f ≡ refused Buffer)))
    × Same rows parts cells rows_after parts_after cells_after
