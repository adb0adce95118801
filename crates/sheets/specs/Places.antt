-- The place of a sheet: what it says, and what a call that fills it does.
use Rattle.std.specs.Prelude.{◌≡◌, ℕ, ◌+◌, [], ◌∷◌, List, length, Ok, Err, Result}
use Rattle.terms.specs.declared.operator.Operator.TheVariants.{False}
use Rattle.terms.specs.declared.row.Row.{Row}
use Rattle.terms.specs.declared.row.Row.TheVariants.{Operator as Applied}
use Rattle.jcode.specs.declared.refusal.Refusal.TheVariants.{Tables}
use Rattle.sheets.specs.declared.cell.Cell.{Cell}
use Rattle.sheets.specs.declared.part.Part.{Part}
use Rattle.sheets.specs.declared.fault.SheetFault.{SheetFault}
use Rattle.sheets.specs.declared.sheet.Sheet.{Sheet}
use Rattle.sheets.specs.Faults.{refused}
use Rattle.sheets.specs.Sheets.{Condition, condition_of}
use Rattle.sheets.specs.Tables.{IsSheet}

abbrev pub rows_in : Sheet → List (Row ℕ)
rows_in s = s.tables.rows.now

abbrev pub parts_in : Sheet → List Part
parts_in s = s.tables.parts.now

abbrev pub cells_in : Sheet → List Cell
cells_in s = s.tables.cells.now

abbrev pub says : Sheet → Condition
says s = condition_of (rows_in s) (parts_in s) (cells_in s)

-- how many working marks those who work with a sheet are lent: one for each cell and each row
abbrev pub marks_for : Sheet → ℕ
marks_for s = length (cells_in s) + length (rows_in s)

-- of a place that nothing has filled
abbrev pub false_alone : Condition
false_alone = record { parts = (Applied False ∷ []) ∷ []; cells = [] }

-- tables fill the place if they keep the rules; else they are refused, and it stays as it was
abbrev pub Filled : List (Row ℕ) → List Part → List Cell → Result (Unit {0}) SheetFault → Sheet → Sheet → Type 0
Filled rows parts cells (Ok u) before after =
    IsSheet rows parts cells × (rows_in after ≡ rows) × (parts_in after ≡ parts) × (cells_in after ≡ cells)
Filled rows parts cells (Err e) before after = (IsSheet rows parts cells → ⊥) × (e ≡ refused Tables) × (after ≡ before)
