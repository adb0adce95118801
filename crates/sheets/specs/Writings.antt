-- What a writer writes, statement by statement.
use Rattle.std.specs.Prelude.{◌≡◌, ℕ, ◌+◌, ◌*◌, ◌<◌, List, [], map, length, Some, None, Option}
use Rattle.terms.specs.declared.row.Row.{Row}
use Rattle.jcode.specs.Tables.{put}
use Rattle.jcode.specs.Units.{JUnit}
use Rattle.checking.specs.Types.{domains}
use Rattle.sheets.specs.declared.cell.Cell.{Cell}
use Rattle.sheets.specs.declared.part.Part.{Part}
use Rattle.sheets.specs.declared.writer.Writer.{Writer}
use Rattle.sheets.specs.Currents.{current_in}
use Rattle.sheets.specs.PathSheets.{Progress, cell_of, equated, rows_of, laid_from, started}
use Rattle.sheets.specs.Runs.{with_shadows}
use Rattle.sheets.specs.Sheets.{CellTerm}

-- a buffer that is written from its front, and how many records were written; what finds no room is counted alone
pub record Page (X : Type 0) : Type 0 where
  pub records : List X
  pub count : ℕ

abbrev pub page : {X : Type 0} → List X → ℕ → Page X
page xs n = record { records = xs; count = n }

abbrev pub rows_page : Writer → Page (Row ℕ)
rows_page w = page w.rows.now w.written.rows

abbrev pub parts_page : Writer → Page Part
parts_page w = page w.parts.now w.written.parts

abbrev pub cells_page : Writer → Page Cell
cells_page w = page w.cells.now w.written.cells

-- these records are written behind what was written
pub record Extends {X : Type 0} (before : Page X) (xs : List X) (after : Page X) : Type 0 where
  pub records : after.records ≡ put before.records before.count xs
  pub count : after.count ≡ before.count + length xs

-- the writer holds the same buffers
pub record Lent (before after : Writer) : Type 0 where
  pub rows : after.rows.ghost_name ≡ before.rows.ghost_name
  pub parts : after.parts.ghost_name ≡ before.parts.ghost_name
  pub cells : after.cells.ghost_name ≡ before.cells.ghost_name

-- these parts and these cells are written, and the current cells become these
pub record Writes (before : Writer) (es : List CellTerm) (cs : List Cell) (now : List ℕ) (after : Writer) : Type 0 where
  pub rows : Extends (rows_page before) (rows_of es) (rows_page after)
  pub parts : Extends (parts_page before) (laid_from before.written.rows es) (parts_page after)
  pub cells : Extends (cells_page before) cs (cells_page after)
  pub lent : Lent before after
  pub current : current_in after.current ≡ now
  pub size : after.current.count ≡ before.current.count

-- how far a writer has come
abbrev pub progress : Writer → Progress
progress w = record { cells = w.written.cells; parts = w.written.parts; current = current_in w.current }

-- so many more can be counted
abbrev pub Counts : {X : Type 0} → Page X → ℕ → Type 0
Counts p n = p.count + n < 18446744073709551616

pub record CountsAll (w : Writer) (es : List CellTerm) (cs : List Cell) : Type 0 where
  pub rows : Counts (rows_page w) (length (rows_of es))
  pub parts : Counts (parts_page w) (length es)
  pub cells : Counts (cells_page w) (length cs)

-- a part that sets a cell, or one that sets none
abbrev pub headed : Option ℕ → CellTerm → CellTerm
headed None e = e
headed (Some c) e = equated c e

-- these parts and these cells are written, whatever the current cells become
pub record Fills (before : Writer) (es : List CellTerm) (cs : List Cell) (after : Writer) : Type 0 where
  pub rows : Extends (rows_page before) (rows_of es) (rows_page after)
  pub parts : Extends (parts_page before) (laid_from before.written.rows es) (parts_page after)
  pub cells : Extends (cells_page before) cs (cells_page after)
  pub lent : Lent before after

-- a writer at the start of a unit's sheets, in these buffers
pub record Starts (u : JUnit) (rows : List (Row ℕ)) (parts : List Part) (cells : List Cell) (w : Writer) : Type 0 where
  pub rows_kept : Extends (page rows 0) [] (rows_page w)
  pub parts_kept : Extends (page parts 0) [] (parts_page w)
  pub cells_begun : Extends (page cells 0) (map (cell_of None) (with_shadows (domains u))) (cells_page w)
  pub at_start : progress w ≡ started u
  pub size : w.current.count ≡ 2 * length u.variables
