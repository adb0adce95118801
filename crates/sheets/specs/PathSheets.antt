-- The sheet of a path, statement by statement.
use Rattle.std.specs.Prelude.{ℕ, ◌+◌, ◌*◌, List, [], ◌∷◌, ◌++◌, map, length, Some, None, Option, slice_index_or}
use Rattle.std.specs.List.{flat_map}
use Rattle.terms.specs.declared.operator.Operator.TheVariants.{Equal}
use Rattle.terms.specs.declared.row.Row.{Row}
use Rattle.terms.specs.declared.row.Row.TheVariants.{Mention, Operator as Applied}
use Rattle.terms.specs.Terms.{map_mentions}
use Rattle.jcode.specs.declared.variable.Domain.{Domain}
use Rattle.jcode.specs.declared.variable.Domain.TheVariants.{Integer, Boolean}
use Rattle.jcode.specs.ReadTerms.{UnitRow}
use Rattle.jcode.specs.Sentences.{Sentence, Hang, Break, Require, Proclaim, New, Assign, Split, When, Branch, Join}
use Rattle.jcode.specs.Units.{JUnit}
use Rattle.checking.specs.Types.{domains, domain_kind, domain_bounds}
use Rattle.sheets.specs.declared.cell.Cell.{Cell}
use Rattle.sheets.specs.declared.part.Part.{Part}
use Rattle.sheets.specs.Runs.{sentence, with_shadows, types_at, stored, read, listed}
use Rattle.sheets.specs.Sheets.{CellTerm, Condition}

-- how far the writing of a sheet has come: how many cells and parts there are, and the current cells, laid out as a store is
pub record Progress : Type 0 where
  pub cells : ℕ
  pub parts : ℕ
  pub current : List ℕ

-- a cell for a value or shadow of a type, and the part that sets it
abbrev pub cell_of : Option ℕ → Domain → Cell
cell_of by d = record { kind = domain_kind d; low = (domain_bounds d).low; high = (domain_bounds d).high; set_by = by }

-- two cell numbers, from n on, for each element of a list
abbrev pub cells_from : {X : Type 0} → ℕ → List X → List ℕ
cells_from n [] = []
cells_from n (x ∷ xs) = n ∷ (n + 1) ∷ cells_from (n + 2) xs

-- the current cells after a statement, whose own cells are numbered on
abbrev pub moved : {T : Type 0} → Progress → Sentence T → List ℕ
moved w st = stored (listed st) (cells_from w.cells (listed st)) w.current

-- a term with the current cells in the place of mentions, and one with a NEW's own cells in the place of `new!` too
abbrev pub over : List ℕ → List ℕ → List UnitRow → CellTerm
over before after e = map_mentions (read 0 before after) e

-- `equal!` of a cell and a term
abbrev pub equated : ℕ → CellTerm → CellTerm
equated c e = Applied Equal ∷ Mention c ∷ e

abbrev pub parts_of : {T : Type 0} → Progress → Sentence T → List CellTerm
parts_of w Hang = []
parts_of w (Break t) = []
parts_of w (Require e t) = over w.current w.current e ∷ []
parts_of w (Proclaim e) = over w.current w.current e ∷ []
parts_of w (New vs e t) = over w.current (moved w (New vs e t)) e ∷ []
parts_of w (Assign v e f) = equated w.cells (over w.current w.current f) ∷ equated (w.cells + 1) (over w.current w.current e) ∷ []
parts_of w (Split l) = []
parts_of w (When e l) = over w.current w.current e ∷ []
parts_of w (Branch t l) = []
parts_of w (Join l) = []

-- the cells that a statement adds; the two parts of an ASSIGN set its two
abbrev pub cells_of : {T : Type 0} → JUnit → Progress → Sentence T → List Cell
cells_of u w Hang = []
cells_of u w (Break t) = []
cells_of u w (Require e t) = []
cells_of u w (Proclaim e) = []
cells_of u w (New vs e t) = map (cell_of None) (types_at u vs)
cells_of u w (Assign v e f) = cell_of (Some w.parts) (slice_index_or (domains u) v Integer) ∷ cell_of (Some (w.parts + 1)) Boolean ∷ []
cells_of u w (Split l) = []
cells_of u w (When e l) = []
cells_of u w (Branch t l) = []
cells_of u w (Join l) = []

-- past a statement
abbrev pub onward : {T : Type 0} → Progress → Sentence T → Progress
onward w st = record { cells = w.cells + 2 * length (listed st); parts = w.parts + length (parts_of w st); current = moved w st }

abbrev pub parts_along : JUnit → Progress → List ℕ → List CellTerm
parts_along u w [] = []
parts_along u w (i ∷ p) = parts_of w (sentence u i) ++ parts_along u (onward w (sentence u i)) p

abbrev pub cells_along : JUnit → Progress → List ℕ → List Cell
cells_along u w [] = []
cells_along u w (i ∷ p) = cells_of u w (sentence u i) ++ cells_along u (onward w (sentence u i)) p

-- at the start, cells 2i and 2i + 1 are the value and the shadow of variable i
abbrev pub started : JUnit → Progress
started u = record { cells = 2 * length u.variables; parts = 0; current = cells_from 0 u.variables }

-- the condition of a path
abbrev pub sheet_of : JUnit → List ℕ → Condition
sheet_of u p = record { parts = parts_along u (started u) p; cells = map (cell_of None) (with_shadows (domains u)) ++ cells_along u (started u) p }

-- parts in tables: their rows back to back, and where each stands, from a place on
abbrev pub rows_of : List CellTerm → List (Row ℕ)
rows_of es = flat_map (λ e. e) es

abbrev pub laid_from : ℕ → List CellTerm → List Part
laid_from first [] = []
laid_from first (e ∷ es) = record { first = first; rows = length e } ∷ laid_from (first + length e) es
