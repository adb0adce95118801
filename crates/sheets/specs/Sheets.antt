-- Sheets: the condition of one path, over numbered cells.
use Rattle.std.specs.Prelude.{◌≡◌, ℕ, ◌+◌, ◌-◌, ◌<◌, Bool, true, false, ◌&&◌, List, [], ◌∷◌, length, map, take, drop, ℤ, pos, Some, None, Option, int_le, nat_eq, nat_lt, position, slice_index_or}
use Rattle.std.specs.List.{list_all, slice_get}
use Rattle.std.specs.Option.{option_map}
use Rattle.terms.specs.declared.kind.Kind.{Kind}
use Rattle.terms.specs.declared.kind.Kind.TheVariants.{Number, Truth}
use Rattle.terms.specs.declared.operator.Operator.TheVariants.{Equal}
use Rattle.terms.specs.declared.row.Row.{Row}
use Rattle.terms.specs.declared.row.Row.TheVariants.{Constant, Mention, Operator as Applied}
use Rattle.terms.specs.Numbers.{in_span}
use Rattle.reckoning.specs.declared.mark.Mark.{Mark}
use Rattle.reckoning.specs.Kinds.{is_kind, kind_of}
use Rattle.reckoning.specs.Ranges.{between}
use Rattle.reckoning.specs.Spanning.{ranged_rows}
use Rattle.checking.specs.Nesting.{writes_term}
use Rattle.sheets.specs.declared.cell.Cell.{Cell}
use Rattle.sheets.specs.declared.part.Part.{Part}

-- a term over cells, each mentioned by its place
abbrev pub CellTerm : Type 0
CellTerm = List (Row ℕ)

-- what a sheet says: its parts, of which the last is the goal, and its cells
pub record Condition : Type 0 where
  pub parts : List CellTerm
  pub cells : List Cell

-- the rows of a part
abbrev pub part_in : List (Row ℕ) → Part → CellTerm
part_in rows p = take p.rows (drop p.first rows)

-- what rows, parts and cells in tables say
abbrev pub condition_of : List (Row ℕ) → List Part → List Cell → Condition
condition_of rows parts cells = record { parts = map (part_in rows) parts; cells = cells }

abbrev pub part : Condition → ℕ → CellTerm
part c p = slice_index_or c.parts p []

-- the last part
abbrev pub goal : Condition → CellTerm
goal c = part c (length c.parts - 1)

-- of a cell its kind, its bounds, and the part that sets it
abbrev pub cell_kind : List Cell → ℕ → Option Kind
cell_kind cs i = option_map (λ c. c.kind) (slice_get cs i)

abbrev pub cell_bounds : List Cell → ℕ → Option Mark
cell_bounds cs i = option_map (λ c. between c.low c.high) (slice_get cs i)

abbrev pub set_by : List Cell → ℕ → Option ℕ
set_by cs i = slice_index_or (map (λ c. c.set_by) cs) i None

-- that it is there, and is this number
abbrev pub is_some_of : ℕ → Option ℕ → Bool
is_some_of p None = false
is_some_of p (Some q) = nat_eq q p

abbrev pub is_set_by : ℕ → Cell → Bool
is_set_by p c = is_some_of p c.set_by

-- the cell that part p sets
abbrev pub cell_set : Condition → ℕ → Option ℕ
cell_set c p = position (is_set_by p) c.cells

-- where numbers of a kind lie: truths from 0 to 1, numbers in the span
abbrev pub is_bound : Kind → ℤ → Bool
is_bound Number n = in_span n
is_bound Truth n = int_le (pos 0) n && int_le n (pos 1)

-- bounds lie there, and low is not above high
abbrev pub is_bounded : Cell → Bool
is_bounded c = (is_bound c.kind c.low && is_bound c.kind c.high) && int_le c.low c.high

-- a row mentions only cells below this one
abbrev pub is_below : ℕ → Row ℕ → Bool
is_below i (Constant z) = true
is_below i (Mention j) = nat_lt j i
is_below i (Applied o) = true

-- the term that a part sets its cell to
abbrev pub setting_term : CellTerm → CellTerm
setting_term e = drop 2 e

-- part p is not the goal, and is `equal!` of cell i and a term over lower cells
pub record Sets (c : Condition) (p i : ℕ) : Type 0 where
  pub earlier : p + 1 < length c.parts
  pub shape : part c p ≡ Applied Equal ∷ Mention i ∷ setting_term (part c p)
  pub lower : list_all (is_below i) (setting_term (part c p)) ≡ true

abbrev pub is_true_term : List Cell → CellTerm → Bool
is_true_term cs e = is_kind (kind_of (cell_kind cs) e) Truth

-- the rules that every sheet keeps
pub record Keeps (c : Condition) : Type 0 where
  -- one or more parts, each of them one complete truth term that nests at most 33 deep
  pub some : 0 < length c.parts
  pub complete : list_all (writes_term 33) c.parts ≡ true
  pub truths : list_all (is_true_term c.cells) c.parts ≡ true
  pub bounded : list_all is_bounded c.cells ≡ true
  -- a cell that a part is said to set is set by it
  pub setting : (p i : ℕ) → set_by c.cells i ≡ Some p → Sets c p i
  -- no row has the range mark 'any' at these bounds
  pub ranged : list_all (ranged_rows (cell_bounds c.cells)) c.parts ≡ true

-- parts stand back to back from a place of so many rows on, and fill them
abbrev pub fills_from : ℕ → ℕ → List Part → Type 0
fills_from total used [] = used ≡ total
fills_from total used (p ∷ ps) = (p.first ≡ used) × fills_from total (used + p.rows) ps
