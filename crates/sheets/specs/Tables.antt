-- The rules of sheets as a test of tables.
use Rattle.std.specs.Prelude.{ℕ, ◌+◌, Bool, true, false, cond, ◌&&◌, List, [], ◌∷◌, length, Some, None, Option, nat_lt, nat_le, nat_eq}
use Rattle.std.specs.List.{list_all, enumerate_from}
use Rattle.terms.specs.declared.operator.Operator.{Operator}
use Rattle.terms.specs.declared.operator.Operator.TheVariants.{Equal}
use Rattle.terms.specs.declared.row.Row.{Row}
use Rattle.terms.specs.declared.row.Row.TheVariants.{Mention, Operator as Applied}
use Rattle.reckoning.specs.Spanning.{ranged_rows}
use Rattle.checking.specs.Nesting.{writes_term}
use Rattle.sheets.specs.declared.cell.Cell.{Cell}
use Rattle.sheets.specs.declared.part.Part.{Part}
use Rattle.sheets.specs.Sheets.{CellTerm, Condition, Keeps, condition_of, part, cell_bounds, is_below, is_some_of, setting_term, is_bounded, is_true_term, fills_from}

-- the place after a part, if it stands at this place of so many rows
abbrev pub after_part : ℕ → ℕ → Part → Option ℕ
after_part total used p = cond (nat_eq p.first used && nat_le (used + p.rows) total) (Some (used + p.rows)) None

-- from this place on, parts stand back to back and fill the rows
abbrev pub fills : ℕ → Option ℕ → List Part → Bool
fills total None ps = false
fills total (Some used) [] = nat_eq used total
fills total (Some used) (p ∷ ps) = fills total (after_part total used p) ps

abbrev pub is_equal : Operator → Bool
is_equal Equal = true
is_equal _ = false

-- the cell that a part begins with `equal!` of
abbrev pub first_cell : CellTerm → Option ℕ
first_cell (Applied o ∷ Mention i ∷ e) = cond (is_equal o) (Some i) None
first_cell _ = None

-- `equal!` of cell i and a term over lower cells
abbrev pub sets : ℕ → CellTerm → Bool
sets i e = is_some_of i (first_cell e) && list_all (is_below i) (setting_term e)

-- a part, which is not the goal, sets cell i, or none is said to set it
abbrev pub is_set : Condition → ℕ → Option ℕ → Bool
is_set c i None = true
is_set c i (Some p) = nat_lt (p + 1) (length c.parts) && sets i (part c p)

abbrev pub are_set : Condition → Bool
are_set c = list_all (λ e. is_set c e.0 e.1.set_by) (enumerate_from 0 c.cells)

-- one or more parts, each of them one complete truth term that nests at most 33 deep, of which no row has the range mark 'any' at these bounds
abbrev pub is_part : List Cell → CellTerm → Bool
is_part cs e = writes_term 33 e && (is_true_term cs e && ranged_rows (cell_bounds cs) e)

abbrev pub keeps : Condition → Bool
keeps c = nat_lt 0 (length c.parts) && (list_all (is_part c.cells) c.parts && (list_all is_bounded c.cells && are_set c))

-- the parts fill the rows, and what the tables say keeps the rules
pub record IsSheet (rows : List (Row ℕ)) (parts : List Part) (cells : List Cell) : Type 0 where
  pub filled : fills_from (length rows) 0 parts
  pub kept : Keeps (condition_of rows parts cells)
