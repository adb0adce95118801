-- Valuations: a number for each cell of a sheet, and which of them falsify it.
use Rattle.std.specs.Prelude.{◌≡◌, ℕ, Bool, true, false, ◌&&◌, List, [], ◌∷◌, ℤ, pos, int_le, slice_index_or}
use Rattle.terms.specs.Terms.{value}
use Rattle.sheets.specs.declared.cell.Cell.{Cell}
use Rattle.sheets.specs.Sheets.{CellTerm, Condition}

-- the number of a cell in a valuation
abbrev pub cell_in : List ℤ → ℕ → ℤ
cell_in v i = slice_index_or v i (pos 0)

abbrev pub allows : Cell → ℤ → Bool
allows c x = int_le c.low x && int_le x c.high

-- as many numbers as cells, each within its cell's bounds
abbrev pub is_within : List Cell → List ℤ → Bool
is_within [] [] = true
is_within [] (x ∷ xs) = false
is_within (c ∷ cs) [] = false
is_within (c ∷ cs) (x ∷ xs) = allows c x && is_within cs xs

abbrev pub Within : List Cell → List ℤ → Type 0
Within cs v = is_within cs v ≡ true

-- every part but the last is true, and the last, the goal, has this number
abbrev pub GoalIs : ℤ → List ℤ → List CellTerm → Type 0
GoalIs n v [] = ⊥
GoalIs n v (goal ∷ []) = value (cell_in v) goal ≡ n
GoalIs n v (e ∷ f ∷ es) = (value (cell_in v) e ≡ pos 1) × GoalIs n v (f ∷ es)

-- and is false
abbrev pub GoalAloneFalse : List ℤ → List CellTerm → Type 0
GoalAloneFalse v es = GoalIs (pos 0) v es

abbrev pub Falsifies : Condition → List ℤ → Type 0
Falsifies c v = Within c.cells v × GoalAloneFalse v c.parts
