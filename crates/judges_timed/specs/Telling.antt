-- A sheet that is told by numbers, and the number that answers it.
use Rattle.std.specs.Prelude.{◌≡◌, ℕ, ◌+◌, ◌-◌, ◌/◌, ◌%◌, ◌^◌, min, Bool, true, false, cond, ◌&&◌, List, [], ◌∷◌, length, ℤ, pos, Some, None, ◌==◌, int_le, nat_le, slice_index_or, unsigned_abs}
use Rattle.terms.specs.declared.kind.Kind.TheVariants.{Number}
use Rattle.terms.specs.declared.operator.Operator.{Operator}
use Rattle.terms.specs.declared.operator.Operator.TheVariants.{Addi, Subi, Mul, Odd, Gei, Lei, Gti, Or, Not, Implies, Equal}
use Rattle.terms.specs.declared.row.Row.{Row}
use Rattle.terms.specs.declared.row.Row.TheVariants.{Constant, Mention, Operator as Applied}
use Rattle.terms.specs.Numbers.{same_number}
use Rattle.sheets.specs.declared.cell.Cell.{Cell}
use Rattle.sheets.specs.declared.part.Part.{Part}
use Rattle.sheets.specs.Sheets.{condition_of}
use Rattle.sheets.specs.Tables.{IsSheet}
use Rattle.sheets.specs.Judges.{Opinion, passed, failed, unsure}
use Rattle.judges.specs.Tries.{trier}

-- the operators that are timed, each told by its place among them
abbrev pub timed : List Operator
timed = Addi ∷ Subi ∷ Mul ∷ Odd ∷ Gei ∷ Lei ∷ Gti ∷ Or ∷ Not ∷ Implies ∷ Equal ∷ []

-- a row by its kind and a number: 0 for a constant, 1 for a mention, else an operator
abbrev pub row_told : ℤ → ℤ → Row ℕ
row_told kind n = cond (same_number kind (pos 0)) (Constant n) (cond (same_number kind (pos 1)) (Mention (unsigned_abs n)) (Applied (slice_index_or timed (unsigned_abs n) Equal)))

-- a cell by its low, its high and the part that sets it, a negative number where none does
abbrev pub cell_told : ℤ → ℤ → ℤ → Cell
cell_told low high set_by = record { kind = Number; low = low; high = high; set_by = cond (int_le (pos 0) set_by) (Some (unsigned_abs set_by)) None }

abbrev pub rows_told : List ℤ → List (Row ℕ)
rows_told (kind ∷ n ∷ more) = row_told kind n ∷ rows_told more
rows_told _ = []

abbrev pub cells_told : List ℤ → List Cell
cells_told (low ∷ high ∷ set_by ∷ more) = cell_told low high set_by ∷ cells_told more
cells_told _ = []

-- parts by how many rows each has, back to back from a place on, as far as places go
abbrev pub parts_told : ℕ → List ℤ → List Part
parts_told first [] = []
parts_told first (n ∷ more) = record { first = first; rows = unsigned_abs n } ∷ parts_told (min (first + unsigned_abs n) (2 ^ 64 - 1)) more

-- so many numbers tell records of this width, and no more than there is room for
abbrev pub are_records : ℕ → ℕ → ℕ → Bool
are_records width room n = (n % width == 0) && nat_le (n / width) room

abbrev pub are_told : List ℤ → List ℤ → List ℤ → Bool
are_told rows parts cells = are_records 2 64 (length rows) && (are_records 1 16 (length parts) && are_records 3 16 (length cells))

abbrev pub number_of : Opinion → ℕ
number_of passed = 0
number_of (failed v) = 1
number_of unsure = 2

-- what is answered: as the trier does, or 3 where the tables break a rule of sheets, or 4 where the numbers tell no tables
pub record Answered (rows parts cells : List ℤ) (answer : ℕ) : Type 0 where
  pub untold : are_told rows parts cells ≡ false → answer ≡ 4
  pub refused : are_told rows parts cells ≡ true → (IsSheet (rows_told rows) (parts_told 0 parts) (cells_told cells) → ⊥) → answer ≡ 3
  pub asked : are_told rows parts cells ≡ true → IsSheet (rows_told rows) (parts_told 0 parts) (cells_told cells) → answer ≡ number_of (trier (condition_of (rows_told rows) (parts_told 0 parts) (cells_told cells)))
