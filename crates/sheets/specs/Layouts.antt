-- How the sheet of a path is laid out: what each statement gives, and the numbers of its parts and cells.
use Rattle.std.specs.Prelude.{◌≡◌, ℕ, ◌+◌, ◌*◌, ◌<◌, List, [], ◌∷◌, ◌++◌, length, Some, None, Option, slice_index, slice_index_or}
use Rattle.terms.specs.Terms.{map_mentions}
use Rattle.jcode.specs.declared.mention.Mention.{Mention}
use Rattle.jcode.specs.declared.variable.Domain.TheVariants.{Integer, Boolean}
use Rattle.jcode.specs.ReadTerms.{UnitRow}
use Rattle.jcode.specs.Sentences.{Sentence, Hang, Break, Require, Proclaim, New, Assign, Split, When, Branch, Join}
use Rattle.jcode.specs.Units.{JUnit}
use Rattle.checking.specs.Types.{domains}
use Rattle.sheets.specs.declared.cell.Cell.{Cell}
use Rattle.sheets.specs.PathSheets.{cell_of, equated, sheet_of}
use Rattle.sheets.specs.Runs.{sentence, listed}
use Rattle.sheets.specs.Sheets.{CellTerm, Condition, part}

-- how many parts a statement gives
abbrev pub part_count : {T : Type 0} → Sentence T → ℕ
part_count Hang = 0
part_count (Break x) = 0
part_count (Require e x) = 1
part_count (Proclaim e) = 1
part_count (New vs e x) = 1
part_count (Assign v e f) = 2
part_count (Split l) = 0
part_count (When e l) = 1
part_count (Branch x l) = 0
part_count (Join l) = 0

-- how many parts and cells the statements at some places give
abbrev pub parts_given : JUnit → List ℕ → ℕ
parts_given u [] = 0
parts_given u (i ∷ q) = part_count (sentence u i) + parts_given u q

abbrev pub cells_given : JUnit → List ℕ → ℕ
cells_given u [] = 0
cells_given u (i ∷ q) = 2 * length (listed (sentence u i)) + cells_given u q

-- a term of a unit, with cells in the place of what it mentions
abbrev pub IsOf : List UnitRow → CellTerm → Type 0
IsOf e t = (cell : Mention → ℕ) × (t ≡ map_mentions cell e)

-- a part is `equal!` of a cell and such a term
abbrev pub SetsTo : List UnitRow → ℕ → CellTerm → Type 0
SetsTo e b t = (term : CellTerm) × IsOf e term × (t ≡ equated b term)

-- cells b and b + 1 are for the value and the shadow of a variable, and set by these parts
abbrev pub TwoCells : JUnit → List Cell → ℕ → ℕ → Option ℕ → Option ℕ → Type 0
TwoCells u cells b v value_by shadow_by =
    (d : Cell) → (slice_index_or cells b d ≡ cell_of value_by (slice_index_or (domains u) v Integer)) × (slice_index_or cells (b + 1) d ≡ cell_of shadow_by Boolean)

-- what a statement gives, where a is the number of its first part and b that of its first cell
abbrev pub Gives : {T : Type 0} → JUnit → Condition → ℕ → ℕ → Sentence T → Type 0
Gives u c a b Hang = Unit {0}
Gives u c a b (Break x) = Unit {0}
Gives u c a b (Require e x) = IsOf e (part c a)
Gives u c a b (Proclaim e) = IsOf e (part c a)
Gives u c a b (New vs e x) = IsOf e (part c a) × ((j : ℕ) → j < length vs → TwoCells u c.cells (b + 2 * j) (slice_index vs j) None None)
Gives u c a b (Assign v e f) = SetsTo f b (part c a) × SetsTo e (b + 1) (part c (a + 1)) × TwoCells u c.cells b v (Some a) (Some (a + 1))
Gives u c a b (Split l) = Unit {0}
Gives u c a b (When e l) = IsOf e (part c a)
Gives u c a b (Branch x l) = Unit {0}
Gives u c a b (Join l) = Unit {0}

-- cells 2v and 2v + 1 are for variable v at the start, and then each statement gives its parts and cells, in turn, and nothing else is there
pub record LaidOut (u : JUnit) (p : List ℕ) : Type 0 where
  pub parts : length (sheet_of u p).parts ≡ parts_given u p
  pub cells : length (sheet_of u p).cells ≡ 2 * length u.variables + cells_given u p
  pub at_start : (v : ℕ) → v < length u.variables → TwoCells u (sheet_of u p).cells (2 * v) v None None
  pub each : (q : List ℕ) (i : ℕ) (later : List ℕ) → p ≡ q ++ i ∷ later → Gives u (sheet_of u p) (parts_given u q) (2 * length u.variables + cells_given u q) (sentence u i)

-- the sheets of a unit are
abbrev pub SheetsLaidOut : JUnit → Type 0
SheetsLaidOut u = (p : List ℕ) → LaidOut u p
