-- What reading leaves, and how it is checked.
use Rattle.std.specs.Prelude.{◌≡◌, ◌↔◌, ℕ, List, Ok, Err, Result}
use Rattle.jcode.specs.declared.reader.Outline.{Outline}
use Rattle.jcode.specs.declared.span.Span.{Span}
use Rattle.jcode.specs.Notation.{sizes_of, fronts, IsUnit}
use Rattle.jcode.specs.ReadUnits.{Tables, read_unit, answered, left_by}
use Rattle.jcode.specs.Spelling.{Within}
use Rattle.jcode.specs.Units.{JUnit, unit_of}
use Rattle.checking.specs.declared.fault.CheckFault.{CheckFault}
use Rattle.checking.specs.declared.unit.CheckedUnit.{CheckedUnit}
use Rattle.checking.specs.Breaks.{BreaksRule, NoneOf, FirstOf, Unbroken}
use Rattle.checking.specs.CheckedUnits.{said}
use Rattle.checking.specs.Readable.{Readable}

-- reading from a place of the bytes on, into tables that held this before, tells the outline and leaves these tables at the front
pub record Leaves (bytes : List ℕ) (start : ℕ) (before : Tables) (o : Outline) (t : Tables) : Type 0 where
  pub told : answered (read_unit before bytes start) ≡ Ok o
  pub left : fronts o (left_by before (read_unit before bytes start)) ≡ t

-- what reading leaves keeps the rules of reading
abbrev pub LeavesReadable : Type 0
LeavesReadable = (bytes : List ℕ) (start : ℕ) (before : Tables) (o : Outline) (t : Tables) → Leaves bytes start before o t → Readable bytes o.name t

-- a reading succeeds, and what it leaves breaks no rule, exactly if a unit stands there, fits the tables and breaks none of its own
abbrev pub LeavesSound : Type 0
LeavesSound =
    (bytes : List ℕ) (start next : ℕ) (before : Tables) (u : JUnit)
    → ((o : Outline) × (t : Tables) × Leaves bytes start before o t × (o.next ≡ next) × (unit_of bytes o.name t ≡ u) × Unbroken bytes o.name t)
    ↔ (IsUnit bytes start next u × Within (sizes_of before) u × NoneOf (BreaksRule u))

-- a check of a unit: it breaks none of its rules, and the place says it, or the fault tells the first that it breaks
abbrev pub ChecksUnit : JUnit → Result (Unit {0}) CheckFault → CheckedUnit → Type 0
ChecksUnit u (Ok _) after = NoneOf (BreaksRule u) × (said after ≡ u)
ChecksUnit u (Err f) after = FirstOf (BreaksRule u) f

-- a check of what a reading left is one of the unit that stands there
abbrev pub ChecksRead : List ℕ → Span → Tables → Result (Unit {0}) CheckFault → CheckedUnit → Type 0
ChecksRead bytes name t result after =
    (start : ℕ) (before : Tables) (o : Outline) (u : JUnit) → Leaves bytes start before o t → o.name ≡ name → IsUnit bytes start o.next u → ChecksUnit u result after
