-- Reading accepts exactly the units that the notation allows.
use Rattle.std.specs.Prelude.{◌≡◌, ℕ, ◌<◌, ◌≤◌, false, List, length, take, Ok, Err, Result}
use Rattle.jcode.specs.declared.reader.Outline.{Outline}
use Rattle.jcode.specs.declared.refusal.ReadFault.{ReadFault}
use Rattle.jcode.specs.declared.refusal.Refusal.TheVariants.{Table}
use Rattle.jcode.specs.Bytes.{separator, passes}
use Rattle.jcode.specs.Language.{Spelt}
use Rattle.jcode.specs.Spelling.{Spells, Sizes, Within, limits}
use Rattle.jcode.specs.ReadUnits.{Tables, tables}
use Rattle.jcode.specs.Outgrown.{IsOutgrown}
use Rattle.jcode.specs.Units.{JUnit, unit_of}
use Rattle.jcode.specs.Sentences.{rows_all}

abbrev pub sizes_of : Tables → Sizes
sizes_of t = record { variables = length t.variables; statements = length t.statements; rows = length t.rows }

-- the fronts of the tables, as long as an outline tells
abbrev pub fronts : Outline → Tables → Tables
fronts o t = tables (take o.variables t.variables) (take o.statements t.statements) (take o.rows t.rows)

-- the unit that is told, as the fronts of the tables hold it
abbrev pub unit_told : List ℕ → Outline → Tables → JUnit
unit_told bytes o t = unit_of bytes o.name (fronts o t)

-- the bytes from a place up to another spell the unit, no separator follows, and it keeps the limits
pub record IsUnit (bytes : List ℕ) (start next : ℕ) (u : JUnit) : Type 0 where
  pub spelt : Spelt (Spells u) bytes start next
  pub whole : passes separator bytes next ≡ false
  pub keeps : Within limits u

-- what is told of a unit is so, and it fits the tables
pub record TellsUnit (bytes : List ℕ) (start : ℕ) (most : Sizes) (o : Outline) (u : JUnit) : Type 0 where
  pub is : IsUnit bytes start o.next u
  pub fits : Within most u
  -- reading goes forward
  pub forward : start < o.next
  pub within : o.next ≤ length bytes
  pub variables : o.variables ≡ length u.variables
  pub statements : o.statements ≡ length u.statements
  pub rows : o.rows ≡ length (rows_all u.statements)

pub record AcceptsExactly (bytes : List ℕ) (start : ℕ) (before : Tables) (result : Result Outline ReadFault) (after : Tables) : Type 0 where
  -- what is told is a unit that stands there
  pub only : (o : Outline) → result ≡ Ok o → TellsUnit bytes start (sizes_of before) o (unit_told bytes o after)
  -- every unit that stands there and fits the tables is told
  pub all : (u : JUnit) (next : ℕ) → IsUnit bytes start next u → Within (sizes_of before) u → (o : Outline) × (result ≡ Ok o) × (o.next ≡ next) × (unit_told bytes o after ≡ u)
  -- no bytes spell two units
  pub one : (u v : JUnit) (w : List ℕ) → Spells u w → Spells v w → u ≡ v
  -- where it is refused no unit stands, but one that does not fit the tables, and that is refused for them alone
  pub refused : (f : ReadFault) → result ≡ Err f → (u : JUnit) (next : ℕ) → IsUnit bytes start next u → (f.refusal ≡ Table) × (Within (sizes_of before) u → ⊥)
  -- the tables are blamed only where what stands before the place has outgrown them
  pub outgrown : (place : ℕ) → result ≡ Err (record { refusal = Table; place = place }) → IsOutgrown (sizes_of before) bytes start place
