-- Checked units: what a place for one says, and how a check fills it.
use Rattle.std.specs.Prelude.{◌≡◌, ℕ, List, [], ◌∷◌, Ok, Err, Result, codes}
use Rattle.terms.specs.declared.operator.Operator.TheVariants.{False}
use Rattle.terms.specs.declared.row.Row.TheVariants.{Operator as Applied}
use Rattle.jcode.specs.declared.span.Span.{Span}
use Rattle.jcode.specs.ReadUnits.{Tables}
use Rattle.jcode.specs.Sentences.{Hang, Break, Require}
use Rattle.jcode.specs.Units.{JUnit, unit_of}
use Rattle.checking.specs.declared.fault.CheckFault.{CheckFault}
use Rattle.checking.specs.declared.unit.CheckedUnit.{CheckedUnit}
use Rattle.checking.specs.Breaks.{FirstBroken, Unbroken}
use Rattle.checking.specs.Held.{held}

-- the unit that a place says
abbrev pub said : CheckedUnit → JUnit
said u = unit_of u.tables.bytes.now u.tables.name (held u.tables)

-- the unit of a place that no check has filled
abbrev pub house : JUnit
house = record {
  name = codes "House";
  variables = [];
  statements = Break [] ∷ Require (Applied False ∷ []) [] ∷ Hang ∷ [];
}

-- the bytes, the name and the tables that a place holds, which say its unit
pub record Holds (bytes : List ℕ) (name : Span) (t : Tables) (u : CheckedUnit) : Type 0 where
  pub its_bytes : u.tables.bytes.now ≡ bytes
  pub its_name : u.tables.name ≡ name
  pub its_tables : held u.tables ≡ t

-- a check of tables fills the place if they break no rule; else it tells the first that they break, and the place stays as it was
abbrev pub Fills : List ℕ → Span → Tables → CheckedUnit → Result (Unit {0}) CheckFault → CheckedUnit → Type 0
Fills bytes name t before (Ok _) after = Unbroken bytes name t × (said after ≡ unit_of bytes name t) × Holds bytes name t after
Fills bytes name t before (Err f) after = FirstBroken bytes name t f × (after ≡ before)
