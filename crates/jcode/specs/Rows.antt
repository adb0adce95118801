-- The rows of a unit's terms.
use Rattle.std.specs.Prelude.{ℕ}
use Rattle.terms.specs.declared.row.Row.{Row}
use Rattle.terms.specs.declared.row.Row.TheVariants.{Constant, Mention as Mentioned, Operator as Applied}
use Rattle.terms.specs.Operators.{arity}
use Rattle.jcode.specs.declared.mention.Mention.{Mention}

abbrev pub UnitRow : Type 0
UnitRow = Row Mention

-- how many operands follow a row
abbrev pub operands_after : UnitRow → ℕ
operands_after (Constant z) = 0
operands_after (Mentioned m) = 0
operands_after (Applied o) = arity o
