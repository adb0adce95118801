-- The tables that a view of a unit's tables holds.
use Rattle.jcode.specs.ReadUnits.{Tables, tables}
use Rattle.checking.specs.declared.tables.UnitTables.{UnitTables}

abbrev pub held : UnitTables → Tables
held u = tables u.variables.now u.statements.now u.rows.now
