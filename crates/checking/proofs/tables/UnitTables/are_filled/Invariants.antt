use Rattle.std.proofs.Common.{◌≡◌, length, drop, Some}
use Rattle.checking.specs.Layouts.{fills_from}
use Rattle.checking.proofs.tables.UnitTables.are_filled.Given as goal

abbrev pub invariant-loop-statement : goal.invariant-loop-statement
invariant-loop-statement l = fills_from (length l.self.rows.now) (Some l.used) (drop l.statement-index l.self.statements.now) ≡ fills_from (length l.self.rows.now) (Some 0) l.self.statements.now
