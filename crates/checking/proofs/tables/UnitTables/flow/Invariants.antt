use Rattle.std.proofs.Common.{◌≡◌, map, take}
use Rattle.flow.specs.Flows.{steps_in}
use Rattle.checking.specs.Steps.{record_step}
use Rattle.checking.proofs.tables.UnitTables.flow.Given as goal

abbrev pub invariant-loop-statement : goal.invariant-loop-statement
invariant-loop-statement l = steps_in l.flow ≡ map record_step (take l.statement-index l.self.statements.now)
