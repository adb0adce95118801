use Rattle.std.proofs.Common.{◌-◌, min, length}
use Rattle.jcode.specs.Scopes.{scope_of}
use Rattle.jcode.proofs.Statements.{SoFar}
use Rattle.jcode.proofs.cursor.Cursor.statements.Given as goal

abbrev pub invariant-loop-self : goal.invariant-loop-self
invariant-loop-self l = SoFar (scope_of l.scope) l.initial.self l.initial.statements l.initial.rows l.self l.statements l.rows

abbrev pub decreases-loop-self : goal.decreases-loop-self
decreases-loop-self l = min (length l.initial.statements.records.now) 200 - l.statements.count
