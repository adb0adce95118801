use Rattle.std.proofs.Common.{rules}
use Rattle.jcode.specs.ReadUnits.{tables}
use Rattle.jcode.proofs.Accepting.{accepts, refuses_reading}
use Rattle.jcode.proofs.reader.read.Goals as goal

pub returns-then-is_err-clause-layer : goal.returns-then-is_err-clause-layer
returns-then-is_err-clause-layer c = refuses_reading c.args.bytes.now c.args.start (tables c.args.variables.now c.args.statements.now c.args.rows.now) c.attempt-outline.result (search rules)

pub returns-then-is_err-clause-notation : goal.returns-then-is_err-clause-notation
returns-then-is_err-clause-notation c = accepts c.args.bytes.now c.args.start (tables c.args.variables.now c.args.statements.now c.args.rows.now) c.attempt-outline.result _ (search rules) (search rules)

pub returns-else-is_err-clause-layer : goal.returns-else-is_err-clause-layer
returns-else-is_err-clause-layer c = refuses_reading c.args.bytes.now c.args.start (tables c.args.variables.now c.args.statements.now c.args.rows.now) c.attempt-outline.result (search rules)

pub returns-else-is_err-clause-notation : goal.returns-else-is_err-clause-notation
returns-else-is_err-clause-notation c = accepts c.args.bytes.now c.args.start (tables c.args.variables.now c.args.statements.now c.args.rows.now) c.attempt-outline.result _ (search rules) (search rules)
