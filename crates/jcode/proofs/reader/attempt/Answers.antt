use Rattle.std.proofs.Common.{sym, ◌∙◌}
use Rattle.jcode.specs.ReadUnits.{scope_in}
use Rattle.jcode.proofs.Units.{unit_refused, unit_read}
use Rattle.jcode.proofs.reader.attempt.Goals as goal

pub returns-in_err-statements-clause-value : goal.returns-in_err-statements-clause-value
returns-in_err-statements-clause-value c = unit_refused c.args.variables.now c.declarations.new.variables c.args.statements.now c.statements.new.statements c.args.rows.now c.statements.new.rows c.in_ok-name.name _ _ _ _ c.in_ok-name.ensures c.in_ok-declarations.ensures _ (λ k. scope_in (sym (c.in_ok-declarations.ensures.same ∙ c.in_ok-name.ensures.same) k) (c.filled.ensures k)) c.from_residual-in_err-statements.result _ c.from_residual-in_err-statements.ensures.1 c.in_err-statements.ensures

pub returns-clause-value : goal.returns-clause-value
returns-clause-value c = unit_read c.args.variables.now c.declarations.new.variables c.args.statements.now c.statements.new.statements c.args.rows.now c.statements.new.rows c.in_ok-name.name _ _ _ _ c.in_ok-name.ensures c.in_ok-declarations.ensures _ (λ k. scope_in (sym (c.in_ok-declarations.ensures.same ∙ c.in_ok-name.ensures.same) k) (c.filled.ensures k)) c.in_ok-statements.ensures
