use Rattle.jcode.proofs.Laying.{more_rows, expression_read, expression_refused}
use Rattle.jcode.proofs.cursor.Cursor.expression.Goals as goal

pub overflow_sub-result : goal.overflow_sub-result
overflow_sub-result c = more_rows c.in_ok-term.ensures

pub returns-in_err-term : goal.returns-in_err-term
returns-in_err-term c = expression_refused c.from_residual.result c.from_residual.ensures.1 c.in_err-term.ensures

pub returns : goal.returns
returns c = expression_read c.in_ok-term.ensures
