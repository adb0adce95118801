use Rattle.checking.proofs.Outlining.{was_read}
use Rattle.jexam.proofs.run.Goals as goal

pub slice_bounds-statements-end : goal.slice_bounds-statements-end
slice_bounds-statements-end c = (was_read _ _ _ _ c.in_ok-outline.ensures.result c.in_ok-outline.ensures.left).few_statements

pub slice_bounds-variables-end : goal.slice_bounds-variables-end
slice_bounds-variables-end c = (was_read _ _ _ _ c.in_ok-outline.ensures.result c.in_ok-outline.ensures.left).few_variables
