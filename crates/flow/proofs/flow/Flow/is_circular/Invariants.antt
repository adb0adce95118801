use Rattle.std.proofs.Common.{◌≡◌, length}
use Rattle.flow.specs.declared.flow.TheConstants.{MOST_STEPS}
use Rattle.flow.specs.Flows.{steps_in}
use Rattle.flow.proofs.Marking.{Marks, undone}
use Rattle.flow.proofs.flow.Flow.is_circular.Given as goal

abbrev pub invariant-loop-j : goal.invariant-loop-j
invariant-loop-j l = (length l.marks ≡ MOST_STEPS) × Marks (steps_in l.self) l.i l.marks

abbrev pub decreases-loop-j : goal.decreases-loop-j
decreases-loop-j l = undone l.marks
