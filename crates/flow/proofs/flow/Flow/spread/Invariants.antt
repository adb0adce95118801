use Rattle.std.proofs.Common.{◌≡◌, length}
use Rattle.flow.specs.declared.flow.TheConstants.{MOST_STEPS}
use Rattle.flow.specs.Flows.{steps_in}
use Rattle.flow.proofs.Marking.{Spreading}
use Rattle.flow.proofs.flow.Flow.spread.Given as goal

abbrev pub invariant-loop-j : goal.invariant-loop-j
invariant-loop-j l = (length l.marks ≡ MOST_STEPS) × Spreading (steps_in l.self) l.i l.initial.marks l.marks l.j-iterator.start l.j-iterator.end
