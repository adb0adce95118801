use Rattle.std.proofs.Common.{length}
use Rattle.flow.specs.Flows.{steps_in}
use Rattle.flow.proofs.Descending.{Left}
use Rattle.flow.proofs.paths.Paths.pick.Given as goal

abbrev pub invariant-loop-j : goal.invariant-loop-j
invariant-loop-j l = Left (steps_in l.self.flow) l.fn.from l.number (length l.yielded) l.left
