use Rattle.std.proofs.Common.{◌≡◌, ℕ, ◌<◌, length, get_or}
use Rattle.flow.specs.declared.flow.TheConstants.{MOST_STEPS}
use Rattle.flow.specs.Flows.{steps_in}
use Rattle.flow.specs.Counts.{clipped}
use Rattle.flow.proofs.flow.Flow.sweep.Given as goal

abbrev pub invariant-loop-i : goal.invariant-loop-i
invariant-loop-i l = (length l.new ≡ MOST_STEPS) × ((k : ℕ) → k < l.i → get_or l.new k 0 ≡ clipped (steps_in l.self) l.old k)
