use Rattle.std.proofs.Common.{◌≡◌, ℕ, ◌<◌, min, length, get_or}
use Rattle.flow.specs.Flows.{steps_in}
use Rattle.flow.specs.Paths.{required}
use Rattle.flow.specs.Numbers.{ways}
use Rattle.flow.specs.Counts.{limit}
use Rattle.flow.proofs.flow.Flow.counts.Given as goal

abbrev pub invariant-loop-sweep : goal.invariant-loop-sweep
invariant-loop-sweep l = (k : ℕ) → k < length (steps_in l.self) → get_or l.counts k 0 ≡ min (length (ways (required (steps_in l.self)) l._sweep (steps_in l.self) k)) limit
