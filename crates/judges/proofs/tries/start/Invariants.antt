use Rattle.std.proofs.Common.{◌≡◌, map, take}
use Rattle.judges.proofs.tries.start.Given as goal

abbrev pub invariant-loop-i : goal.invariant-loop-i
invariant-loop-i l = take l.i l.valuation ≡ map (λ c. c.low) (take l.i l.cells)
