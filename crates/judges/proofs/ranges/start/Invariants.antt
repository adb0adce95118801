use Rattle.std.proofs.Common.{◌≡◌, map, take, false}
use Rattle.judges.specs.Tries.{range_of}
use Rattle.judges.proofs.ranges.start.Given as goal

abbrev pub invariant-loop-i : goal.invariant-loop-i
invariant-loop-i l = take l.i l.ranges ≡ map (range_of false) (take l.i l.cells)
