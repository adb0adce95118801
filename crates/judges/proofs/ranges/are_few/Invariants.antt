use Rattle.std.proofs.Common.{◌≡◌, ◌*◌, ◌<◌, ◌≤◌, drop}
use Rattle.judges.specs.Tries.{ways}
use Rattle.judges.proofs.ranges.are_few.Given as goal

abbrev pub invariant-loop-range : goal.invariant-loop-range
invariant-loop-range l = record {
  some : 0 < l.total;
  few : l.total ≤ 65536;
  counted : l.total * ways (drop l.range-index l.ranges) ≡ ways l.ranges;
}
