use Rattle.std.proofs.Common.{◌≡◌}
use Rattle.judges.specs.Walks.{turning}
use Rattle.judges.proofs.tries.turn.Given as goal

abbrev pub invariant-loop-i : goal.invariant-loop-i
invariant-loop-i l = record {
  same : l.valuation ≡ l.initial.valuation;
  turning : turning l.ranges l.initial.valuation l.i ≡ turning l.ranges l.initial.valuation l.ended;
}
