use Rattle.std.proofs.Common.{◌≡◌, take, drop, replicate, pos}
use Rattle.sheet_trials.proofs.judges.write_sevens.Given as goal

abbrev pub invariant-loop-place : goal.invariant-loop-place
invariant-loop-place l = record {
  written : take l.place l.valuation ≡ replicate l.place (pos 7);
  rest : drop l.cells l.valuation ≡ drop l.cells l.initial.valuation;
}
