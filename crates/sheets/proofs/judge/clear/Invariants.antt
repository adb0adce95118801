use Rattle.std.proofs.Common.{◌≡◌, take, drop, replicate, pos}
use Rattle.sheets.proofs.judge.clear.Given as goal

abbrev pub invariant-loop-place : goal.invariant-loop-place
invariant-loop-place l = record {
  cleared : take l.place l.valuation ≡ replicate l.place (pos 0);
  rest : drop l.cells l.valuation ≡ drop l.cells l.initial.valuation;
}
