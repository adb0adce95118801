use Rattle.std.proofs.Common.{◌≡◌, drop}
use Rattle.sheets.specs.Places.{says}
use Rattle.judges.specs.Tries.{is_refuted}
use Rattle.judges.proofs.tries.is_refuted.Given as goal

abbrev pub invariant-loop-place : goal.invariant-loop-place
invariant-loop-place l = is_refuted l.valuation (drop l.place (says l.sheet).parts) ≡ is_refuted l.valuation (says l.sheet).parts
