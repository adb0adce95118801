use Rattle.sheets.specs.Valuations.{Within}
use Rattle.sheets.specs.Places.{cells_in, says}
use Rattle.judges.proofs.Finding.{Going, to_go}
use Rattle.judges.proofs.tries.find.Given as goal

abbrev pub invariant-loop-next : goal.invariant-loop-next
invariant-loop-next l = record {
  within : Within (cells_in l.sheet) l.valuation;
  going : Going (says l.sheet) l.next l.valuation;
}

abbrev pub decreases-loop-next : goal.decreases-loop-next
decreases-loop-next l = to_go (says l.sheet) l.next l.valuation
