use Rattle.std.proofs.Common.{◌≡◌}
use Rattle.sheets.specs.Valuations.{Within}
use Rattle.sheets.specs.Places.{cells_in, says}
use Rattle.judges.specs.Tries.{ranges}
use Rattle.judges.specs.Walks.{left}
use Rattle.judges.proofs.tries.follow.Given as goal

abbrev pub invariant-loop-i : goal.invariant-loop-i
invariant-loop-i l =
    let s = says l.sheet in
    record {
      within : Within (cells_in l.sheet) l.valuation;
      kept : left s (ranges s.parts 0 s.cells) l.i l.valuation ≡ left s (ranges s.parts 0 s.cells) l.from l.initial.valuation;
    }
