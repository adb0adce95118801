use Rattle.std.proofs.Common.{◌≡◌, ℕ, ◌<◌, pos}
use Rattle.terms.specs.Terms.{value}
use Rattle.sheets.specs.Places.{says}
use Rattle.sheets.specs.Sheets.{part}
use Rattle.sheets.specs.Valuations.{cell_in}
use Rattle.sheets.specs.Replays.{numbers_in}
use Rattle.sheets.proofs.replay.Valued.is_falsified.Given as goal

abbrev pub invariant-loop-place : goal.invariant-loop-place
invariant-loop-place l = (k : ℕ) → k < l.place → value (cell_in (numbers_in l.self.points.now)) (part (says l.self.sheet) k) ≡ pos 1
