use Rattle.std.proofs.Common.{◌≡◌, map, take}
use Rattle.judges.specs.Passes.{bounds_mark}
use Rattle.judges.proofs.pass.Pass.start.Given as goal

abbrev pub invariant-loop-i : goal.invariant-loop-i
invariant-loop-i g l = take l.i l.marks ≡ map (bounds_mark (g.R.Reckoning.meaning l.self.reckoning)) (take l.i l.cells)
