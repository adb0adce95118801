use Rattle.std.proofs.Common.{◌≡◌, map, take}
use Rattle.reckoning.specs.Ranges.{between}
use Rattle.sheets.proofs.replay.place_points.Given as goal

abbrev pub invariant-loop-place : goal.invariant-loop-place
invariant-loop-place l = take l.place l.marks ≡ map (λ n. between n n) (take l.place l.numbers)
