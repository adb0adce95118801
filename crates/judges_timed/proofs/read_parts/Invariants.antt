use Rattle.std.proofs.Common.{◌≡◌, ◌++◌, take, drop}
use Rattle.judges_timed.specs.Telling.{parts_told}
use Rattle.judges_timed.proofs.read_parts.Given as goal

abbrev pub invariant-loop-i : goal.invariant-loop-i
invariant-loop-i l = take l.i l.parts ++ parts_told l.first (drop l.i l.numbers) ≡ parts_told 0 l.numbers
