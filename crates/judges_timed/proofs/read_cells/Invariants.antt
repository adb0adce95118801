use Rattle.std.proofs.Common.{◌≡◌, ◌*◌, ◌++◌, take, drop}
use Rattle.judges_timed.specs.Telling.{cells_told}
use Rattle.judges_timed.proofs.read_cells.Given as goal

abbrev pub invariant-loop-i : goal.invariant-loop-i
invariant-loop-i l = take l.i l.cells ++ cells_told (drop (3 * l.i) l.numbers) ≡ cells_told l.numbers
