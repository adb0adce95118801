use Rattle.std.proofs.Common.{◌≡◌, ◌*◌, ◌++◌, take, drop}
use Rattle.judges_timed.specs.Telling.{rows_told}
use Rattle.judges_timed.proofs.read_rows.Given as goal

abbrev pub invariant-loop-i : goal.invariant-loop-i
invariant-loop-i l = take l.i l.rows ++ rows_told (drop (2 * l.i) l.numbers) ≡ rows_told l.numbers
