use Rattle.std.proofs.Common.{length}
use Rattle.flow.specs.Turns.{told}
use Rattle.checking.specs.Breaks.{steps_of}
use Rattle.checking.specs.CheckedUnits.{said}
use Rattle.sheets.proofs.Following.{Along, left}
use Rattle.sheets.proofs.writer.Writer.along.Given as goal

abbrev pub invariant-loop-turn : goal.invariant-loop-turn
invariant-loop-turn l = Along (said l.unit) l.initial.self (told (steps_of (said l.unit)) l.fn.first) l.self l.turn

abbrev pub decreases-loop-turn : goal.decreases-loop-turn
decreases-loop-turn l = length (left (steps_of (said l.unit)) l.turn)
