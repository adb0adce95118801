use Rattle.std.proofs.Common.{◌≡◌, ◌-◌, true, length, drop}
use Rattle.terms.proofs.Stacking.{Held}
use Rattle.reckoning.specs.Evaluation.{marks_by}
use Rattle.reckoning.specs.Ranges.{ranges}
use Rattle.reckoning.specs.Spanning.{ranged_rows}
use Rattle.reckoning.proofs.spanning.are_ranged.Given as goal

abbrev pub invariant-loop-row : goal.invariant-loop-row
invariant-loop-row g l = record {
  named : l.stack.entries.ghost_name ≡ l.initial.stack.entries.ghost_name;
  held : Held (marks_by ranges (g.N.Mentions.found l.mentions)) l.rows l.initial.stack.entries.now (length l.yielded) l.stack.entries.now l.stack.top;
  ranged : ranged_rows (g.N.Mentions.found l.mentions) (drop (length l.rows - length l.yielded) l.rows) ≡ true;
}
