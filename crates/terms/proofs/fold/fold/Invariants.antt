use Rattle.std.proofs.Common.{◌≡◌, length}
use Rattle.terms.proofs.Stacking.{Held}
use Rattle.terms.proofs.fold.fold.Given as goal

abbrev pub invariant-loop-row : goal.invariant-loop-row
invariant-loop-row g l = record {
  named : l.stack.entries.ghost_name ≡ l.initial.stack.entries.ghost_name;
  held : Held (g.I.Interpretation.algebra l.interpretation) l.rows l.initial.stack.entries.now (length l.yielded) l.stack.entries.now l.stack.top;
}
