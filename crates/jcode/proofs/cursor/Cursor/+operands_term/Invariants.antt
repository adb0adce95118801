use Rattle.std.proofs.Common.{◌≡◌, ◌+◌, ◌-◌, ◌*◌, true, eqb, length}
use Rattle.jcode.specs.Scopes.{scope_of}
use Rattle.jcode.specs.ReadTerms.{read_operands, read_term, stored}
use Rattle.jcode.proofs.cursor.Cursor.+operands_term.Given as goal

abbrev pub decreases-operands : goal.decreases-operands
decreases-operands l = 2 * l.left + 1

abbrev pub decreases-term : goal.decreases-term
decreases-term l = 2 * l.left

-- what is left to read, after what is written, comes to the whole
abbrev pub invariant-operands-loop-i : goal.invariant-operands-loop-i
invariant-operands-loop-i l = record {
  same : l.self.bytes.now ≡ l.initial.self.bytes.now;
  lent : l.rows.records.ghost_name ≡ l.initial.rows.records.ghost_name;
  room : length l.rows.records.now ≡ length l.initial.rows.records.now;
  whole :
      stored l.rows.records.now l.rows.count (read_operands (read_term (scope_of l.scope) (length l.initial.rows.records.now) l.left) (l.count - l.i) (eqb l.i 0) l.rows.count l.initial.self.bytes.now l.self.at)
      ≡ stored l.initial.rows.records.now l.initial.rows.count (read_operands (read_term (scope_of l.scope) (length l.initial.rows.records.now) l.left) l.count true l.initial.rows.count l.initial.self.bytes.now l.initial.self.at);
}
