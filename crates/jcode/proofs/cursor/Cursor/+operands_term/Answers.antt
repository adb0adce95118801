use Rattle.std.proofs.Common.{length, refl, ◌∙◌, rules}
use Rattle.jcode.specs.Scopes.{scope_of}
use Rattle.jcode.proofs.Chains.{stopped_leaves, refused_in}
use Rattle.jcode.proofs.Stores.{operands_refused, closed, term_refused, length_kept, lead_refused, operand_refused, operand_read}
use Rattle.jcode.proofs.cursor.Cursor.+operands_term.Goals as goal

pub operands-returns-in_err-lead : goal.operands-returns-in_err-lead
operands-returns-in_err-lead t c = record {
  value =
      stopped_leaves c.from_residual.result _ _ c.from_residual.ensures.1
      ∙ lead_refused (scope_of c.args.scope) c.args.left (length c.args.rows.now.records.now) c.args.count c.loop-i.i c.loop-i.rows c.args.self.now.bytes.now _ c.loop-i.invariant.room c.loop-i-test.true c.loop-i.invariant.same c.in_err-lead.ensures
      ∙ c.loop-i.invariant.whole;
  same = search rules;
  lent = search rules;
}

pub operands-returns-in_err-term : goal.operands-returns-in_err-term
operands-returns-in_err-term t c = record {
  value =
      stopped_leaves c.from_residual-in_err-term.result _ _ c.from_residual-in_err-term.ensures.1
      ∙ operand_refused (scope_of c.args.scope) c.args.left (length c.args.rows.now.records.now) c.args.count c.loop-i.i c.loop-i.rows c.args.self.now.bytes.now _ c.loop-i.invariant.room c.loop-i-test.true c.loop-i.invariant.same _ _ _ c.in_ok-lead.ensures c.in_err-term.ensures
      ∙ c.loop-i.invariant.whole;
  same = search rules;
  lent = search rules;
}

pub operands-loop-i-preserved : goal.operands-loop-i-preserved
operands-loop-i-preserved t c = record {
  same = search rules;
  lent = search rules;
  room = length_kept c.in_ok-term.ensures ∙ c.loop-i.invariant.room;
  whole =
      operand_read (scope_of c.args.scope) c.args.left (length c.args.rows.now.records.now) c.args.count c.loop-i.i c.loop-i.rows c.args.self.now.bytes.now _ c.loop-i.invariant.room c.loop-i-test.true c.loop-i.invariant.same _ _ _ c.in_ok-lead.ensures c.in_ok-term.ensures
      ∙ c.loop-i.invariant.whole;
}

pub term-returns-in_err-row : goal.term-returns-in_err-row
term-returns-in_err-row t c = record {
  value =
      stopped_leaves c.from_residual.result _ _ c.from_residual.ensures.1
      ∙ term_refused (scope_of c.args.scope) (length c.args.rows.now.records.now) c.args.left c.args.rows.now.count c.args.rows.now.records.now c.args.self.now.bytes.now c.args.self.now.at _ (refused_in refl c.in_err-row.ensures.value);
  same = search rules;
  lent = search rules;
}

pub term-returns-in_err-operands : goal.term-returns-in_err-operands
term-returns-in_err-operands t c = record {
  value =
      stopped_leaves c.from_residual-in_err-operands.result _ _ c.from_residual-in_err-operands.ensures.1
      ∙ operands_refused (scope_of c.args.scope) c.args.left _ c.args.rows.now _ _ _ _ c.in_ok-row.ensures.value c.in_ok-row.ensures.within.0 c.operands_after.ensures c.push.ensures.records c.push.ensures.count _ _ c.in_err-operands.ensures;
  same = search rules;
  lent = search rules;
}

pub term-returns : goal.term-returns
term-returns t c = record {
  value = closed (scope_of c.args.scope) c.args.left _ c.args.rows.now _ _ _ _ c.in_ok-row.ensures.value c.in_ok-row.ensures.within.0 c.operands_after.ensures c.push.ensures.records c.push.ensures.count _ _ c.in_ok-operands.ensures _ _ c.close.ensures;
  same = search rules;
  lent = search rules;
}
