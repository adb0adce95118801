use Rattle.std.proofs.Common.{◌∙◌, arith}
use Rattle.jcode.specs.Scopes.{scope_of}
use Rattle.jcode.specs.ReadUnits.{goes_on}
use Rattle.jcode.proofs.Chains.{tested, stopped_leaves}
use Rattle.jcode.proofs.Statements.{nothing, tables, statement_refused, one_more, finished}
use Rattle.jcode.proofs.cursor.Cursor.statements.Goals as goal

pub loop-self-init : goal.loop-self-init
loop-self-init c = nothing (scope_of c.args.scope) c.args.self.now c.args.statements.now c.args.rows.now c.requires

pub returns-in_err-statement : goal.returns-in_err-statement
returns-in_err-statement c =
    let more = tested goes_on c.loop-self.self c.loop-self.invariant.same c.loop-self-test.ensures in
    let h = c.in_err-statement.ensures.value in
    record {
      value = stopped_leaves c.from_residual.result _ _ c.from_residual.ensures.1 ∙ statement_refused (scope_of c.args.scope) c.args.self.now c.args.statements.now c.args.rows.now c.loop-self.self c.loop-self.statements c.loop-self.rows c.loop-self.invariant more _ _ h;
      same = h.same ∙ c.loop-self.invariant.same;
      statements_lent = c.loop-self.invariant.statements_lent;
      rows_lent = h.lent ∙ c.loop-self.invariant.rows_lent;
    }

pub push-requires : goal.push-requires
push-requires c = omega (arith, c.in_ok-statement.ensures.within)

pub loop-self-smaller : goal.loop-self-smaller
loop-self-smaller c =
    let lengths = tables (scope_of c.args.scope) c.args.self.now c.args.statements.now c.args.rows.now c.loop-self.self c.loop-self.statements c.loop-self.rows c.loop-self.invariant in
    omega (arith, c.in_ok-statement.ensures.within, c.push.ensures.count, lengths)

pub loop-self-preserved : goal.loop-self-preserved
loop-self-preserved c =
    let more = tested goes_on c.loop-self.self c.loop-self.invariant.same c.loop-self-test.ensures in
    let lengths = tables (scope_of c.args.scope) c.args.self.now c.args.statements.now c.args.rows.now c.loop-self.self c.loop-self.statements c.loop-self.rows c.loop-self.invariant in
    one_more (scope_of c.args.scope) c.args.self.now c.args.statements.now c.args.rows.now c.loop-self.self c.loop-self.statements c.loop-self.rows c.loop-self.invariant more _ _ _ c.in_ok-statement.ensures.value c.push.new.self c.push.ensures.lent c.push.ensures.records c.push.ensures.count (omega (arith, c.in_ok-statement.ensures.within, lengths))

pub returns : goal.returns
returns c =
    let none = tested goes_on c.loop-self.self c.loop-self.invariant.same c.loop-self-test.ensures in
    record {
      value = finished (scope_of c.args.scope) c.args.self.now c.args.statements.now c.args.rows.now c.loop-self.self c.loop-self.statements c.loop-self.rows c.loop-self.invariant none _ _ c.finish.ensures;
      same = c.finish.ensures.same ∙ c.loop-self.invariant.same;
      statements_lent = c.loop-self.invariant.statements_lent;
      rows_lent = c.loop-self.invariant.rows_lent;
    }
