use Rattle.std.proofs.Common.{◌+◌, length, drop, Some, sym, ap, ◌∙◌}
use Rattle.std.proofs.lemmas.List.{at_drop_more, at_drop_all}
use Rattle.jcode.specs.declared.statement.Statement.TheVariants.{Hang}
use Rattle.checking.specs.Layouts.{fills_from}
use Rattle.checking.proofs.tables.UnitTables.are_filled.Goals as goal

pub returns-in_default : goal.returns-in_default
returns-in_default c =
    ap (λ o. fills_from (length c.args.self.now.rows.now) o (drop (c.loop-statement.statement-index + 1) c.args.self.now.statements.now)) c.in_default.ensures
    ∙ sym (at_drop_more (fills_from (length c.args.self.now.rows.now) (Some c.loop-statement.used)) c.args.self.now.statements.now c.loop-statement.statement-index Hang c.loop-statement-test.true) ∙ c.loop-statement.invariant

pub loop-statement-preserved : goal.loop-statement-preserved
loop-statement-preserved c =
    ap (λ o. fills_from (length c.args.self.now.rows.now) o (drop (c.loop-statement.statement-index + 1) c.args.self.now.statements.now)) c.in-Some.ensures
    ∙ sym (at_drop_more (fills_from (length c.args.self.now.rows.now) (Some c.loop-statement.used)) c.args.self.now.statements.now c.loop-statement.statement-index Hang c.loop-statement-test.true) ∙ c.loop-statement.invariant

pub returns : goal.returns
returns c = sym (at_drop_all (fills_from (length c.args.self.now.rows.now) (Some c.loop-statement.used)) c.args.self.now.statements.now c.loop-statement.statement-index c.loop-statement-test.false) ∙ c.loop-statement.invariant
