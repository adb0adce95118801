use Rattle.std.proofs.Common.{◌+◌, length, drop, Some, sym, ap, ◌∙◌}
use Rattle.std.proofs.lemmas.List.{at_drop_more, at_drop_all}
use Rattle.sheets.specs.Tables.{fills}
use Rattle.sheets.proofs.tables.Tables.are_filled.Goals as goal

pub returns-in_default : goal.returns-in_default
returns-in_default c =
    ap (λ o. fills (length c.args.self.now.rows.now) o (drop (c.loop-part.part-index + 1) c.args.self.now.parts.now)) c.in_default.ensures
    ∙ sym (at_drop_more (fills (length c.args.self.now.rows.now) (Some c.loop-part.used)) c.args.self.now.parts.now c.loop-part.part-index (record { first = 0; rows = 0 }) c.loop-part-test.true) ∙ c.loop-part.invariant

pub loop-part-preserved : goal.loop-part-preserved
loop-part-preserved c =
    ap (λ o. fills (length c.args.self.now.rows.now) o (drop (c.loop-part.part-index + 1) c.args.self.now.parts.now)) c.in-Some.ensures
    ∙ sym (at_drop_more (fills (length c.args.self.now.rows.now) (Some c.loop-part.used)) c.args.self.now.parts.now c.loop-part.part-index (record { first = 0; rows = 0 }) c.loop-part-test.true) ∙ c.loop-part.invariant

pub returns : goal.returns
returns c = sym (at_drop_all (fills (length c.args.self.now.rows.now) (Some c.loop-part.used)) c.args.self.now.parts.now c.loop-part.part-index c.loop-part-test.false) ∙ c.loop-part.invariant
