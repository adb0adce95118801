use Rattle.std.proofs.Common.{sym, ◌∙◌, refl}
use Rattle.sheets.proofs.Ruling.{is_sheet, no_sheet}
use Rattle.sheets.proofs.sheet.Sheet.fill.Goals as goal

pub returns-then-not-keep_rules : goal.returns-then-not-keep_rules
returns-then-not-keep_rules c = (no_sheet c.args.rows.now c.args.parts.now c.args.cells.now (sym c.keep_rules.ensures ∙ c.if-not-keep_rules.true), c.into.ensures, refl)

pub returns : goal.returns
returns c = (is_sheet c.args.rows.now c.args.parts.now c.args.cells.now (sym c.keep_rules.ensures ∙ c.if-not-keep_rules.false), refl, refl, refl)
