use Rattle.std.proofs.Common.{sym, ◌∙◌, ap}
use Rattle.std.specs.Bool.{then_some}
use Rattle.sheets.specs.Tables.{first_cell}
use Rattle.sheets.specs.Places.{says}
use Rattle.sheets.proofs.Setters.{kept_set, no_cell, the_cell}
use Rattle.sheets.proofs.sheet.Sheet.cell_set_by.Goals as goal

pub returns-in_err-cell : goal.returns-in_err-cell
returns-in_err-cell c =
    let s = says c.args.self.now in
    c.from_residual.ensures ∙ no_cell s (kept_set s c.args.self.now.kept) c.args.place (sym (c.first_cell.ensures ∙ ap first_cell c.part.ensures) ∙ c.in_err-cell.was)

pub returns : goal.returns
returns c =
    let s = says c.args.self.now in
    c.then_some.ensures ∙ ap (λ b. then_some b c.in_ok-cell.cell) c.is_set_by.ensures ∙ the_cell s (kept_set s c.args.self.now.kept) c.args.place c.in_ok-cell.cell (sym (c.first_cell.ensures ∙ ap first_cell c.part.ensures) ∙ c.in_ok-cell.was)
