use Rattle.std.proofs.Common.{◌≡◌, ◌≤◌, length, get_or, Some, sym, ap, ◌∙◌, subst, arith, rules}
use Rattle.reckoning.specs.Exactness.{Spans}
use Rattle.sheets.specs.Sheets.{part, setting_term}
use Rattle.sheets.specs.Places.{cells_in, says}
use Rattle.sheets.specs.Valuations.{cell_in}
use Rattle.sheets.proofs.Kept.{sheet_keeps}
use Rattle.judges.specs.Passing.{set_by_at}
use Rattle.judges.specs.Ranging.{no_cell}
use Rattle.judges.proofs.Spanning.{setting_spans, setting_room}
use Rattle.judges.proofs.tries.begin.Goals as goal

pub number_of-number-requires-clause-spans : goal.number_of-number-requires-clause-spans
number_of-number-requires-clause-spans c =
    let s = says c.args.sheet.now in
    let set : (get_or (cells_in c.args.sheet.now) c.args.cell no_cell).set_by ≡ Some c.in-Some.place = search rules in
    let is : c.setting_term.result.now ≡ setting_term (part s c.in-Some.place) = c.setting_term.ensures ∙ ap setting_term c.part.ensures in
    subst (Spans (cell_in c.args.valuation.now)) (sym is)
    (setting_spans s (sheet_keeps c.args.sheet.now) c.args.valuation.now c.requires.within c.in-Some.place c.args.cell (sym (set_by_at (cells_in c.args.sheet.now) c.args.cell no_cell c.requires.cell) ∙ set))

pub number_of-number-requires-clause-room : goal.number_of-number-requires-clause-room
number_of-number-requires-clause-room c =
    let s = says c.args.sheet.now in
    let is : c.setting_term.result.now ≡ setting_term (part s c.in-Some.place) = c.setting_term.ensures ∙ ap setting_term c.part.ensures in
    let room = setting_room c.args.sheet.now c.in-Some.place in
    let enough : length (setting_term (part s c.in-Some.place)) ≤ length c.args.stack.now = omega (arith, c.requires.room) in
    subst (λ e. length e ≤ length c.args.stack.now) (sym is) enough
