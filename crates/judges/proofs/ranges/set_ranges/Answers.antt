use Rattle.std.proofs.Common.{◌≡◌, ◌+◌, ◌≤◌, length, get_or, take, pos, sym, subst, rules}
use Rattle.std.proofs.lemmas.List.{take_all}
use Rattle.sheets.specs.Places.{cells_in, rows_in, parts_in, says}
use Rattle.sheets.proofs.Kept.{is_a_sheet}
use Rattle.terms.specs.declared.row.Row.TheVariants.{Constant}
use Rattle.judges.specs.Ranging.{opened}
use Rattle.judges.proofs.Opening.{Ranged, ranged_more, ranged_all, occurs_rows}
use Rattle.judges.proofs.ranges.set_ranges.Goals as goal

pub returns : goal.returns
returns c =
    let sheet = c.args.sheet.now in
    let all : length (rows_in sheet) ≤ c.loop-row.row-index = search rules in
    ranged_all (cells_in sheet) (rows_in sheet) c.loop-row.ranges (says sheet).parts (subst (λ rows. Ranged (cells_in sheet) rows c.loop-row.ranges) (take_all c.loop-row.row-index (rows_in sheet) all) c.loop-row.invariant)
    (λ i. occurs_rows (rows_in sheet) i 0 (parts_in sheet) (is_a_sheet sheet).filled)

pub loop-row-preserved : goal.loop-row-preserved
loop-row-preserved c =
    let sheet = c.args.sheet.now in
    let cells = cells_in sheet in
    let rows = rows_in sheet in
    let k = c.loop-row.row-index in
    let is : c.open.new.ranges ≡ opened cells (get_or rows k (Constant (pos 0))) c.loop-row.ranges = search rules in
    subst (Ranged cells (take (k + 1) rows)) (sym is) (ranged_more cells rows k (Constant (pos 0)) (search rules) c.loop-row.ranges c.loop-row.invariant)
