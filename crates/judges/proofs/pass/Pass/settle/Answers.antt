use Rattle.std.proofs.Common.{rules}
use Rattle.sheets.specs.Places.{rows_in, parts_in, says}
use Rattle.judges.proofs.Parts.{step}
use Rattle.judges.proofs.pass.Pass.settle.Goals as goal

pub returns-then-is_none : goal.returns-then-is_none
returns-then-is_none g c =
    (step (g.R.Reckoning.meaning c.args.self.now.reckoning) (says c.args.sheet.now) (rows_in c.args.sheet.now) (parts_in c.args.sheet.now) c.loop-place.place c.loop-place.marks c.take_in.new.marks (record { first = 0; rows = 0 }) c.of-rows.result.now c.cell_set_by-set.result c.take_in.result
    _ c.loop-place.invariant (search rules) (search rules) (search rules) (search rules) c.take_in.ensures).0 (c.if-is_none.ensures)

pub loop-place-preserved : goal.loop-place-preserved
loop-place-preserved g c =
    (step (g.R.Reckoning.meaning c.args.self.now.reckoning) (says c.args.sheet.now) (rows_in c.args.sheet.now) (parts_in c.args.sheet.now) c.loop-place.place c.loop-place.marks c.take_in.new.marks (record { first = 0; rows = 0 }) c.of-rows.result.now c.cell_set_by-set.result c.take_in.result
    _ c.loop-place.invariant (search rules) (search rules) (search rules) (search rules) c.take_in.ensures).1 (c.if-is_none.ensures)
