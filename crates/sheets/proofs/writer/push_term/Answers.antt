use Rattle.sheets.specs.Writings.{page}
use Rattle.sheets.proofs.Extending.{one_more}
use Rattle.sheets.proofs.writer.push_term.Goals as goal

pub loop-row-preserved : goal.loop-row-preserved
loop-row-preserved c =
    one_more (page c.args.records.now c.args.count.now) (page c.loop-row.records c.loop-row.count) (page c.push.new.records c.push.new.count) _ c.args.term.now c.loop-row.row-index _ c.cell_row.result c.loop-row-test.true c.cell_row.ensures c.loop-row.invariant c.push.ensures
