use Rattle.std.proofs.Common.{pos, rules}
use Rattle.terms.specs.declared.row.Row.TheVariants.{Constant}
use Rattle.sheets.specs.Valuations.{cell_in}
use Rattle.judges.proofs.Numbers.{folded_more}
use Rattle.judges.proofs.number.number_of.Goals as goal

pub loop-i-preserved : goal.loop-i-preserved
loop-i-preserved c =
    folded_more (cell_in c.args.valuation.now) c.args.rows.now c.loop-i.i (Constant (pos 0)) c.loop-i.stack c.read-top.new.stack c.loop-i.top c.read-top.result c.requires.spans c.loop-i-test.true (search rules) (search rules) c.loop-i.invariant c.read-top.ensures
