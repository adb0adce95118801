use Rattle.std.proofs.Common.{length}
use Rattle.sheets.specs.Sheets.{condition_of}
use Rattle.sheets.proofs.Ruling.{fills_true, keeps_true}
use Rattle.sheets.proofs.sheet.Sheet.of.Goals as goal

pub invariant_of-result : goal.invariant_of-result
invariant_of-result c = record {
  filled = fills_true (length c.args.rows.now) 0 c.args.parts.now c.requires.filled;
  kept = keeps_true (condition_of c.args.rows.now c.args.parts.now c.args.cells.now) c.requires.kept;
}
