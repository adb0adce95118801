use Rattle.std.proofs.Common.{◌≡◌, true, rules}
use Rattle.judges_timed.specs.Telling.{are_told}
use Rattle.judges_timed.proofs.Answering.{answered}
use Rattle.judges_timed.proofs.judges_ask_trier.Goals as goal

pub returns : goal.returns
returns c =
    let told : are_told c.args.rows.now c.args.parts.now c.args.cells.now ≡ true = search rules in
    answered c.args.rows.now c.args.parts.now c.args.cells.now c.read_rows.new.rows c.read_parts.new.parts c.read_cells.new.cells c.ask.result told c.read_rows.ensures c.read_parts.ensures c.read_cells.ensures c.ask.ensures.refused c.ask.ensures.asked
