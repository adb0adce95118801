use Rattle.std.proofs.Common.{rules}
use Rattle.sheets.proofs.Drafting.{can_count, drafted}
use Rattle.sheets.proofs.writing.draft.Goals as goal

pub along-requires-clause-counts : goal.along-requires-clause-counts
along-requires-clause-counts c = can_count c.args.unit.now c.args.number c.in_ok-first.first c.in_ok-first.ensures c.args.rows.now c.args.parts.now c.args.cells.now c.start-writer.result c.start-writer.ensures.starts

pub returns : goal.returns
returns c =
    let d = drafted c.args.unit.now c.args.number c.in_ok-first.first c.in_ok-first.ensures c.args.rows.now c.args.parts.now c.args.cells.now c.start-writer.result c.start-writer.ensures.starts c.along.new.self c.along.ensures.fills in
    (d.0, d.1, search rules, search rules, search rules)
