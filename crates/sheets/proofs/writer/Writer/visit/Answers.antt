use Rattle.sheets.proofs.Saying.{told_below, told_counts, told_writes}
use Rattle.sheets.proofs.writer.Writer.visit.Goals as goal

pub statement-requires-clause-counts : goal.statement-requires-clause-counts
statement-requires-clause-counts c = told_counts c.args.unit.now c.args.place _ c.statement_at.ensures c.args.self.now c.requires.counts

pub statement-requires-clause-known : goal.statement-requires-clause-known
statement-requires-clause-known c = told_below c.args.unit.now c.args.place _ c.statement_at.ensures c.args.self.now.current.count c.requires.size

pub returns : goal.returns
returns c = told_writes c.args.unit.now c.args.place _ c.statement_at.ensures c.args.self.now c.statement.new.self c.statement.ensures
