use Rattle.std.proofs.Common.{rules}
use Rattle.checking.proofs.Entries.{term_entries}
use Rattle.checking.proofs.term_table.TermTable.kind.Goals as goal

pub returns : goal.returns
returns c = let few = term_entries c.args.self.now.rows.now c.args.term in search rules
