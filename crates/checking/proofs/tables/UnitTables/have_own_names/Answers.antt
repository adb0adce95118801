use Rattle.std.proofs.Common.{rules}
use Rattle.checking.specs.Pieces.{same_name}
use Rattle.checking.proofs.tables.UnitTables.have_own_names.Goals as goal

pub returns : goal.returns
returns c = c.are_apart.ensures (same_name c.args.self.now.bytes.now) (λ x y b says. search rules)
