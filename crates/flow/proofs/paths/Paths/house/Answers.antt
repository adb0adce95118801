use Rattle.std.proofs.Common.{rules}
use Rattle.flow.proofs.Housing.{few}
use Rattle.flow.proofs.paths.Paths.house.Goals as goal

pub unwrap-requires : goal.unwrap-requires
unwrap-requires c = search (rules, few)
