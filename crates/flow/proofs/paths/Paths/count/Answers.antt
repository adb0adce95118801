use Rattle.std.proofs.Common.{rules}
use Rattle.flow.specs.Flows.{steps_in}
use Rattle.flow.proofs.Numbering.{numbered}
use Rattle.flow.proofs.paths.Paths.count.Goals as goal

pub returns-clause-numbered : goal.returns-clause-numbered
returns-clause-numbered c = numbered (steps_in c.args.self.now.flow) (search rules)
