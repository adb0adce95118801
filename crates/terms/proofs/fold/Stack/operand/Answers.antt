use Rattle.std.proofs.Common.{arith}
use Rattle.std.proofs.lemmas.Option.{gets}
use Rattle.std.proofs.lemmas.Grind.{common_steps}
use Rattle.terms.proofs.fold.Stack.operand.Goals as goal

pub returns : goal.returns
returns g c = grind (arith, common_steps, gets)
