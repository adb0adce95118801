use Rattle.flow.proofs.Exampling.{examples}
use Rattle.flow.proofs.flow.examples_stand.Goals as goal

pub returns : goal.returns
returns c = examples
