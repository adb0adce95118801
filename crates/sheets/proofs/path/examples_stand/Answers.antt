use Rattle.sheets.proofs.Exampling.{examples}
use Rattle.sheets.proofs.path.examples_stand.Goals as goal

pub returns : goal.returns
returns c = examples
