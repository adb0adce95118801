use Rattle.judges.proofs.Settling.{trier_settles}
use Rattle.judges.proofs.trier.trier_stands.Goals as goal

pub returns : goal.returns
returns c = trier_settles
