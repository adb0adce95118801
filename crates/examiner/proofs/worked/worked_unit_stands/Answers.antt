use Rattle.examiner.proofs.Working.{worked_unit}
use Rattle.examiner.proofs.worked.worked_unit_stands.Goals as goal

pub returns : goal.returns
returns c = worked_unit
