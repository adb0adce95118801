use Rattle.judges.proofs.Reaching.{part_by_part}
use Rattle.judges.proofs.pass.pass_stands.Goals as goal

pub returns : goal.returns
returns g c = part_by_part (g.R.Reckoning.meaning c.args.pass.now.reckoning)
