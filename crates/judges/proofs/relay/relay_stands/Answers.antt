use Rattle.judges.proofs.Relaying.{relays}
use Rattle.judges.proofs.relay.relay_stands.Goals as goal

pub returns : goal.returns
returns g c = relays (g.A.Judge.meaning c.args.relay.now.first) (g.B.Judge.meaning c.args.relay.now.second)
