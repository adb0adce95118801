use Rattle.std.proofs.Common.{◌≡◌, ◌+◌, rules}
use Rattle.flow.specs.Flows.{steps_in}
use Rattle.flow.specs.Steps.{Acyclic}
use Rattle.flow.specs.Paths.{required}
use Rattle.flow.specs.Counts.{ends}
use Rattle.flow.proofs.Telling.{follows}
use Rattle.flow.proofs.paths.Paths.after.Goals as goal

pub returns : goal.returns
returns c =
    let u = steps_in c.args.self.now.flow in
    let acyclic : Acyclic u = search rules in
    let here : c.from-here.result ≡ ends (required u c.args.turn.place) = search rules in
    let rest : c.args.turn.number ≡ c.from-here.result + c.in_ok-checked_sub.field-0 = search rules in
    follows u acyclic c.args.turn c.in_ok-checked_sub.field-0 c.pick.result (rw (← here) rest) c.pick.ensures
