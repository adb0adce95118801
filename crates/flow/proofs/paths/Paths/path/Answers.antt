use Rattle.std.proofs.Common.{◌≡◌, rules}
use Rattle.flow.specs.Flows.{steps_in}
use Rattle.flow.proofs.Telling.{starts}
use Rattle.flow.proofs.paths.Paths.path.Goals as goal

pub returns : goal.returns
returns c =
    let same : c.args.number ≡ c.in_ok-ok.field-0 = search rules in
    rw same (starts (steps_in c.args.self.now.flow) c.in_ok-ok.field-0 c.pick.result c.pick.ensures)
