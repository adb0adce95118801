use Rattle.std.proofs.Common.{ap, ◌∙◌}
use Rattle.std.specs.List.{slice_get}
use Rattle.checking.proofs.Telling.{same_domains}
use Rattle.checking.proofs.unit.CheckedUnit.domain.Goals as goal

pub returns : goal.returns
returns c = c.domain.ensures ∙ ap (λ ds. slice_get ds c.args.variable) (same_domains c.args.self.now.tables.bytes.now c.args.self.now.tables.variables.now)
