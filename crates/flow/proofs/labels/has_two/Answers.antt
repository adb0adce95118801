use Rattle.std.proofs.Common.{rules}
use Rattle.flow.proofs.Labelling.{two_if_found}
use Rattle.flow.proofs.labels.has_two.Goals as goal

pub returns : goal.returns
returns c = two_if_found c.args.steps.now c.args.step c.position.result c.is_some_and.result (search rules) (λ i q. search rules) c.is_some_and.ensures
