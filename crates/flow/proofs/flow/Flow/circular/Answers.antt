use Rattle.std.proofs.Common.{arith, rules}
use Rattle.std.proofs.lemmas.Iterator.{first_from_Range}
use Rattle.flow.specs.Flows.{steps_in}
use Rattle.flow.specs.Steps.{OnCircle}
use Rattle.flow.proofs.Lowest.{lowest}
use Rattle.flow.proofs.Marking.{within}
use Rattle.flow.proofs.flow.Flow.circular.Goals as goal

pub returns : goal.returns
returns c =
    let u = steps_in c.args.self.now in
    lowest (OnCircle u) _ c.find.result (λ i r. let w = within u i i r in omega arith) (first_from_Range _ _ _ _ (OnCircle u) (λ i. ¬ OnCircle u i) c.find.ensures.ran (λ x q k. search rules) (λ x q k. search rules))
