use Rattle.std.proofs.Common.{arith, rules}
use Rattle.std.proofs.lemmas.Iterator.{first_from_Range}
use Rattle.flow.specs.Flows.{steps_in}
use Rattle.flow.specs.Orders.{Misplaced}
use Rattle.flow.proofs.Lowest.{lowest}
use Rattle.flow.proofs.Ordering.{within}
use Rattle.flow.proofs.flow.Flow.misplaced.Goals as goal

pub returns : goal.returns
returns c =
    let u = steps_in c.args.self.now in
    lowest (Misplaced u) _ c.find.result (λ i m. let w = within u i m in omega arith) (first_from_Range _ _ _ _ (Misplaced u) (λ i. ¬ Misplaced u i) c.find.ensures.ran (λ x q k. search rules) (λ x q k. search rules))
