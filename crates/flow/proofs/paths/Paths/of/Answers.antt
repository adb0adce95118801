use Rattle.std.proofs.Common.{◌≡◌, min, length, inr, arith, rules}
use Rattle.flow.specs.Steps.{Acyclic}
use Rattle.flow.specs.Flows.{steps_in}
use Rattle.flow.specs.Numbers.{paths}
use Rattle.flow.specs.Counts.{limit}
use Rattle.flow.proofs.Counting.{total_is}
use Rattle.flow.proofs.paths.Paths.of.Goals as goal

pub invariant_of-result : goal.invariant_of-result
invariant_of-result c =
    let u = steps_in c.args.flow in
    let acyclic : Acyclic u = search rules in
    let total : c.sum-total.result ≡ min (length (paths u)) limit = total_is u c.counts-counts.result c.sum-total.result c.counts-counts.ensures c.sum-total.ensures in
    record { acyclic = acyclic; counted = c.counts-counts.ensures; whole = omega arith; few = omega arith }

pub returns-then-total-eq-LIMIT : goal.returns-then-total-eq-LIMIT
returns-then-total-eq-LIMIT c =
    let total = total_is (steps_in c.args.flow) c.counts-counts.result c.sum-total.result c.counts-counts.ensures c.sum-total.ensures in
    inr (omega arith)
