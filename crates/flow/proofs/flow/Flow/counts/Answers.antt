use Rattle.std.proofs.Common.{rules}
use Rattle.std.proofs.lemmas.List.{get_or-replicate}
use Rattle.flow.specs.declared.flow.TheConstants.{MOST_STEPS}
use Rattle.flow.specs.Flows.{steps_in}
use Rattle.flow.proofs.Counting.{further}
use Rattle.flow.proofs.flow.Flow.counts.Goals as goal

pub loop-sweep-init : goal.loop-sweep-init
loop-sweep-init c = λ k h. get_or-replicate MOST_STEPS k 0 0 (search rules)

pub loop-sweep-preserved : goal.loop-sweep-preserved
loop-sweep-preserved c = further (steps_in c.args.self.now) c.loop-sweep._sweep c.loop-sweep.counts c.sweep.new.new c.loop-sweep.invariant c.sweep.ensures
