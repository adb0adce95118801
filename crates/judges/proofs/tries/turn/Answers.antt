use Rattle.std.proofs.Common.{sym, ◌∙◌, rules}
use Rattle.judges.proofs.Turning.{turned_here, not_here}
use Rattle.judges.proofs.tries.turn.Goals as goal

pub returns-then-step : goal.returns-then-step
returns-then-step c =
    turned_here c.args.ranges.now c.args.valuation.now c.loop-i.valuation c.loop-i.i c.args.ended c.loop-i-test.true c.loop-i.invariant.turning c.loop-i.invariant.same _ (sym c.if-step.true ∙ c.step.ensures.told) (search rules)

pub loop-i-preserved : goal.loop-i-preserved
loop-i-preserved c = record {
  same = search rules;
  turning = not_here c.args.ranges.now c.args.valuation.now c.loop-i.valuation c.loop-i.i c.args.ended c.loop-i-test.true c.loop-i.invariant.turning c.loop-i.invariant.same (sym c.if-step.false ∙ c.step.ensures.told);
}
