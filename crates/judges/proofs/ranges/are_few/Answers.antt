use Rattle.judges.proofs.Counting.{goes_on, too_many}
use Rattle.judges.proofs.ranges.are_few.Goals as goal

pub returns-then-total-gt-LIMIT : goal.returns-then-total-gt-LIMIT
returns-then-total-gt-LIMIT c =
    too_many c.args.ranges.now c.loop-range.range-index c.loop-range.total c.width.result c.saturating_mul-total.result _ c.loop-range-test.true c.loop-range.invariant.some c.width.ensures c.saturating_mul-total.ensures c.loop-range.invariant.counted c.if-total-gt-LIMIT.true

pub loop-range-preserved : goal.loop-range-preserved
loop-range-preserved c =
    let g = goes_on c.args.ranges.now c.loop-range.range-index c.loop-range.total c.width.result c.saturating_mul-total.result _ c.loop-range-test.true c.loop-range.invariant.some c.width.ensures c.saturating_mul-total.ensures c.loop-range.invariant.counted c.if-total-gt-LIMIT.false in
    record { some = g.0; few = c.if-total-gt-LIMIT.false; counted = g.1 }
