use Rattle.std.proofs.Common.{◌≡◌, rules}
use Rattle.flow.specs.Flows.{steps_in}
use Rattle.flow.proofs.Marking.{spread_more}
use Rattle.flow.proofs.flow.Flow.spread.Goals as goal

pub loop-j-preserved : goal.loop-j-preserved
loop-j-preserved c =
    let same : c.next.new.self.end ≡ c.loop-j.j-iterator.end = search rules in (
      search rules,
      rw same (spread_more (steps_in c.args.self.now) c.args.i c.args.marks.now c.loop-j.marks c.loop-j.j-iterator.start c.loop-j.j-iterator.end c.in-Some.j c.next.new.self.start c.reached.result
          (search rules) (search rules) (search rules) (search rules) (search rules) c.loop-j.invariant.1),
    )
