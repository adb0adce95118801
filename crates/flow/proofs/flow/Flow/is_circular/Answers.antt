use Rattle.std.proofs.Common.{ℕ, ◌<◌, ◌≢◌, length, rules}
use Rattle.flow.specs.declared.circle.Mark.TheVariants.{Seen}
use Rattle.flow.specs.Circles.{mark_at}
use Rattle.flow.specs.Flows.{steps_in}
use Rattle.flow.proofs.Marking.{begun, again, fewer, complete, within}
use Rattle.flow.proofs.flow.Flow.is_circular.Goals as goal

pub loop-j-init : goal.loop-j-init
loop-j-init c = (search rules, begun (steps_in c.args.self.now) c.args.i c.spread.new.marks c.spread.ensures)

pub loop-j-smaller : goal.loop-j-smaller
loop-j-smaller c = fewer (steps_in c.args.self.now) c.in-Some.j c.loop-j.marks c.spread-in-Some.new.marks (search rules) (search rules) (search rules) c.spread-in-Some.ensures

pub loop-j-preserved : goal.loop-j-preserved
loop-j-preserved c = (search rules, again (steps_in c.args.self.now) c.args.i c.loop-j.marks c.loop-j.invariant.1 c.in-Some.j c.spread-in-Some.new.marks (search rules) (search rules) c.spread-in-Some.ensures)

pub returns-then-i-len : goal.returns-then-i-len
returns-then-i-len c =
    let over : (k : ℕ) → k < length (steps_in c.args.self.now) → mark_at c.loop-j.marks k ≢ Seen = search rules in (
      λ e. c.loop-j.invariant.1.sound c.args.i (search rules),
      λ r. let ne = complete (steps_in c.args.self.now) c.args.i c.loop-j.marks c.loop-j.invariant.1 over c.args.i r in search rules,
    )

pub returns-else-i-len : goal.returns-else-i-len
returns-else-i-len c = (λ e. absurd (search rules), λ r. let w = within (steps_in c.args.self.now) c.args.i c.args.i r in absurd (search rules))
