use Rattle.std.proofs.Common.{◌∙◌, rules}
use Rattle.checking.specs.CheckedUnits.{said}
use Rattle.sheets.proofs.Following.{none_visited, here_counts, fewer, one_visited, all_visited}
use Rattle.sheets.proofs.writer.Writer.along.Goals as goal

pub loop-turn-init : goal.loop-turn-init
loop-turn-init c = none_visited (said c.args.unit.now) c.args.self.now c.args.first c.requires.tells c.requires.counts

pub visit-requires-clause-counts : goal.visit-requires-clause-counts
visit-requires-clause-counts c = here_counts (said c.args.unit.now) c.args.self.now c.loop-turn.self _ c.loop-turn.turn c.loop-turn.invariant c.in-Some.here c.in-Some.is c.place.result c.place.ensures

pub visit-requires-clause-size : goal.visit-requires-clause-size
visit-requires-clause-size c = c.loop-turn.invariant.size ∙ c.requires.size

pub loop-turn-smaller : goal.loop-turn-smaller
loop-turn-smaller c = fewer (said c.args.unit.now) c.args.self.now c.loop-turn.self _ c.loop-turn.turn c.loop-turn.invariant c.in-Some.here c.in-Some.is c.place.result c.place.ensures c.visit.new.self c.after-turn.result c.after-turn.ensures

pub loop-turn-preserved : goal.loop-turn-preserved
loop-turn-preserved c = one_visited (said c.args.unit.now) c.args.self.now c.loop-turn.self _ c.loop-turn.turn c.loop-turn.invariant c.in-Some.here c.in-Some.is c.place.result c.place.ensures c.visit.new.self c.after-turn.result c.after-turn.ensures c.visit.ensures

pub returns : goal.returns
returns c =
    let filled = all_visited (said c.args.unit.now) c.args.self.now c.loop-turn.self _ c.loop-turn.turn c.loop-turn.invariant (search rules) in
    record { lent_rows = filled.lent.rows; lent_parts = filled.lent.parts; lent_cells = filled.lent.cells; fills = filled }
