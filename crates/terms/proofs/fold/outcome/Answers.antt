use Rattle.terms.proofs.Stacking.{in_room, worked}
use Rattle.terms.proofs.fold.outcome.Goals as goal

pub returns-clause-value : goal.returns-clause-value
returns-clause-value g c = in_room (g.I.Interpretation.algebra c.args.interpretation.now) c.args.rows.now _ c.newest.result c.if-entries-rows.false c.newest.ensures.value

pub returns-clause-working : goal.returns-clause-working
returns-clause-working g c = worked c.args.rows.now c.args.entries.now c.newest.new.entries c.if-entries-rows.false c.newest.ensures.others
