use Rattle.std.proofs.Common.{length, ◌∙◌}
use Rattle.terms.proofs.Stacking.{worked}
use Rattle.reckoning.specs.Spanning.{ranged_rows}
use Rattle.reckoning.proofs.Spanned.{in_room}
use Rattle.reckoning.proofs.spanning.stays_in_span.Goals as goal

pub returns-clause-result : goal.returns-clause-result
returns-clause-result g c = c.are_ranged.ensures.result ∙ in_room c.args.rows.now (length c.args.working.now) (ranged_rows (g.N.Mentions.found c.args.mentions.now) c.args.rows.now) c.if-working-rows.false

pub returns-clause-working : goal.returns-clause-working
returns-clause-working g c = worked c.args.rows.now c.args.working.now c.are_ranged.new.working c.if-working-rows.false c.are_ranged.ensures.others
