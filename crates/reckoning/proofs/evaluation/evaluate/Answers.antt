use Rattle.std.proofs.Common.{length, sym, subst}
use Rattle.reckoning.specs.Evaluation.{Covering}
use Rattle.reckoning.proofs.Roomy.{evaluated_covers}
use Rattle.reckoning.proofs.evaluation.evaluate.Goals as goal

pub returns-clause-covering : goal.returns-clause-covering
returns-clause-covering g c =
    let covers = g.R.Reckoning.covers c.args.reckoning.now in
    let r = g.R.Reckoning.meaning c.args.reckoning.now in
    let found = g.N.Mentions.found c.args.mentions.now in
    subst (Covering covers found c.args.rows.now) (sym c.outcome.ensures.value) (evaluated_covers covers r (g.met.R.Reckoning.lawful c.args.reckoning.now) found c.args.rows.now (length c.args.working.now))
