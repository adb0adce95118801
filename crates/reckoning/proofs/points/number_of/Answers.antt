use Rattle.std.proofs.Common.{◌≡◌, length, sym, ap, ◌∙◌, subst}
use Rattle.reckoning.specs.Points.{point_number, points}
use Rattle.reckoning.specs.Evaluation.{evaluated}
use Rattle.reckoning.specs.Exactness.{Exact}
use Rattle.reckoning.proofs.Pointing.{exact, its_number}
use Rattle.reckoning.proofs.points.number_of.Goals as goal

pub returns : goal.returns
returns g c =
    let found = g.N.Mentions.found c.args.mentions.now in
    let rows = c.args.rows.now in
    let room = length c.args.working.now in
    let number : c.number.result ≡ point_number (evaluated points found rows room) = c.number.ensures ∙ ap point_number c.evaluate.ensures.mark in
    record {
      number = number;
      working = c.evaluate.ensures.working;
      exact = λ enough. subst (Exact found rows) (sym number) (exact found rows room enough);
      right = λ at env k is known told n e. its_number c.evaluate.result n _ (sym c.number.ensures ∙ e) (c.evaluate.ensures.covering at env k is known told);
    }
