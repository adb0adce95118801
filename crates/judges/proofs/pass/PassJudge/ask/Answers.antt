use Rattle.std.proofs.Common.{rules}
use Rattle.sheets.specs.Places.{marks_for, says}
use Rattle.judges.proofs.Replying.{pass_replied}
use Rattle.judges.proofs.pass.PassJudge.ask.Goals as goal

pub returns-clause-replied : goal.returns-clause-replied
returns-clause-replied g c =
    pass_replied (g.R.Reckoning.meaning c.args.self.now.reckoning) (says c.args.sheet.now) (marks_for c.args.sheet.now) c.args.valuation.now c.args.working.now c.settle.result c.clear.new.valuation c.start.new.marks _
    (search rules) (search rules) (search rules) (search rules) c.settle.ensures (search rules)
