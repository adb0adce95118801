use Rattle.std.proofs.Common.{length, ap, ◌∙◌, arith}
use Rattle.sheets.proofs.Starting.{few_variables, same_count}
use Rattle.sheets.proofs.writer.count.Goals as goal

pub returns : goal.returns
returns c =
    let is = ap length c.variables.ensures in
    record { count = is ∙ same_count c.args.unit.now; few = let few = few_variables c.args.unit.now in omega (arith, is, few) }
