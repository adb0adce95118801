use Rattle.std.proofs.Common.{Err, sym, ap, ◌∙◌, subst}
use Rattle.std.proofs.lemmas.Result.{err_from_is_err_and}
use Rattle.jcode.specs.ReadUnits.{tables}
use Rattle.checking.specs.Readings.{ChecksUnit}
use Rattle.checking.proofs.Checking.{passes_read, fails_read}
use Rattle.checking.proofs.unit.CheckedUnit.check.Goals as goal

pub returns-in_err-paths-clause-read : goal.returns-in_err-paths-clause-read
returns-in_err-paths-clause-read c start before o u l named stands =
    let p = err_from_is_err_and c.from_residual.result c.from_residual.ensures.1 in
    subst (λ r. ChecksUnit u r c.args.self.now) (sym (p.1 ∙ ap Err p.2)) (fails_read c.args.bytes.now c.args.name (tables c.args.variables.now c.args.statements.now c.args.rows.now) _ c.in_err-paths.ensures.checks start before o u l named stands)

pub returns-clause-read : goal.returns-clause-read
returns-clause-read c = passes_read c.args.bytes.now c.args.name (tables c.args.variables.now c.args.statements.now c.args.rows.now) c.in_ok-paths.ensures.checks
