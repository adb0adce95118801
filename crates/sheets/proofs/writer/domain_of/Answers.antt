use Rattle.std.proofs.Common.{ap, ◌∙◌}
use Rattle.std.proofs.lemmas.Option.{unwrap_or-slice_get}
use Rattle.std.specs.Option.{unwrap_or}
use Rattle.jcode.specs.declared.variable.Domain.TheVariants.{Integer}
use Rattle.checking.specs.CheckedUnits.{said}
use Rattle.checking.specs.Types.{domains}
use Rattle.sheets.proofs.writer.domain_of.Goals as goal

pub returns : goal.returns
returns c = c.unwrap_or.ensures ∙ ap (λ o. unwrap_or o Integer) c.domain.ensures ∙ unwrap_or-slice_get (domains (said c.args.unit.now)) c.args.variable Integer
