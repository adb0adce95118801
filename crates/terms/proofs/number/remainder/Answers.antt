use Rattle.std.proofs.Common.{◌∙◌}
use lib.Signed.{rem_z}
use Rattle.terms.proofs.Wide.{exact, remainder_fits, remainder_is}
use Rattle.terms.proofs.number.remainder.Goals as goal

pub returns-else-b-eq0 : goal.returns-else-b-eq0
returns-else-b-eq0 c = exact rem_z c.args.a c.args.b c.ranges.a c.ranges.b (remainder_fits _ c.args.b c.ranges.a) ∙ remainder_is c.args.a c.args.b
