use Rattle.std.proofs.Common.{nat_eq, rules}
use Rattle.checking.proofs.pieces.are_distinct.Goals as goal

pub returns : goal.returns
returns c = c.are_apart.ensures nat_eq (λ x y b says. search rules)
