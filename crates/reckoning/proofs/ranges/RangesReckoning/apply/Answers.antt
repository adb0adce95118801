use Rattle.std.proofs.Common.{sym, subst}
use Rattle.reckoning.specs.Hulls.{Tightly}
use Rattle.reckoning.specs.Rangewise.{tight}
use Rattle.reckoning.proofs.ranges.RangesReckoning.apply.Goals as goal

pub returns : goal.returns
returns c =
    let o = c.args.operator in
    let a = c.args.a in
    let b = c.args.b in
    record { applied = c.applied.ensures; tight = subst (Tightly o a b c.args.c) (sym c.applied.ensures) (tight o a b c.args.c) }
