use Rattle.std.proofs.Common.{◌≡◌, Bool, drop}
use Rattle.checking.specs.Tests.{apart}
use Rattle.checking.proofs.apart.are_apart.Given as goal

abbrev pub invariant-loop-i : goal.invariant-loop-i
invariant-loop-i g l = (p : g.row.T.Denot → g.row.T.Denot → Bool) → ((x y : g.row.T.Denot) (b : Bool) → goal.F-post g l.alike x y b → b ≡ p x y) → apart p (drop l.i l.xs) ≡ apart p l.xs
