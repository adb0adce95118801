use Rattle.std.proofs.Common.{◌≡◌, Bool, true, ℕ, ◌<◌, get_or}
use Rattle.jcode.specs.declared.statement.Statement.{Statement}
use Rattle.jcode.specs.declared.statement.Statement.TheVariants.{Hang}
use Rattle.checking.proofs.tables.UnitTables.lowest_failing.Given as goal

abbrev pub invariant-loop-place : goal.invariant-loop-place
invariant-loop-place g l = (p : Statement → Bool) → ((s : _) (r : _) (b : _) (t : _) → goal.F-post g l.passes s r b t → b ≡ p s) → (k : ℕ) → k < l.place → p (get_or l.self.statements.now k Hang) ≡ true
