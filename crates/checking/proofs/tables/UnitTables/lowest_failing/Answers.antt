use Rattle.std.proofs.Common.{sym, ◌∙◌, arith, below_more}
use Rattle.jcode.specs.declared.statement.Statement.TheVariants.{Hang}
use Rattle.checking.proofs.Searching.{lowest_is, none_is}
use Rattle.checking.proofs.tables.UnitTables.lowest_failing.Goals as goal

pub returns-then-not-passes : goal.returns-then-not-passes
returns-then-not-passes g c p computes =
    lowest_is p c.args.self.now.statements.now Hang c.loop-place.place (omega arith) (c.loop-place.invariant p computes) (sym (computes _ _ _ _ c.passes.ensures) ∙ c.if-not-passes.true)

pub loop-place-preserved : goal.loop-place-preserved
loop-place-preserved g c p computes =
    below_more _ _ (c.loop-place.invariant p computes) (sym (computes _ _ _ _ c.passes.ensures) ∙ c.if-not-passes.false)

pub returns : goal.returns
returns g c p computes = none_is p c.args.self.now.statements.now Hang (λ k lt. c.loop-place.invariant p computes k (omega arith))
