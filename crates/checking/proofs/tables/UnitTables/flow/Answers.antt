use Rattle.std.proofs.Common.{◌<◌, ◌≤◌, [], ◌∷◌, ◌++◌, map, length, take, sym, ap, ◌∙◌, ap₂, arith}
use lib.ListN.{length-map}
use Rattle.std.proofs.lemmas.List.{map_more, take_all, length-take}
use Rattle.flow.specs.Flows.{steps_in}
use Rattle.jcode.specs.declared.statement.Statement.TheVariants.{Hang}
use Rattle.checking.specs.Steps.{record_step}
use Rattle.checking.proofs.Flowing.{pushed_more}
use Rattle.checking.proofs.tables.UnitTables.flow.Goals as goal

pub loop-statement-preserved : goal.loop-statement-preserved
loop-statement-preserved c =
    let long : length (map record_step (take c.loop-statement.statement-index c.args.self.now.statements.now)) ≤ c.loop-statement.statement-index = simp (length-map, length-take) (omega arith) in
    let few : length (steps_in c.loop-statement.flow) < 200 = omega (arith, ap length c.loop-statement.invariant, c.requires, c.loop-statement-test.true) in
    pushed_more (steps_in c.loop-statement.flow) (steps_in c.push.new.self) c.step_of.result c.push.result c.push.ensures few
    ∙ ap₂ (λ u s. u ++ s ∷ []) c.loop-statement.invariant c.step_of.ensures
    ∙ sym (map_more record_step c.args.self.now.statements.now c.loop-statement.statement-index Hang c.loop-statement-test.true)

pub returns : goal.returns
returns c = c.loop-statement.invariant ∙ ap (map record_step) (take_all c.loop-statement.statement-index c.args.self.now.statements.now c.loop-statement-test.false)
