-- What a record of the statement table is to the flow of control.
use Rattle.flow.specs.declared.step.Step.{Step}
use Rattle.jcode.specs.declared.statement.Statement.{Statement}
use Rattle.std.specs.Prelude.{[]}
use Rattle.jcode.specs.Units.{sentence_in}
use Rattle.checking.specs.Breaks.{step_of}

-- its rows do not matter
abbrev pub record_step : Statement → Step
record_step s = step_of (sentence_in [] s)
