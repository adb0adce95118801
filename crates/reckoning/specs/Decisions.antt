-- The three decisions of a truth.
use Rattle.std.specs.Prelude.{Bool, true, false}
use Rattle.reckoning.specs.declared.decision.Decision.{Decision}
use Rattle.reckoning.specs.declared.decision.Decision.TheVariants.{Yes, No, Unknown}

-- by whether 1 and whether 0 is among the numbers that the truth may be: no without 1, else yes without 0, else unknown
abbrev pub decision : Bool → Bool → Decision
decision false zero = No
decision true false = Yes
decision true true = Unknown

abbrev pub negated : Decision → Decision
negated Yes = No
negated No = Yes
negated Unknown = Unknown

-- of two truths: that both hold, and that either does
abbrev pub both : Decision → Decision → Decision
both No e = No
both Yes e = e
both Unknown No = No
both Unknown Yes = Unknown
both Unknown Unknown = Unknown

abbrev pub either : Decision → Decision → Decision
either d e = negated (both (negated d) (negated e))
