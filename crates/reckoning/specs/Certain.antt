-- Certain truths: what is known of a comparison of two numbers if each is only known to lie from low to high.
use Rattle.std.specs.Prelude.{cond, ◌&&◌, ◌||◌, int_le, int_lt}
use Rattle.terms.specs.Numbers.{odd, same_number}
use Rattle.reckoning.specs.declared.mark.Mark.{Mark}
use Rattle.reckoning.specs.declared.decision.Decision.{Decision}
use Rattle.reckoning.specs.declared.decision.Decision.TheVariants.{Yes, No, Unknown}

abbrev pub certain_less : Mark → Mark → Decision
certain_less a b = cond (int_lt a.high b.low) Yes (cond (int_le b.high a.low) No Unknown)

abbrev pub certain_equal : Mark → Mark → Decision
certain_equal a b =
    cond (int_lt a.high b.low || int_lt b.high a.low) No (cond (same_number a.high b.low && same_number b.high a.low) Yes Unknown)

abbrev pub certain_odd : Mark → Decision
certain_odd a = cond (int_lt a.low a.high) Unknown (cond (odd a.low) Yes No)
