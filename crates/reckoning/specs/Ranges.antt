-- The reckoning by ranges: the numbers from low to high within the span, or any number.
use Rattle.std.specs.Prelude.{ℕ, max, Bool, cond, not, ◌&&◌, ◌||◌, ℤ, pos, ◌+ℤ◌, ◌-ℤ◌, ◌*ℤ◌, neg_ℤ, Some, None, Option, int_le, unsigned_abs}
use Rattle.std.specs.Int.{int_min, int_max}
use Rattle.terms.specs.declared.operator.Operator.{Operator}
use Rattle.terms.specs.declared.operator.Operator.TheVariants.{Addi, Subi, Negi, Mul, Divi, Mod, Odd, Gei, Lei, Gti, Lti, Mini, Maxi, True, False, And, Or, Not, Implies, Impliedby, Notimplies, Notimpliedby, Equal, Notequal, If}
use Rattle.terms.specs.declared.kind.Kind.TheVariants.{Number, Truth}
use Rattle.terms.specs.declared.kind.Sort.{Sort}
use Rattle.terms.specs.declared.kind.Sort.TheVariants.{Of, Same}
use Rattle.terms.specs.Operators.{result_of, operands}
use Rattle.terms.specs.Numbers.{in_span}
use Rattle.reckoning.specs.declared.mark.Mark.{Mark}
use Rattle.reckoning.specs.declared.decision.Decision.{Decision}
use Rattle.reckoning.specs.declared.decision.Decision.TheVariants.{Yes, No, Unknown}
use Rattle.reckoning.specs.Decisions.{decision, negated, both, either}
use Rattle.reckoning.specs.Certain.{certain_less, certain_equal, certain_odd}
use Rattle.reckoning.specs.Reckonings.{Meaning}
use Rattle.reckoning.specs.Points.{any_mark}

-- bounds in order and in the span are a range, and every other pair is 'any'
abbrev pub is_range : Mark → Bool
is_range m = int_le m.low m.high && (in_span m.low && in_span m.high)

abbrev pub within : Mark → ℤ → Bool
within m n = int_le m.low n && int_le n m.high

-- a range covers the numbers from its low to its high, 'any' covers all
abbrev pub range_holds : Mark → ℤ → Bool
range_holds m n = not (is_range m) || within m n

abbrev pub between : ℤ → ℤ → Mark
between low high = record { low = low; high = high }

-- low to high, or 'any' with an end outside the span
abbrev pub ranged : ℤ → ℤ → Mark
ranged low high = cond (in_span low && in_span high) (between low high) any_mark

abbrev pub range_bounded : ℤ → ℤ → Mark
range_bounded low high = cond (is_range (between low high)) (between low high) any_mark

abbrev pub truth_range : Decision → Mark
truth_range Yes = between (pos 1) (pos 1)
truth_range No = between (pos 0) (pos 0)
truth_range Unknown = between (pos 0) (pos 1)

abbrev pub range_decided : Mark → Decision
range_decided m = decision (range_holds m (pos 1)) (range_holds m (pos 0))

-- where nothing is known of a result: 0 to 1 for a truth
abbrev pub unknown_of : Sort → Mark
unknown_of (Of Truth) = truth_range Unknown
unknown_of (Of Number) = any_mark
unknown_of Same = any_mark

-- a range with a number of the sort
abbrev pub range_fits : Sort → Mark → Bool
range_fits (Of Truth) m = is_range m && (within m (pos 0) || within m (pos 1))
range_fits (Of Number) m = is_range m
range_fits Same m = is_range m

abbrev pub least4 : ℤ → ℤ → ℤ → ℤ → ℤ
least4 p q r s = int_min (int_min p q) (int_min r s)

abbrev pub greatest4 : ℤ → ℤ → ℤ → ℤ → ℤ
greatest4 p q r s = int_max (int_max p q) (int_max r s)

-- the least to the greatest product of an end of a with an end of b
abbrev pub products : Mark → Mark → Mark
products a b =
    ranged (least4 (a.low *ℤ b.low) (a.low *ℤ b.high) (a.high *ℤ b.low) (a.high *ℤ b.high)) (greatest4 (a.low *ℤ b.low) (a.low *ℤ b.high) (a.high *ℤ b.low) (a.high *ℤ b.high))

-- -m to m, with m the greatest magnitude of the dividend's ends
abbrev pub around_zero : ℕ → Mark
around_zero m = ranged (neg_ℤ (pos m)) (pos m)

abbrev pub divided : Mark → Mark
divided a = around_zero (max (unsigned_abs a.low) (unsigned_abs a.high))

-- the least range that holds both
abbrev pub joined : Mark → Mark → Mark
joined a b = ranged (int_min a.low b.low) (int_max a.high b.high)

abbrev pub picked : Decision → Mark → Mark → Mark
picked Yes b c = b
picked No b c = c
picked Unknown b c = joined b c

-- of operands that have a choice
abbrev pub range_computed : Operator → Mark → Mark → Mark → Mark
range_computed Addi a b c = ranged (a.low +ℤ b.low) (a.high +ℤ b.high)
range_computed Subi a b c = ranged (a.low -ℤ b.high) (a.high -ℤ b.low)
range_computed Negi a b c = ranged (neg_ℤ a.high) (neg_ℤ a.low)
range_computed Mul a b c = products a b
range_computed Divi a b c = divided a
range_computed Mod a b c = divided a
range_computed Odd a b c = truth_range (certain_odd a)
range_computed Gei a b c = truth_range (negated (certain_less a b))
range_computed Lei a b c = truth_range (negated (certain_less b a))
range_computed Gti a b c = truth_range (certain_less b a)
range_computed Lti a b c = truth_range (certain_less a b)
range_computed Mini a b c = ranged (int_min a.low b.low) (int_min a.high b.high)
range_computed Maxi a b c = ranged (int_max a.low b.low) (int_max a.high b.high)
range_computed True a b c = truth_range Yes
range_computed False a b c = truth_range No
range_computed And a b c = truth_range (both (range_decided a) (range_decided b))
range_computed Or a b c = truth_range (either (range_decided a) (range_decided b))
range_computed Not a b c = truth_range (negated (range_decided a))
range_computed Implies a b c = truth_range (either (negated (range_decided a)) (range_decided b))
range_computed Impliedby a b c = truth_range (either (range_decided a) (negated (range_decided b)))
range_computed Notimplies a b c = truth_range (both (range_decided a) (negated (range_decided b)))
range_computed Notimpliedby a b c = truth_range (both (negated (range_decided a)) (range_decided b))
range_computed Equal a b c = truth_range (certain_equal a b)
range_computed Notequal a b c = truth_range (negated (certain_equal a b))
range_computed If a b c = picked (range_decided a) b c

abbrev pub range_applied : Operator → Mark → Mark → Mark → Mark
range_applied o a b c = cond (operands range_fits o a b c) (range_computed o a b c) (unknown_of (result_of o))

-- the overlap
abbrev pub overlap : Mark → Mark → Option Mark
overlap a b = cond (int_le (int_max a.low b.low) (int_min a.high b.high)) (Some (between (int_max a.low b.low) (int_min a.high b.high))) None

-- 'any' met with a mark gives that mark
abbrev pub range_met : Mark → Mark → Option Mark
range_met a b = cond (is_range a) (cond (is_range b) (overlap a b) (Some a)) (Some b)

abbrev pub ranges : Meaning
ranges = record {
  anything = any_mark;
  marked = λ n. ranged n n;
  bounded = range_bounded;
  applied = range_applied;
  met = range_met;
  decided = range_decided;
}
