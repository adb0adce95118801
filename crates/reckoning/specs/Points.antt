-- The reckoning by points: one number of the span, or any number.
use Rattle.std.specs.Prelude.{Bool, cond, not, ◌&&◌, ◌||◌, ℤ, pos, Some, None, Option}
use Rattle.terms.specs.declared.operator.Operator.{Operator}
use Rattle.terms.specs.declared.kind.Sort.{Sort}
use Rattle.terms.specs.Numbers.{in_span, spanned, same_number, computed}
use Rattle.reckoning.specs.declared.mark.Mark.{Mark}
use Rattle.terms.specs.Operators.{operands}
use Rattle.reckoning.specs.Kinds.{of_sort}
use Rattle.reckoning.specs.Decisions.{decision}
use Rattle.reckoning.specs.Reckonings.{Meaning}

-- equal bounds in the span are a point, and every other pair is 'any'
abbrev pub is_point : Mark → Bool
is_point m = same_number m.low m.high && in_span m.low

-- a point covers its number, 'any' covers all
abbrev pub point_holds : Mark → ℤ → Bool
point_holds m n = not (is_point m) || same_number m.low n

-- the 'any' that is answered
abbrev pub any_mark : Mark
any_mark = record { low = pos 1; high = pos 0 }

abbrev pub point_or : Option ℤ → Mark
point_or None = any_mark
point_or (Some n) = record { low = n; high = n }

abbrev pub point : ℤ → Mark
point n = point_or (spanned n)

abbrev pub point_number : Mark → Option ℤ
point_number m = cond (is_point m) (Some m.low) None

-- an operand that is a point, and a truth where the operator takes one
abbrev pub point_fits : Sort → Mark → Bool
point_fits s m = is_point m && of_sort s m.low

abbrev pub point_applied : Operator → Mark → Mark → Mark → Mark
point_applied o a b c = cond (operands point_fits o a b c) (point (computed o a.low b.low c.low)) any_mark

abbrev pub point_bounded : ℤ → ℤ → Mark
point_bounded low high = cond (same_number low high) (point low) any_mark

-- 'any' met with a mark gives that mark, and two points meet if they are the same
abbrev pub point_met : Mark → Mark → Option Mark
point_met a b = cond (is_point a) (cond (point_holds b a.low) (Some a) None) (Some b)

abbrev pub points : Meaning
points = record {
  anything = any_mark;
  marked = point;
  bounded = point_bounded;
  applied = point_applied;
  met = point_met;
  decided = λ m. decision (point_holds m (pos 1)) (point_holds m (pos 0));
}
