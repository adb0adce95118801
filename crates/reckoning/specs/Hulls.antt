-- What an operator over ranges comes to: the least to the greatest result over all choices.
use Rattle.std.specs.Prelude.{◌≡◌, Bool, true, ℤ, ◌≤ℤ◌, ◌≢◌}
use Rattle.terms.specs.declared.operator.Operator.{Operator}
use Rattle.terms.specs.declared.operator.Operator.TheVariants.{Divi, Mod}
use Rattle.terms.specs.Operators.{result_of, operands}
use Rattle.terms.specs.Numbers.{computed}
use Rattle.reckoning.specs.declared.mark.Mark.{Mark}
use Rattle.reckoning.specs.Kinds.{Choice}
use Rattle.reckoning.specs.Ranges.{is_range, range_holds, ranged, unknown_of}

-- no operand of the operator is 'any'
abbrev pub bounded : Operator → Mark → Mark → Mark → Bool
bounded o a b c = operands (λ s m. is_range m) o a b c

abbrev pub Holds : Mark → ℤ → Type 0
Holds m n = range_holds m n ≡ true

-- a choice with this result
pub record Reached (o : Operator) (a b c : Mark) (n : ℤ) : Type 0 where
  pub x : ℤ
  pub y : ℤ
  pub z : ℤ
  pub choice : Choice Holds o a b c x y z
  pub result : computed o x y z ≡ n

-- the least and the greatest result: each end is reached by a choice, and no choice lies outside
pub record Hull (o : Operator) (a b c : Mark) (low high : ℤ) : Type 0 where
  pub bottom : Reached o a b c low
  pub top : Reached o a b c high
  pub above : (x y z : ℤ) → Choice Holds o a b c x y z → low ≤ℤ computed o x y z
  pub below : (x y z : ℤ) → Choice Holds o a b c x y z → computed o x y z ≤ℤ high

-- the range from the least to the greatest result; without a choice, or with an 'any' operand, what is known of no result
pub record Tight (o : Operator) (a b c m : Mark) : Type 0 where
  pub hull : bounded o a b c ≡ true → (n : ℤ) → Reached o a b c n → (low : ℤ) × (high : ℤ) × Hull o a b c low high × (m ≡ ranged low high)
  pub lost : (bounded o a b c ≡ true → (n : ℤ) → Reached o a b c n → ⊥) → m ≡ unknown_of (result_of o)

-- of every operator but the two that are only bounded by their dividend
abbrev pub Tightly : Operator → Mark → Mark → Mark → Mark → Type 0
Tightly o a b c m = (o ≢ Divi) → (o ≢ Mod) → Tight o a b c m
