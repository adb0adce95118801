-- What an operator gives is of its result's sort.
use Rattle.std.specs.Prelude.{◌≡◌, Bool, true, false, not, ◌&&◌, ◌||◌, ℤ, int_le, int_lt, refl}
use Rattle.terms.specs.declared.operator.Operator.{Operator}
use Rattle.terms.specs.declared.operator.Operator.TheVariants.{Addi, Subi, Negi, Mul, Divi, Mod, Odd, Gei, Lei, Gti, Lti, Mini, Maxi, True, False, And, Or, Not, Implies, Impliedby, Notimplies, Notimpliedby, Equal, Notequal, If}
use Rattle.terms.specs.Operators.{result_of}
use Rattle.terms.specs.Numbers.{truth, holds, odd, same_number, implied, computed}
use Rattle.reckoning.specs.Kinds.{is_truth, of_sort}

truth_is : (b : Bool) → is_truth (truth b) ≡ true
truth_is true = refl
truth_is false = refl

-- what an operator gives is of its result's sort, whatever it is given
pub result_sort : (o : Operator) (x y z : ℤ) → of_sort (result_of o) (computed o x y z) ≡ true
result_sort Addi x y z = refl
result_sort Subi x y z = refl
result_sort Negi x y z = refl
result_sort Mul x y z = refl
result_sort Divi x y z = refl
result_sort Mod x y z = refl
result_sort Odd x y z = truth_is (odd x)
result_sort Gei x y z = truth_is (int_le y x)
result_sort Lei x y z = truth_is (int_le x y)
result_sort Gti x y z = truth_is (int_lt y x)
result_sort Lti x y z = truth_is (int_lt x y)
result_sort Mini x y z = refl
result_sort Maxi x y z = refl
result_sort True x y z = refl
result_sort False x y z = refl
result_sort And x y z = truth_is (holds x && holds y)
result_sort Or x y z = truth_is (holds x || holds y)
result_sort Not x y z = truth_is (not (holds x))
result_sort Implies x y z = truth_is (implied x y)
result_sort Impliedby x y z = truth_is (implied y x)
result_sort Notimplies x y z = truth_is (not (implied x y))
result_sort Notimpliedby x y z = truth_is (not (implied y x))
result_sort Equal x y z = truth_is (same_number x y)
result_sort Notequal x y z = truth_is (not (same_number x y))
result_sort If x y z = refl
