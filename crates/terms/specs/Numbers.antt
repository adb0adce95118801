-- What the operators compute over whole numbers, with true as 1 and false as 0.
use Rattle.std.specs.Prelude.{suc, ◌/◌, ◌%◌, Bool, true, false, cond, not, ◌&&◌, ◌||◌, ℤ, pos, negsuc, ◌+ℤ◌, ◌-ℤ◌, ◌*ℤ◌, neg_ℤ, Some, None, Option, ◌==◌, int_le, int_lt, unsigned_abs}
use Rattle.std.specs.Int.{int_max, int_min}
use Rattle.terms.specs.declared.operator.Operator.{Operator}
use Rattle.terms.specs.declared.operator.Operator.TheVariants.{Addi, Subi, Negi, Mul, Divi, Mod, Odd, Gei, Lei, Gti, Lti, Mini, Maxi, True, False, And, Or, Not, Implies, Impliedby, Notimplies, Notimpliedby, Equal, Notequal, If}

-- the span, from -2000000000 to 2000000000
abbrev pub least : ℤ
least = negsuc 1999999999

abbrev pub greatest : ℤ
greatest = pos 2000000000

abbrev pub in_span : ℤ → Bool
in_span z = int_le least z && int_le z greatest

-- the number, where it lies in the span
abbrev pub spanned : ℤ → Option ℤ
spanned z = cond (in_span z) (Some z) None

-- rounded toward zero, and 0 for the divisor 0
abbrev pub quotient : ℤ → ℤ → ℤ
quotient (pos a) (pos b) = pos (a / b)
quotient (pos a) (negsuc b) = neg_ℤ (pos (a / suc b))
quotient (negsuc a) (pos b) = neg_ℤ (pos (suc a / b))
quotient (negsuc a) (negsuc b) = pos (suc a / suc b)

abbrev pub remainder : ℤ → ℤ → ℤ
remainder a b = a -ℤ b *ℤ quotient a b

abbrev pub odd : ℤ → Bool
odd z = unsigned_abs z % 2 == 1

abbrev pub same_number : ℤ → ℤ → Bool
same_number a b = int_le a b && int_le b a

-- a truth as a number, and the truth of a number
abbrev pub truth : Bool → ℤ
truth b = cond b (pos 1) (pos 0)

abbrev pub holds : ℤ → Bool
holds z = same_number z (pos 1)

-- if the first holds, so does the second
abbrev pub implied : ℤ → ℤ → Bool
implied a b = not (holds a) || holds b

-- an operator ignores what stands past its last operand
abbrev pub computed : Operator → ℤ → ℤ → ℤ → ℤ
computed Addi a b c = a +ℤ b
computed Subi a b c = a -ℤ b
computed Negi a b c = neg_ℤ a
computed Mul a b c = a *ℤ b
computed Divi a b c = quotient a b
computed Mod a b c = remainder a b
computed Odd a b c = truth (odd a)
computed Gei a b c = truth (int_le b a)
computed Lei a b c = truth (int_le a b)
computed Gti a b c = truth (int_lt b a)
computed Lti a b c = truth (int_lt a b)
computed Mini a b c = int_min a b
computed Maxi a b c = int_max a b
computed True a b c = truth true
computed False a b c = truth false
computed And a b c = truth (holds a && holds b)
computed Or a b c = truth (holds a || holds b)
computed Not a b c = truth (not (holds a))
computed Implies a b c = truth (implied a b)
computed Impliedby a b c = truth (implied b a)
computed Notimplies a b c = truth (not (implied a b))
computed Notimpliedby a b c = truth (not (implied b a))
computed Equal a b c = truth (same_number a b)
computed Notequal a b c = truth (not (same_number a b))
computed If a b c = cond (holds a) b c
