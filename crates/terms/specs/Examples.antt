-- Worked examples of what operators and terms come to; `negsuc n` is -(n + 1).
use Rattle.std.specs.Prelude.{◌≡◌, ℕ, List, [], ◌∷◌, length, ℤ, pos, negsuc, ◌+ℤ◌}
use Rattle.terms.specs.declared.operator.Operator.{Operator as Op}
use Rattle.terms.specs.declared.operator.Operator.TheVariants.{Addi, Subi, Negi, Mul, Divi, Mod, Odd, Gei, Lei, Gti, Lti, Mini, Maxi, True, False, And, Or, Not, Implies, Impliedby, Notimplies, Notimpliedby, Equal, Notequal, If}
use Rattle.terms.specs.declared.row.Row.{Row}
use Rattle.terms.specs.declared.row.Row.TheVariants.{Constant, Mention, Operator}
use Rattle.terms.specs.Numbers.{computed}
use Rattle.terms.specs.Terms.{fold, numbered, value}

-- of two operands, and of one
abbrev pub of_two : Op → ℤ → ℤ → ℤ
of_two o a b = computed o a b (pos 0)

abbrev pub of_one : Op → ℤ → ℤ
of_one o a = of_two o a (pos 0)

-- of 0 and 0, 0 and 1, 1 and 0, 1 and 1
abbrev pub of_truths : Op → List ℤ
of_truths o = of_two o (pos 0) (pos 0) ∷ of_two o (pos 0) (pos 1) ∷ of_two o (pos 1) (pos 0) ∷ of_two o (pos 1) (pos 1) ∷ []

-- of -3 and 2, 2 and 2, 2 and -3
abbrev pub of_numbers : Op → List ℤ
of_numbers o = of_two o (negsuc 2) (pos 2) ∷ of_two o (pos 2) (pos 2) ∷ of_two o (pos 2) (negsuc 2) ∷ []

-- of 7 and 2, -7 and 2, 7 and -2, -7 and -2, 5 and 0
abbrev pub of_signs : Op → List ℤ
of_signs o = of_two o (pos 7) (pos 2) ∷ of_two o (negsuc 6) (pos 2) ∷ of_two o (pos 7) (negsuc 1) ∷ of_two o (negsuc 6) (negsuc 1) ∷ of_two o (pos 5) (pos 0) ∷ []

-- the mention n has the number 10 + n
abbrev pub tens : ℕ → ℤ
tens n = pos 10 +ℤ pos n

-- (if! (lti! 3 1) (subi! 5 x) (negi! 7)), with x the mention 0
abbrev pub choice : List (Row ℕ)
choice = Operator If ∷ Operator Lti ∷ Constant (pos 3) ∷ Constant (pos 1) ∷ Operator Subi ∷ Constant (pos 5) ∷ Mention 0 ∷ Operator Negi ∷ Constant (pos 7) ∷ []

pub record Examples : Type 0 where
  pub addi_gives : of_numbers Addi ≡ negsuc 0 ∷ pos 4 ∷ negsuc 0 ∷ []
  pub subi_gives : of_numbers Subi ≡ negsuc 4 ∷ pos 0 ∷ pos 5 ∷ []
  pub mul_gives : of_numbers Mul ≡ negsuc 5 ∷ pos 4 ∷ negsuc 5 ∷ []
  pub negi_gives : (of_one Negi (negsuc 2) ≡ pos 3) × (of_one Negi (pos 2) ≡ negsuc 1)
  -- a quotient rounds toward zero, by 0 it is 0, and a remainder is what it leaves
  pub divi_gives : of_signs Divi ≡ pos 3 ∷ negsuc 2 ∷ negsuc 2 ∷ pos 3 ∷ pos 0 ∷ []
  pub mod_gives : of_signs Mod ≡ pos 1 ∷ negsuc 0 ∷ pos 1 ∷ negsuc 0 ∷ pos 5 ∷ []
  pub odd_gives : (of_one Odd (negsuc 2) ≡ pos 1) × (of_one Odd (pos 2) ≡ pos 0) × (of_one Odd (pos 0) ≡ pos 0)
  pub gei_gives : of_numbers Gei ≡ pos 0 ∷ pos 1 ∷ pos 1 ∷ []
  pub lei_gives : of_numbers Lei ≡ pos 1 ∷ pos 1 ∷ pos 0 ∷ []
  pub gti_gives : of_numbers Gti ≡ pos 0 ∷ pos 0 ∷ pos 1 ∷ []
  pub lti_gives : of_numbers Lti ≡ pos 1 ∷ pos 0 ∷ pos 0 ∷ []
  pub mini_gives : of_numbers Mini ≡ negsuc 2 ∷ pos 2 ∷ negsuc 2 ∷ []
  pub maxi_gives : of_numbers Maxi ≡ pos 2 ∷ pos 2 ∷ pos 2 ∷ []
  pub true_gives : of_one True (pos 0) ≡ pos 1
  pub false_gives : of_one False (pos 0) ≡ pos 0
  pub and_gives : of_truths And ≡ pos 0 ∷ pos 0 ∷ pos 0 ∷ pos 1 ∷ []
  pub or_gives : of_truths Or ≡ pos 0 ∷ pos 1 ∷ pos 1 ∷ pos 1 ∷ []
  pub not_gives : (of_one Not (pos 0) ≡ pos 1) × (of_one Not (pos 1) ≡ pos 0)
  -- the first implies the second, is implied by it, and neither
  pub implies_gives : of_truths Implies ≡ pos 1 ∷ pos 1 ∷ pos 0 ∷ pos 1 ∷ []
  pub impliedby_gives : of_truths Impliedby ≡ pos 1 ∷ pos 0 ∷ pos 1 ∷ pos 1 ∷ []
  pub notimplies_gives : of_truths Notimplies ≡ pos 0 ∷ pos 0 ∷ pos 1 ∷ pos 0 ∷ []
  pub notimpliedby_gives : of_truths Notimpliedby ≡ pos 0 ∷ pos 1 ∷ pos 0 ∷ pos 0 ∷ []
  -- of numbers and of truths
  pub equal_gives : (of_numbers Equal ≡ pos 0 ∷ pos 1 ∷ pos 0 ∷ []) × (of_truths Equal ≡ pos 1 ∷ pos 0 ∷ pos 0 ∷ pos 1 ∷ [])
  pub notequal_gives : (of_numbers Notequal ≡ pos 1 ∷ pos 0 ∷ pos 1 ∷ []) × (of_truths Notequal ≡ pos 0 ∷ pos 1 ∷ pos 1 ∷ pos 0 ∷ [])
  pub if_gives : (computed If (pos 1) (pos 5) (pos 7) ≡ pos 5) × (computed If (pos 0) (pos 5) (pos 7) ≡ pos 7)
  -- the operands stand in written order
  pub five_less_mention : value tens (Operator Subi ∷ Constant (pos 5) ∷ Mention 0 ∷ []) ≡ negsuc 4
  pub second_chosen : value tens choice ≡ negsuc 6
  pub one_entry_left : length (fold (numbered tens) choice) ≡ 1
