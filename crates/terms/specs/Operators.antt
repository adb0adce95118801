-- The operator table: each operator's word, the kinds of its operands and the kind of its result. Reader, kind check and evaluator all go by it.
use Rattle.std.specs.Prelude.{ℕ, Bool, true, false, ◌&&◌, List, [], ◌∷◌, length, codes, Option}
use Rattle.terms.specs.declared.operator.Operator.{Operator}
use Rattle.terms.specs.declared.operator.Operator.TheVariants.{Addi, Subi, Negi, Mul, Divi, Mod, Odd, Gei, Lei, Gti, Lti, Mini, Maxi, True, False, And, Or, Not, Implies, Impliedby, Notimplies, Notimpliedby, Equal, Notequal, If}
use Rattle.terms.specs.declared.kind.Kind.TheVariants.{Number, Truth}
use Rattle.terms.specs.declared.kind.Sort.{Sort}
use Rattle.terms.specs.declared.kind.Sort.TheVariants.{Of, Same}
use Rattle.terms.specs.declared.operator.Operands.{Operands}
use Rattle.terms.specs.declared.operator.Operands.TheVariants.{None as Nothing, One, Two, Three}
use Rattle.terms.specs.declared.operator.Signature.{Signature}
use Rattle.terms.specs.Words.{first_with}

abbrev pub numbers : Sort
numbers = Of Number

abbrev pub truths : Sort
truths = Of Truth

abbrev arithmetic : Signature
arithmetic = record { operands = Two numbers numbers; result = numbers }

abbrev negative : Signature
negative = record { operands = One numbers; result = numbers }

abbrev parity : Signature
parity = record { operands = One numbers; result = truths }

abbrev comparison : Signature
comparison = record { operands = Two numbers numbers; result = truths }

abbrev constant : Signature
constant = record { operands = Nothing; result = truths }

abbrev connective : Signature
connective = record { operands = Two truths truths; result = truths }

abbrev negation : Signature
negation = record { operands = One truths; result = truths }

abbrev equality : Signature
equality = record { operands = Two Same Same; result = truths }

abbrev choice : Signature
choice = record { operands = Three truths Same Same; result = Same }

-- a line of the table: the word that `!` follows, and what the operator takes and gives
pub record Line : Type 0 where
  pub word : List ℕ
  pub signature : Signature

abbrev line : List ℕ → Signature → Line
line w s = record { word = w; signature = s }

abbrev pub line_of : Operator → Line
line_of Addi = line (codes "addi") arithmetic
line_of Subi = line (codes "subi") arithmetic
line_of Negi = line (codes "negi") negative
line_of Mul = line (codes "mul") arithmetic
line_of Divi = line (codes "divi") arithmetic
line_of Mod = line (codes "mod") arithmetic
line_of Odd = line (codes "odd") parity
line_of Gei = line (codes "gei") comparison
line_of Lei = line (codes "lei") comparison
line_of Gti = line (codes "gti") comparison
line_of Lti = line (codes "lti") comparison
line_of Mini = line (codes "mini") arithmetic
line_of Maxi = line (codes "maxi") arithmetic
line_of True = line (codes "true") constant
line_of False = line (codes "false") constant
line_of And = line (codes "and") connective
line_of Or = line (codes "or") connective
line_of Not = line (codes "not") negation
line_of Implies = line (codes "implies") connective
line_of Impliedby = line (codes "impliedby") connective
line_of Notimplies = line (codes "notimplies") connective
line_of Notimpliedby = line (codes "notimpliedby") connective
line_of Equal = line (codes "equal") equality
line_of Notequal = line (codes "notequal") equality
line_of If = line (codes "if") choice

abbrev pub word_of : Operator → List ℕ
word_of o = (line_of o).word

abbrev pub signature_of : Operator → Signature
signature_of o = (line_of o).signature

abbrev pub sorts : Operands → List Sort
sorts Nothing = []
sorts (One a) = a ∷ []
sorts (Two a b) = a ∷ b ∷ []
sorts (Three a b c) = a ∷ b ∷ c ∷ []

-- what it takes, in written order, and what it gives
abbrev pub operands_of : Operator → List Sort
operands_of o = sorts (signature_of o).operands

abbrev pub result_of : Operator → Sort
result_of o = (signature_of o).result

-- each operand passes the test of its sort
abbrev pub each : {X : Type 0} → (Sort → X → Bool) → List Sort → List X → Bool
each test [] xs = true
each test (s ∷ ss) [] = false
each test (s ∷ ss) (x ∷ xs) = test s x && each test ss xs

-- of the three that an operator is given, its own operands pass the test of their sorts
abbrev pub operands : {X : Type 0} → (Sort → X → Bool) → Operator → X → X → X → Bool
operands test o a b c = each test (operands_of o) (a ∷ b ∷ c ∷ [])

-- how many operands
abbrev pub arity : Operator → ℕ
arity o = length (operands_of o)

abbrev pub operators : List Operator
operators = Addi ∷ Subi ∷ Negi ∷ Mul ∷ Divi ∷ Mod ∷ Odd ∷ Gei ∷ Lei ∷ Gti ∷ Lti ∷ Mini ∷ Maxi ∷ True ∷ False ∷ And ∷ Or ∷ Not ∷ Implies ∷ Impliedby ∷ Notimplies ∷ Notimpliedby ∷ Equal ∷ Notequal ∷ If ∷ []

-- the operator of a word
abbrev pub operator_of : List ℕ → Option Operator
operator_of w = first_with word_of w operators
