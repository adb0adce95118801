-- Kinds: which numbers are of a kind, and the kind of a term, both by the operator table.
use Rattle.std.specs.Prelude.{◌≡◌, Bool, true, false, cond, ◌||◌, List, [], ◌∷◌, ℤ, pos, Some, None, Option}
use Rattle.terms.specs.declared.operator.Operator.{Operator}
use Rattle.terms.specs.declared.kind.Kind.{Kind}
use Rattle.terms.specs.declared.kind.Kind.TheVariants.{Number, Truth}
use Rattle.terms.specs.declared.kind.Sort.{Sort}
use Rattle.terms.specs.declared.kind.Sort.TheVariants.{Of, Same}
use Rattle.terms.specs.declared.row.Row.{Row}
use Rattle.terms.specs.Operators.{operands_of, operands, result_of}
use Rattle.terms.specs.Numbers.{same_number}
use Rattle.terms.specs.Terms.{Algebra, outcome}

-- a truth is 0 or 1
abbrev pub is_truth : ℤ → Bool
is_truth n = same_number n (pos 0) || same_number n (pos 1)

abbrev pub of_kind : Kind → ℤ → Bool
of_kind Number n = true
of_kind Truth n = is_truth n

-- places that only share a kind take any number
abbrev pub of_sort : Sort → ℤ → Bool
of_sort (Of k) n = of_kind k n
of_sort Same n = true

-- a number for each operand, of its sort and from what stands in its place
abbrev pub Chosen : {X : Type 0} → (X → ℤ → Type 0) → List Sort → List X → List ℤ → Type 0
Chosen from [] ms ns = Unit {0}
Chosen from (s ∷ ss) [] ns = ⊥
Chosen from (s ∷ ss) (m ∷ ms) [] = ⊥
Chosen from (s ∷ ss) (m ∷ ms) (n ∷ ns) = (of_sort s n ≡ true) × from m n × Chosen from ss ms ns

-- a choice of its kinds from an operator's operands; what stands past the last is free
abbrev pub Choice : {X : Type 0} → (X → ℤ → Type 0) → Operator → X → X → X → ℤ → ℤ → ℤ → Type 0
Choice from o a b c x y z = Chosen from (operands_of o) (a ∷ b ∷ c ∷ []) (x ∷ y ∷ z ∷ [])

abbrev pub alike : Kind → Kind → Bool
alike Number Number = true
alike Number Truth = false
alike Truth Number = false
alike Truth Truth = true

-- the kind that a sort asks for, where places that share a kind share this one
abbrev pub asked : Kind → Sort → Kind
asked shared (Of k) = k
asked shared Same = shared

abbrev pub is_kind : Option Kind → Kind → Bool
is_kind None k = false
is_kind (Some j) k = alike j k

abbrev pub kinds_fit : Kind → Operator → Option Kind → Option Kind → Option Kind → Bool
kinds_fit shared o a b c = operands (λ s k. is_kind k (asked shared s)) o a b c

-- the kind that an operator gives, none if its operands are not of its kinds
abbrev pub kind_given : Operator → Option Kind → Option Kind → Option Kind → Option Kind
kind_given o a b c =
    cond (kinds_fit Number o a b c) (Some (asked Number (result_of o))) (cond (kinds_fit Truth o a b c) (Some (asked Truth (result_of o))) None)

-- kinds, where the mention m has the kind `at m`; an operand that is not there has none
abbrev pub kinds : {M : Type 0} → (M → Option Kind) → Algebra M (Option Kind)
kinds at = record { constant = λ z. Some Number; mention = at; operator = kind_given; absent = None }

abbrev pub kind_of : {M : Type 0} → (M → Option Kind) → List (Row M) → Option Kind
kind_of at rs = outcome (kinds at) rs

-- every operator of the term stands before operands of its kinds
abbrev pub IsKinded : {M : Type 0} → (M → Option Kind) → Kind → List (Row M) → Type 0
IsKinded at k rs = kind_of at rs ≡ Some k
