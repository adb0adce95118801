-- Which rows write one term, and how deep it nests.
use Rattle.std.specs.Prelude.{ℕ, ◌+◌, max, Bool, true, false, cond, List, [], ◌∷◌, Some, None, Option, nat_lt}
use Rattle.terms.specs.declared.operator.Operands.{Operands}
use Rattle.terms.specs.declared.operator.Operands.TheVariants.{None as Nothing, One, Two, Three}
use Rattle.terms.specs.declared.row.Row.{Row}
use Rattle.terms.specs.Operators.{signature_of}
use Rattle.terms.specs.Terms.{Algebra, fold}

abbrev pub deeper : Option ℕ → Option ℕ → Option ℕ
deeper None b = None
deeper (Some m) None = None
deeper (Some m) (Some n) = Some (max m n)

-- the deepest of an operator's own operands, none if one of them is not there
abbrev pub deepest : Operands → Option ℕ → Option ℕ → Option ℕ → Option ℕ
deepest Nothing a b c = Some 0
deepest (One s) a b c = a
deepest (Two s t) a b c = deeper a b
deepest (Three s t u) a b c = deeper a (deeper b c)

-- one more, where that does not pass the limit
abbrev pub raised : ℕ → Option ℕ → Option ℕ
raised limit None = None
raised limit (Some n) = cond (nat_lt n limit) (Some (n + 1)) None

-- the nesting of a term: a row alone has 1, and an operator one more than the deepest of its operands
abbrev pub nesting : {M : Type 0} → ℕ → Algebra M (Option ℕ)
nesting limit = record {
  constant = λ z. raised limit (Some 0);
  mention = λ m. raised limit (Some 0);
  operator = λ o a b c. raised limit (deepest (signature_of o).operands a b c);
  absent = None;
}

abbrev pub single : List (Option ℕ) → Bool
single [] = false
single (None ∷ ns) = false
single (Some n ∷ []) = true
single (Some n ∷ m ∷ ns) = false

-- the rows write exactly one term, and its nesting is at most the limit
abbrev pub writes_term : {M : Type 0} → ℕ → List (Row M) → Bool
writes_term limit rs = single (fold (nesting limit) rs)
