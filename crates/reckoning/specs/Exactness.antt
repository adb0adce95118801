-- What the reckoning by points says of a term's number.
use Rattle.std.specs.Prelude.{◌≡◌, true, List, [], ◌∷◌, ℤ, Some, Option}
use Rattle.terms.specs.declared.row.Row.{Row}
use Rattle.terms.specs.declared.kind.Kind.{Kind}
use Rattle.terms.specs.Numbers.{in_span}
use Rattle.terms.specs.Terms.{value}
use Rattle.reckoning.specs.declared.mark.Mark.{Mark}
use Rattle.reckoning.specs.Kinds.{IsKinded}
use Rattle.reckoning.specs.Evaluation.{Mentions, Kindly, Covered}
use Rattle.reckoning.specs.Points.{point_holds, point}

-- the value of every row lies in the span
abbrev pub Spans : {M : Type 0} → (M → ℤ) → List (Row M) → Type 0
Spans env [] = Unit {0}
Spans env (r ∷ rs) = (in_span (value env (r ∷ rs)) ≡ true) × Spans env rs

-- where each mention is the point of its number and the value of every row lies in the span, the answer is the term's number
abbrev pub Exact : {M : Type 0} → (M → Option Mark) → List (Row M) → Option ℤ → Type 0
Exact {M} found rs answer =
    (at : M → Option Kind) (env : M → ℤ) (k : Kind) → IsKinded at k rs → Mentions (Kindly at env) rs → Mentions (λ m. found m ≡ Some (point (env m))) rs → Spans env rs → answer ≡ Some (value env rs)

-- where the mentions' marks cover their numbers, an answer is the term's number
abbrev pub Right : {M : Type 0} → (M → Option Mark) → List (Row M) → Option ℤ → Type 0
Right {M} found rs answer =
    (at : M → Option Kind) (env : M → ℤ) (k : Kind) → IsKinded at k rs → Mentions (Kindly at env) rs → Mentions (Covered (λ m n. point_holds m n ≡ true) found env) rs → (n : ℤ) → answer ≡ Some n → n ≡ value env rs
