-- What a term comes to over a reckoning, and what that says of the term's number.
use Rattle.std.specs.Prelude.{◌≡◌, ℕ, true, cond, List, [], ◌∷◌, length, ℤ, Some, Option, nat_le}
use Rattle.std.specs.Option.{unwrap_or}
use Rattle.terms.specs.declared.row.Row.{Row}
use Rattle.terms.specs.declared.row.Row.TheVariants.{Constant, Mention, Operator as Applied}
use Rattle.terms.specs.declared.kind.Kind.{Kind}
use Rattle.terms.specs.Terms.{Algebra, outcome, value}
use Rattle.reckoning.specs.declared.mark.Mark.{Mark}
use Rattle.reckoning.specs.Kinds.{of_kind, IsKinded}
use Rattle.reckoning.specs.Reckonings.{Meaning}

-- marks, where the mark of the mention m is `found m`; an unknown mention and an operand that is not there are 'any'
abbrev pub marks_by : {M : Type 0} → Meaning → (M → Option Mark) → Algebra M Mark
marks_by r found = record { constant = r.marked; mention = λ m. unwrap_or (found m) r.anything; operator = r.applied; absent = r.anything }

abbrev pub mark_of : {M : Type 0} → Meaning → (M → Option Mark) → List (Row M) → Mark
mark_of r found rs = outcome (marks_by r found) rs

-- the mark of a term, and 'any' with room for fewer marks than the term has rows
abbrev pub evaluated : {M : Type 0} → Meaning → (M → Option Mark) → List (Row M) → ℕ → Mark
evaluated r found rs room = cond (nat_le (length rs) room) (mark_of r found rs) r.anything

-- every mention of a term has the property
abbrev pub Mentions : {M : Type 0} → (M → Type 0) → List (Row M) → Type 0
Mentions P [] = Unit {0}
Mentions P (Constant z ∷ rs) = Mentions P rs
Mentions P (Mention m ∷ rs) = P m × Mentions P rs
Mentions P (Applied o ∷ rs) = Mentions P rs

-- the number of a mention is of the mention's kind
abbrev pub Kindly : {M : Type 0} → (M → Option Kind) → (M → ℤ) → M → Type 0
Kindly at env m = (k : Kind) → at m ≡ Some k → of_kind k (env m) ≡ true

-- the mark of a mention covers its number
abbrev pub Covered : {M : Type 0} → (Mark → ℤ → Type 0) → (M → Option Mark) → (M → ℤ) → M → Type 0
Covered covers found env m = (k : Mark) → found m ≡ Some k → covers k (env m)

-- whatever kinds and numbers the mentions of a term have, a mark covers the term's number if their marks cover theirs
abbrev pub Covering : {M : Type 0} → (Mark → ℤ → Type 0) → (M → Option Mark) → List (Row M) → Mark → Type 0
Covering {M} covers found rs mark =
    (at : M → Option Kind) (env : M → ℤ) (k : Kind) → IsKinded at k rs → Mentions (Kindly at env) rs → Mentions (Covered covers found env) rs → covers mark (value env rs)
