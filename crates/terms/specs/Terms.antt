-- Terms: rows in Polish notation, and the one fold that reads them.
use Rattle.std.specs.Prelude.{◌≡◌, ℕ, ◌+◌, ◌-◌, ◌<◌, ◌≤◌, ◌⊎◌, max, cond, List, [], ◌∷◌, map, length, take, drop, ℤ, pos, Some, None, Option, Ok, Err, Result, nat_le, slice_index_or}
use Rattle.std.specs.List.{slice_get}
use Rattle.terms.specs.declared.fold.Full.{Full}
use Rattle.terms.specs.declared.operator.Operator.{Operator}
use Rattle.terms.specs.declared.row.Row.{Row}
use Rattle.terms.specs.declared.row.Row.TheVariants.{Constant, Mention, Operator as Applied}
use Rattle.terms.specs.Operators.{arity}
use Rattle.terms.specs.Numbers.{computed}

-- what is made of a constant, of a mention, and of an operator over three operands; `absent` stands for an operand that is not there
pub record Algebra (M X : Type 0) : Type 0 where
  pub constant : ℤ → X
  pub mention : M → X
  pub operator : Operator → X → X → X → X
  pub absent : X

-- one row read onto the stack: an operator takes its operands from the top, the first operand topmost
abbrev pub onto : {M X : Type 0} → Algebra M X → Row M → List X → List X
onto g (Constant z) stack = g.constant z ∷ stack
onto g (Mention m) stack = g.mention m ∷ stack
onto g (Applied o) stack = g.operator o (slice_index_or stack 0 g.absent) (slice_index_or stack 1 g.absent) (slice_index_or stack 2 g.absent) ∷ drop (arity o) stack

-- the stack that rows leave, read from the last to the first
abbrev pub fold : {M X : Type 0} → Algebra M X → List (Row M) → List X
fold g [] = []
fold g (r ∷ rs) = onto g r (fold g rs)

-- how many entries rows leave on the stack
abbrev pub height : {M : Type 0} → List (Row M) → ℕ
height [] = 0
height (Constant z ∷ rs) = height rs + 1
height (Mention m ∷ rs) = height rs + 1
height (Applied o ∷ rs) = height rs - arity o + 1

-- how many entries it takes to read them: each row finds one that is free
abbrev pub entries_for : {M : Type 0} → List (Row M) → ℕ
entries_for [] = 0
entries_for (r ∷ rs) = max (entries_for rs) (height rs + 1)

-- a call puts an entry on the stack that stands from `top` on, in the place of so many, and leaves what stands before the place in front of it; with no such place it does nothing
abbrev pub Replaced : {X : Type 0} → ℕ → X → List X → ℕ → Result X Full → List X → ℕ → Type 0
Replaced taken x before top (Err _) after next = (top ≡ 0) × (after ≡ before) × (next ≡ top)
Replaced taken x before top (Ok y) after next =
    (y ≡ x) × (length after ≡ length before) × (top ≤ next + 1) × (next < length before) × (drop next after ≡ x ∷ drop taken (drop top before)) × (take (top - 1) after ≡ take (top - 1) before)

-- a call reads one row onto the stack that stands from `top` on, tells the newest entry, and leaves what stands before the place in front of it; with no such place it does nothing
abbrev pub FoldedRow : {M X : Type 0} → Algebra M X → Row M → List X → ℕ → Result X Full → List X → ℕ → Type 0
FoldedRow g r before top (Err _) after next = (top ≡ 0) × (after ≡ before) × (next ≡ top)
FoldedRow g r before top (Ok x) after next =
    (0 < top) × (slice_get (onto g r (drop top before)) 0 ≡ Some x) × (length after ≡ length before) × (top ≤ next + 1) × (next < length before) × (drop next after ≡ onto g r (drop top before)) × (take (top - 1) after ≡ take (top - 1) before)

-- the same for a stack that is told by its place alone: the call tells where it begins then, or nothing if there is no place in front of it or it begins past the entries
abbrev pub FoldedRowAt : {M X : Type 0} → Algebra M X → Row M → List X → ℕ → Option ℕ → List X → Type 0
FoldedRowAt g r before top None after = ((top ≡ 0) ⊎ (length before < top)) × (after ≡ before)
FoldedRowAt g r before top (Some t) after =
    (0 < top) × (top ≤ length before) × (top ≤ t + 1) × (t < length before) × (drop t after ≡ onto g r (drop top before)) × (take (top - 1) after ≡ take (top - 1) before)

-- a call reads rows onto a stack that stands from `top` on, at the end of its entries, and leaves those alone that it does not take; with too few of them it tells nothing
abbrev pub Folded : {M X : Type 0} → Algebra M X → List (Row M) → List X → Option ℕ → List X → Type 0
Folded g rs before None after = length before < entries_for rs
Folded g rs before (Some top) after =
    (entries_for rs ≤ length before) × (top ≤ length after) × (drop top after ≡ fold g rs) × (take (length before - entries_for rs) after ≡ take (length before - entries_for rs) before)

-- a call that works out so many rows in lent entries leaves all but the last of them as they were, and all of them where they are fewer than the rows
pub record Worked {X : Type 0} (rows : ℕ) (before after : List X) : Type 0 where
  pub others : take (length before - rows) after ≡ take (length before - rows) before
  pub unread : length before < rows → after ≡ before

-- what the first row of a term comes to
abbrev pub outcome : {M X : Type 0} → Algebra M X → List (Row M) → X
outcome g rs = slice_index_or (fold g rs) 0 g.absent

-- with fewer entries than it takes, nothing is told
abbrev pub newest_in : {M X : Type 0} → Algebra M X → List (Row M) → ℕ → X
newest_in g rs room = cond (nat_le (entries_for rs) room) (outcome g rs) g.absent

-- with room for fewer entries than rows, nothing is read
abbrev pub outcome_in : {M X : Type 0} → Algebra M X → List (Row M) → ℕ → X
outcome_in g rs room = cond (nat_le (length rs) room) (outcome g rs) g.absent

-- whole numbers, where the mention m has the number `env m`
abbrev pub numbered : {M : Type 0} → (M → ℤ) → Algebra M ℤ
numbered env = record { constant = λ z. z; mention = env; operator = computed; absent = pos 0 }

-- the number of a term
abbrev pub value : {M : Type 0} → (M → ℤ) → List (Row M) → ℤ
value env rs = outcome (numbered env) rs

abbrev pub renamed : {M N : Type 0} → (M → N) → Row M → Row N
renamed f (Constant z) = Constant z
renamed f (Mention m) = Mention (f m)
renamed f (Applied o) = Applied o

-- the term with f m mentioned in the place of m
abbrev pub map_mentions : {M N : Type 0} → (M → N) → List (Row M) → List (Row N)
map_mentions f rs = map (renamed f) rs
