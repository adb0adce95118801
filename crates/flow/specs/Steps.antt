-- Steps, and which are the successors of which.
use Rattle.std.specs.Prelude.{◌≡◌, ℕ, ◌+◌, ◌<◌, Bool, true, false, List, length, ◌==◌, slice_index_or}
use Rattle.flow.specs.declared.step.Step.{Step}
use Rattle.flow.specs.declared.step.Step.TheVariants.{Hang, Break, Require, Plain, Split, When, Branch, Join}

-- the statement at a place; past the last one there is nothing to go on to
abbrev pub at : List Step → ℕ → Step
at u i = slice_index_or u i Hang

abbrev pub is_break : Step → Bool
is_break Hang = false
is_break Break = true
is_break Require = false
is_break Plain = false
is_break (Split l) = false
is_break (When l) = false
is_break (Branch l) = false
is_break (Join l) = false

abbrev pub is_require : Step → Bool
is_require Hang = false
is_require Break = false
is_require Require = true
is_require Plain = false
is_require (Split l) = false
is_require (When l) = false
is_require (Branch l) = false
is_require (Join l) = false

-- a WHEN, or a JOIN, with the label x
abbrev pub is_when : ℕ → Step → Bool
is_when x Hang = false
is_when x Break = false
is_when x Require = false
is_when x Plain = false
is_when x (Split l) = false
is_when x (When l) = l == x
is_when x (Branch l) = false
is_when x (Join l) = false

abbrev pub is_join : ℕ → Step → Bool
is_join x Hang = false
is_join x Break = false
is_join x Require = false
is_join x Plain = false
is_join x (Split l) = false
is_join x (When l) = false
is_join x (Branch l) = false
is_join x (Join l) = l == x

-- what closes its block, and what opens the next
abbrev pub closes : Step → Bool
closes Hang = true
closes Break = false
closes Require = false
closes Plain = false
closes (Split l) = true
closes (When l) = false
closes (Branch l) = true
closes (Join l) = false

abbrev pub opens : Step → Bool
opens Hang = false
opens Break = false
opens Require = false
opens Plain = false
opens (Split l) = false
opens (When l) = true
opens (Branch l) = false
opens (Join l) = true

-- a SPLIT leads to its WHENs, a BRANCH to its JOIN, a HANG nowhere, and all others to the next statement:
-- whether s at place i leads to t at place j
abbrev pub leads : ℕ → Step → ℕ → Step → Bool
leads i Hang j t = false
leads i (Split l) j t = is_when l t
leads i (Branch l) j t = is_join l t
leads i Break j t = j == i + 1
leads i Require j t = j == i + 1
leads i Plain j t = j == i + 1
leads i (When l) j t = j == i + 1
leads i (Join l) j t = j == i + 1

-- j is a successor of i
abbrev pub Next : List Step → ℕ → ℕ → Type 0
Next u i j = (j < length u) × (leads i (at u i) j (at u j) ≡ true)

-- j is reached from i by one successor or more
pub data Reach (u : List Step) : ℕ → ℕ → Type 0 where
  one : {i j : ℕ} → Next u i j → Reach u i j
  onto : {i j k : ℕ} → Reach u i j → Next u j k → Reach u i k

abbrev pub OnCircle : List Step → ℕ → Type 0
OnCircle u i = Reach u i i

-- no statement reaches itself
abbrev pub Acyclic : List Step → Type 0
Acyclic u = (i : ℕ) → OnCircle u i → ⊥
