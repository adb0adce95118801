-- How many ways lead on from each statement, clipped.
use Rattle.std.specs.Prelude.{◌≡◌, ℕ, ◌+◌, ◌<◌, ◌≤◌, min, Bool, true, false, ◌⊎◌, List, length, sum_by, Some, slice_index}
use Rattle.flow.specs.declared.step.Step.{Step}
use Rattle.flow.specs.Steps.{OnCircle}
use Rattle.flow.specs.Paths.{required}
use Rattle.flow.specs.Numbers.{onward, ways_from, paths}

-- the most paths that a unit may have
abbrev pub most : ℕ
most = 65536

-- counts go up to one more
abbrev pub limit : ℕ
limit = 65537

-- the places that pass a test lie from low on and below high
abbrev pub Enclosed : (ℕ → Bool) → ℕ → ℕ → ℕ → Type 0
Enclosed test n low high = (low ≤ n) × (high ≤ n) × ((j : ℕ) → j < n → test j ≡ true → (low ≤ j) × (j < high))

-- what the counts at some places come to
abbrev pub sum_at : List ℕ → List ℕ → ℕ
sum_at counts js = sum_by (slice_index counts) js

-- a statement's count, from those of its successors
abbrev pub ends : Bool → ℕ
ends true = 1
ends false = 0

abbrev pub clipped : List Step → List ℕ → ℕ → ℕ
clipped u counts i = min (ends (required u i) + min (sum_at counts (onward u (Some i))) limit) limit

-- each statement's count is that of its ways, clipped
abbrev pub Counted : List Step → List ℕ → Type 0
Counted u counts = (i : ℕ) → i < length u → slice_index counts i ≡ min (length (ways_from u i)) limit

-- a circle, or more paths than a unit may have
abbrev pub TooMany : List Step → Type 0
TooMany u = ((i : ℕ) × OnCircle u i) ⊎ (most < length (paths u))
