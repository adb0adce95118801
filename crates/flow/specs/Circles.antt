-- The marks by which it is found what a statement reaches.
use Rattle.std.specs.Prelude.{◌≡◌, ℕ, ◌<◌, Bool, cond, ◌≢◌, List, length, Some, None, Option, nat_lt, ◌&&◌, slice_index_or}
use Rattle.flow.specs.declared.step.Step.{Step}
use Rattle.flow.specs.declared.circle.Mark.{Mark}
use Rattle.flow.specs.declared.circle.Mark.TheVariants.{Unseen, Seen, Done}
use Rattle.flow.specs.Steps.{at, leads}

-- the mark at a place; past the last one nothing is seen
abbrev pub mark_at : List Mark → ℕ → Mark
mark_at marks j = slice_index_or marks j Unseen

-- a statement's mark where control comes to it, or doesn't
abbrev pub reached : Mark → Bool → Mark
reached Unseen comes = cond comes Seen Unseen
reached Seen comes = Seen
reached Done comes = Done

-- control goes on from i to j
abbrev pub comes : List Step → ℕ → ℕ → Bool
comes u i j = nat_lt j (length u) && leads i (at u i) j (at u j)

-- the successors of i are seen, and all others are what they were
abbrev pub Spread : List Step → ℕ → List Mark → List Mark → Type 0
Spread u i old new = (j : ℕ) → mark_at new j ≡ reached (mark_at old j) (comes u i j)

-- a statement that is seen and not done, if there is one
abbrev pub Pending : List Step → List Mark → Option ℕ → Type 0
Pending u marks None = (j : ℕ) → j < length u → mark_at marks j ≢ Seen
Pending u marks (Some j) = (j < length u) × (mark_at marks j ≡ Seen)
