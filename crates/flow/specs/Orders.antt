-- The order of statements in blocks: SPLIT, BRANCH and HANG close a block, WHEN and JOIN open the next.
use Rattle.std.specs.Prelude.{◌≡◌, ℕ, ◌-◌, ◌<◌, false, ◌≢◌, ◌⊎◌, List, length}
use Rattle.flow.specs.declared.step.Step.{Step}
use Rattle.flow.specs.declared.step.Step.TheVariants.{Break}
use Rattle.flow.specs.Steps.{at, closes, opens}

-- the first statement is no BREAK, or there is none
abbrev pub Unopened : List Step → ℕ → Type 0
Unopened u i = (i ≡ 0) × (at u i ≢ Break)

-- a WHEN or JOIN in an open block, or any other statement after a closed one
abbrev pub Unfit : List Step → ℕ → Type 0
Unfit u i = (0 < i) × (i < length u) × (closes (at u (i - 1)) ≢ opens (at u i))

-- the end in an open block
abbrev pub Unclosed : List Step → ℕ → Type 0
Unclosed u i = (0 < i) × (i ≡ length u) × (closes (at u (i - 1)) ≡ false)

abbrev pub Misplaced : List Step → ℕ → Type 0
Misplaced u i = Unopened u i ⊎ (Unfit u i ⊎ Unclosed u i)
