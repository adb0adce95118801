-- Labels: what ties SPLIT to its WHENs and BRANCH to its JOIN.
use Rattle.std.specs.Prelude.{◌≡◌, ℕ, ◌<◌, ◌⊎◌, List, length}
use Rattle.flow.specs.declared.step.Step.{Step}
use Rattle.flow.specs.declared.step.Step.TheVariants.{Hang, Break, Require, Plain, Split, When, Branch, Join}
use Rattle.flow.specs.Steps.{at}

-- some statement is s, and two are
abbrev pub Has : List Step → Step → Type 0
Has u s = (i : ℕ) × (i < length u) × (at u i ≡ s)

abbrev pub HasTwo : List Step → Step → Type 0
HasTwo u s = (i : ℕ) × (j : ℕ) × (i < j) × (j < length u) × (at u i ≡ s) × (at u j ≡ s)

-- the label stands on two of SPLIT and JOIN
abbrev pub OnTwo : List Step → ℕ → Type 0
OnTwo u l = (HasTwo u (Split l) ⊎ HasTwo u (Join l)) ⊎ (Has u (Split l) × Has u (Join l))

-- a SPLIT or JOIN whose label stands on another too
abbrev pub Clashes : List Step → Step → Type 0
Clashes u Hang = ⊥
Clashes u Break = ⊥
Clashes u Require = ⊥
Clashes u Plain = ⊥
Clashes u (Split l) = OnTwo u l
Clashes u (When l) = ⊥
Clashes u (Branch l) = ⊥
Clashes u (Join l) = OnTwo u l

-- a SPLIT without two WHENs, a WHEN without a SPLIT, a BRANCH without a JOIN, a JOIN without a BRANCH
abbrev pub Unmatched : List Step → Step → Type 0
Unmatched u Hang = ⊥
Unmatched u Break = ⊥
Unmatched u Require = ⊥
Unmatched u Plain = ⊥
Unmatched u (Split l) = HasTwo u (When l) → ⊥
Unmatched u (When l) = Has u (Split l) → ⊥
Unmatched u (Branch l) = Has u (Join l) → ⊥
Unmatched u (Join l) = Has u (Branch l) → ⊥

abbrev pub Mislabelled : List Step → ℕ → Type 0
Mislabelled u i = Clashes u (at u i) ⊎ Unmatched u (at u i)
