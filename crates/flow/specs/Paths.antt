-- Paths, and their order.
use Rattle.std.specs.Prelude.{◌≡◌, ℕ, ◌<◌, Bool, true, ◌≢◌, ◌⊎◌, List, [], ◌∷◌}
use Rattle.flow.specs.declared.step.Step.{Step}
use Rattle.flow.specs.declared.step.Step.TheVariants.{Break}
use Rattle.flow.specs.Steps.{at, is_require, Next}

-- from i the places `rest` go by successors, through no BREAK, to a target
abbrev pub Way : (ℕ → Bool) → List Step → ℕ → List ℕ → Type 0
Way target u i [] = target i ≡ true
Way target u i (j ∷ rest) = Next u i j × (at u j ≢ Break) × Way target u j rest

-- a path goes from a BREAK by successors, through no other BREAK, to a target
abbrev pub PathTo : (ℕ → Bool) → List Step → List ℕ → Type 0
PathTo target u [] = ⊥
PathTo target u (i ∷ rest) = (at u i ≡ Break) × Way target u i rest

-- the targets are the REQUIREs
abbrev pub required : List Step → ℕ → Bool
required u i = is_require (at u i)

abbrev pub Path : List Step → List ℕ → Type 0
Path u = PathTo (required u) u

-- paths are compared from the front; one that begins another comes first
abbrev pub Before : List ℕ → List ℕ → Type 0
Before [] [] = ⊥
Before [] (j ∷ q) = Unit {0}
Before (i ∷ p) [] = ⊥
Before (i ∷ p) (j ∷ q) = (i < j) ⊎ ((i ≡ j) × Before p q)
