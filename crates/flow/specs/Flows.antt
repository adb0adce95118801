-- The steps of a flow, the only thing that is said of it.
use Rattle.std.specs.Prelude.{◌≡◌, ℕ, ◌<◌, Ok, Err, Result, List, [], ◌∷◌, ◌++◌, length, take}
use Rattle.flow.specs.declared.step.Step.{Step}
use Rattle.flow.specs.declared.flow.Flow.{Flow}
use Rattle.flow.specs.declared.flow.Full.{Full}

abbrev pub steps_in : Flow → List Step
steps_in f = take f.count f.steps

-- the most steps that a flow may have
abbrev pub most_steps : ℕ
most_steps = 200

-- steps u become v: one more at the end, or none where there is no room
abbrev pub Pushed : List Step → Step → List Step → Result (Unit {0}) Full → Type 0
Pushed u s v (Ok _) = (length u < most_steps) × (v ≡ u ++ s ∷ [])
Pushed u s v (Err _) = (length u ≡ most_steps) × (v ≡ u)
