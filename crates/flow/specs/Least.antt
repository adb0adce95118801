-- The least place of which something holds, if there is one.
use Rattle.std.specs.Prelude.{ℕ, ◌<◌, Some, None, Option}

abbrev pub Least : (ℕ → Type 0) → Option ℕ → Type 0
Least P None = (i : ℕ) → P i → ⊥
Least P (Some i) = P i × ((j : ℕ) → j < i → P j → ⊥)
