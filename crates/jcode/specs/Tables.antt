-- Tables that are written one record after another.
use Rattle.std.specs.Prelude.{ℕ, ◌+◌, cond, List, [], ◌∷◌, nat_lt, slice_set}
use Rattle.jcode.specs.declared.refusal.Refusal.{Refusal}
use Rattle.jcode.specs.declared.refusal.Refusal.TheVariants.{Limit, Table}

-- the table with these records written from place i on
abbrev pub put : {X : Type 0} → List X → ℕ → List X → List X
put xs i [] = xs
put xs i (y ∷ ys) = put (slice_set xs i y) (i + 1) ys

-- one record more than a table of this length can take passes the limit, or the table is too short
abbrev pub full_by : ℕ → ℕ → Refusal
full_by table limit = cond (nat_lt table limit) Table Limit
