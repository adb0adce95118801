-- The list of all paths, in which a path stands at its number.
use Rattle.std.specs.Prelude.{◌≡◌, ℕ, zero, suc, ◌<◌, Bool, true, false, cond, List, [], ◌∷◌, ◌++◌, map, length, Some, None, Option, slice_index_or}
use Rattle.std.specs.List.{filter, flat_map, range_with_len}
use Rattle.flow.specs.declared.step.Step.{Step}
use Rattle.flow.specs.Steps.{at, is_break, leads}
use Rattle.flow.specs.Paths.{Path, Before, required}

-- where a path may go: at its start to a BREAK, and then to a successor that is none
abbrev pub may : List Step → Option ℕ → ℕ → Bool
may u None j = is_break (at u j)
may u (Some i) j = cond (is_break (at u j)) false (leads i (at u i) j (at u j))

-- where it may go, ascending
abbrev pub onward : List Step → Option ℕ → List ℕ
onward u from = filter (may u from) (range_with_len 0 (length u))

-- the way that ends where it stands
abbrev pub here : Bool → ℕ → List (List ℕ)
here true i = (i ∷ []) ∷ []
here false i = []

-- the ways of at most f places from i to a target; at a target one ends, and others go on
abbrev pub ways : (ℕ → Bool) → ℕ → List Step → ℕ → List (List ℕ)
ways target zero u i = []
ways target (suc f) u i = here (target i) i ++ map (λ way. i ∷ way) (flat_map (ways target f u) (onward u (Some i)))

-- all ways from i, and all paths; a path has no more places than there are statements
abbrev pub ways_to : (ℕ → Bool) → List Step → ℕ → List (List ℕ)
ways_to target u = ways target (length u) u

abbrev pub paths_to : (ℕ → Bool) → List Step → List (List ℕ)
paths_to target u = flat_map (ways_to target u) (onward u None)

abbrev pub ways_from : List Step → ℕ → List (List ℕ)
ways_from u = ways_to (required u) u

abbrev pub paths : List Step → List (List ℕ)
paths u = paths_to (required u) u

-- the path with the number k
abbrev pub nth : List Step → ℕ → List ℕ
nth u k = slice_index_or (paths u) k []

-- the numbers below their count match the paths one to one, in their order
pub record Numbered (u : List Step) : Type 0 where
  pub each_is_path : (k : ℕ) → k < length (paths u) → Path u (nth u k)
  pub each_path_is : (p : List ℕ) → Path u p → (k : ℕ) × (k < length (paths u)) × (nth u k ≡ p)
  pub one_to_one : (j k : ℕ) → j < length (paths u) → k < length (paths u) → nth u j ≡ nth u k → j ≡ k
  pub in_order : (j k : ℕ) → j < k → k < length (paths u) → Before (nth u j) (nth u k)
