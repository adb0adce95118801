-- Turns: a statement on the way along a path, and which of the ways that go on from it is wanted.
use Rattle.std.specs.Prelude.{◌≡◌, ℕ, ◌<◌, ◌≤◌, List, [], ◌∷◌, length, Some, None, Option, slice_index_or}
use Rattle.flow.specs.declared.step.Step.{Step}
use Rattle.flow.specs.declared.turn.Turn.{Turn}
use Rattle.std.specs.List.{flat_map}
use Rattle.flow.specs.Numbers.{onward, ways_from, paths, nth}

-- the way that a turn tells, or no place at all where there is no such way
abbrev pub told : List Step → Turn → List ℕ
told u t = slice_index_or (ways_from u t.place) t.number []

abbrev pub tail : List ℕ → List ℕ
tail [] = []
tail (i ∷ rest) = rest

-- a turn tells a way, which begins at the turn's own place
pub record Tells (u : List Step) (t : Turn) : Type 0 where
  pub inside : t.place < length u
  pub begins : told u t ≡ t.place ∷ tail (told u t)

-- the turn that tells the path with the number k; none where there is no such path
abbrev pub Starts : List Step → ℕ → Option Turn → Type 0
Starts u k None = length (paths u) ≤ k
Starts u k (Some t) = (k < length (paths u)) × (told u t ≡ nth u k) × Tells u t

-- the turn that tells the rest of a way after its first place; none where there is no rest
abbrev pub Follows : List Step → Turn → Option Turn → Type 0
Follows u t None = tail (told u t) ≡ []
Follows u t (Some next) = (told u t ≡ t.place ∷ told u next) × Tells u next

-- a turn within the ways of a statement
pub record Stands (u : List Step) (t : Turn) : Type 0 where
  pub inside : t.place < length u
  pub known : t.number < length (ways_from u t.place)

-- of all ways that go on from a place, or start, the k-th is that of the turn; or there are not so many
abbrev pub Picked : List Step → Option ℕ → ℕ → Option Turn → Type 0
Picked u from k None = length (flat_map (ways_from u) (onward u from)) ≤ k
Picked u from k (Some t) = Stands u t × (told u t ≡ slice_index_or (flat_map (ways_from u) (onward u from)) k []) × (k < length (flat_map (ways_from u) (onward u from)))
