-- The trier's way from try to try: what is left of the tries at each step.
use Rattle.std.specs.Prelude.{◌≡◌, ℕ, zero, suc, ◌+◌, ◌<◌, ◌≤◌, cond, List, [], ◌∷◌, ◌++◌, length, take, drop, ℤ, pos, ◌+ℤ◌, Some, None, Option, int_lt, slice_index_or, slice_set, Bool}
use Rattle.std.specs.List.{flat_map}
use Rattle.terms.specs.Terms.{value}
use Rattle.reckoning.specs.declared.mark.Mark.{Mark}
use Rattle.sheets.specs.declared.cell.Cell.{Cell}
use Rattle.sheets.specs.Sheets.{Condition, part, setting_term}
use Rattle.sheets.specs.Valuations.{cell_in, allows}
use Rattle.judges.specs.Tries.{Try, tries_from, above, ranges}

abbrev pub no_range : Mark
no_range = record { low = pos 0; high = pos 0 }

-- the numbers of a range that are still to come
abbrev pub rest : Mark → ℤ → List ℤ
rest r n = cond (int_lt n r.high) (above n r.high) []

module _ (s : Condition) (rs : List Mark) where
  -- the tries that come when those with these numbers of the first i cells are done
  abbrev pub later : ℕ → List ℤ → List Try
  later zero v = []
  later (suc i) v = flat_map (λ n. tries_from s (drop (i + 1) s.cells) (take i v ++ n ∷ [])) (rest (slice_index_or rs i no_range) (slice_index_or v i (pos 0))) ++ later i v

  -- the tries that are left where the first i cells have these numbers
  abbrev pub left : ℕ → List ℤ → List Try
  left i v = tries_from s (drop i s.cells) (take i v) ++ later i v

-- the number that a cell begins with after those of the lower cells, none where a set cell leaves its bounds
abbrev pub begun : Condition → Option ℕ → Cell → List ℤ → Option ℤ
begun s None c v = Some c.low
begun s (Some p) c v = cond (allows c (value (cell_in v) (setting_term (part s p)))) (Some (value (cell_in v) (setting_term (part s p)))) None

-- a cell that is not at the end of its range
abbrev pub is_open : List Mark → List ℤ → ℕ → Bool
is_open rs v i = int_lt (slice_index_or v i (pos 0)) (slice_index_or rs i no_range).high

-- a cell at its next number
abbrev pub stepped : List ℤ → ℕ → List ℤ
stepped v i = slice_set v i (slice_index_or v i (pos 0) +ℤ pos 1)

-- the highest of the first i cells that is not at the end of its range
abbrev pub turning : List Mark → List ℤ → ℕ → Option ℕ
turning rs v zero = None
turning rs v (suc i) = cond (is_open rs v i) (Some i) (turning rs v i)

-- a call turns that cell to its next number, and tells the place after it
abbrev pub Turned : Option ℕ → List ℤ → Option ℕ → List ℤ → Type 0
Turned None v next after = (next ≡ None) × (after ≡ v)
Turned (Some i) v next after = (next ≡ Some (i + 1)) × (after ≡ stepped v i)

-- a call gives the cells from a place on their numbers, as far as they have some: no try is left out, and where a cell has none its try ends
pub record Followed (s : Condition) (from : ℕ) (v : List ℤ) (place : ℕ) (after : List ℤ) : Type 0 where
  pub reached : place ≤ length s.cells
  pub kept : left s (ranges s.parts 0 s.cells) place after ≡ left s (ranges s.parts 0 s.cells) from v
  pub ended : place < length s.cells → left s (ranges s.parts 0 s.cells) place after ≡ None ∷ later s (ranges s.parts 0 s.cells) place after
