-- The trier: which valuations it tries, in which order, and what it answers.
use Rattle.std.specs.Prelude.{◌≡◌, ◌≢◌, ◌⊎◌, ◌↔◌, ℕ, zero, suc, ◌+◌, ◌*◌, ◌<◌, ◌≤◌, Bool, true, false, cond, not, ◌&&◌, List, [], ◌∷◌, ◌++◌, length, map, ℤ, pos, ◌+ℤ◌, ◌-ℤ◌, ◌<ℤ◌, Some, None, Option, ◌==◌, filter, nat_le, unsigned_abs}
use Rattle.std.specs.List.{flat_map, list_any, slice_get, enumerate_from}
use Rattle.terms.specs.declared.row.Row.{Row}
use Rattle.terms.specs.declared.row.Row.TheVariants.{Constant, Mention, Operator as Applied}
use Rattle.terms.specs.Numbers.{same_number}
use Rattle.terms.specs.Terms.{value}
use Rattle.reckoning.specs.declared.mark.Mark.{Mark}
use Rattle.reckoning.specs.Ranges.{between}
use Rattle.sheets.specs.declared.cell.Cell.{Cell}
use Rattle.sheets.specs.Sheets.{CellTerm, Condition, Keeps, part, setting_term}
use Rattle.sheets.specs.Valuations.{cell_in, allows, Falsifies}
use Rattle.sheets.specs.Judges.{Opinion, passed, failed, unsure}

abbrev pub mentions : ℕ → Row ℕ → Bool
mentions i (Constant z) = false
mentions i (Mention j) = j == i
mentions i (Applied o) = false

-- a row of a part mentions the cell
abbrev pub occurs : List CellTerm → ℕ → Bool
occurs parts i = list_any (list_any (mentions i)) parts

-- how many numbers lie above n, up to a high that is no less
abbrev pub gap : ℤ → ℤ → ℕ
gap n high = unsigned_abs (high -ℤ n)

-- so many numbers from n on
abbrev pub ascending : ℤ → ℕ → List ℤ
ascending n zero = []
ascending n (suc more) = n ∷ ascending (n +ℤ pos 1) more

-- the numbers above n, up to a high that is no less
abbrev pub above : ℤ → ℤ → List ℤ
above n high = ascending (n +ℤ pos 1) (gap n high)

-- the greatest number that a cell is tried with: its high if no part sets it and it occurs, else its low
abbrev pub top : Bool → Option ℕ → Cell → ℤ
top occurs None c = cond occurs c.high c.low
top occurs (Some p) c = c.low

-- a try with all its numbers, or none where a set cell leaves its bounds
abbrev pub Try : Type 0
Try = Option (List ℤ)

-- the tries that go on with a cell: with what the part that sets it says by the lower cells, if that is within its bounds, else with each number from its low to its top
abbrev pub next_from : (List ℤ → List Try) → Condition → Option ℕ → Cell → List ℤ → List Try
next_from go s None c lower = flat_map (λ n. go (lower ++ n ∷ [])) (c.low ∷ above c.low (top (occurs s.parts (length lower)) None c))
next_from go s (Some p) c lower = cond (allows c (value (cell_in lower) (setting_term (part s p)))) (go (lower ++ value (cell_in lower) (setting_term (part s p)) ∷ [])) (None ∷ [])

-- the tries that begin with the numbers of the lower cells, in ascending order, the lowest cell slowest
abbrev pub tries_from : Condition → List Cell → List ℤ → List Try
tries_from s [] lower = Some lower ∷ []
tries_from s (c ∷ cs) lower = next_from (tries_from s cs) s c.set_by c lower

-- from where to where a cell is tried
abbrev pub range_of : Bool → Cell → Mark
range_of occurs c = between c.low (top occurs c.set_by c)

-- the same of each cell from i on
abbrev pub ranges : List CellTerm → ℕ → List Cell → List Mark
ranges parts i [] = []
ranges parts i (c ∷ cs) = range_of (occurs parts i) c ∷ ranges parts (i + 1) cs

-- in how many ways a number of each range can be chosen
abbrev pub ways : List Mark → ℕ
ways [] = 1
ways (r ∷ rs) = (gap r.low r.high + 1) * ways rs

-- every part but the last is true, and the last is false
abbrev pub is_refuted : List ℤ → List CellTerm → Bool
is_refuted v [] = false
is_refuted v (goal ∷ []) = same_number (value (cell_in v) goal) (pos 0)
is_refuted v (e ∷ f ∷ es) = same_number (value (cell_in v) e) (pos 1) && is_refuted v (f ∷ es)

-- the first try that is refuted
abbrev pub first : Condition → List Try → Option (List ℤ)
first s [] = None
first s (None ∷ ts) = first s ts
first s (Some v ∷ ts) = cond (is_refuted v s.parts) (Some v) (first s ts)

abbrev pub proposed : Option (List ℤ) → Opinion
proposed None = passed
proposed (Some v) = failed v

-- the first try that falsifies is proposed; with more than 65536 ways none is tried
abbrev pub trier : Condition → Opinion
trier s = cond (nat_le (ways (ranges s.parts 0 s.cells)) 65536) (proposed (first s (tries_from s s.cells []))) unsure

abbrev pub product : List ℕ → ℕ
product [] = 1
product (n ∷ ns) = n * product ns

abbrev pub is_set : Option ℕ → Bool
is_set None = false
is_set (Some p) = true

-- a cell, beside its place, that no part sets and some row mentions
abbrev pub is_free : List CellTerm → ℕ × Cell → Bool
is_free parts e = not (is_set e.1.set_by) && occurs parts e.0

-- how many choices there are of a number for each such cell: the product of how far each one's high is from its low, plus 1
abbrev pub choices : Condition → ℕ
choices s = product (map (λ e. unsigned_abs (e.1.high -ℤ e.1.low) + 1) (filter (is_free s.parts) (enumerate_from 0 s.cells)))

-- where two valuations first differ, the first has the number that is tried sooner: the lower one
abbrev pub Sooner : List ℤ → List ℤ → Type 0
Sooner v w = (i : ℕ) × ((j : ℕ) → j < i → cell_in v j ≡ cell_in w j) × (cell_in v i <ℤ cell_in w i)

-- the cells that no part sets and no row mentions are at their low
abbrev pub Idle : Condition → List ℤ → Type 0
Idle s v = (i : ℕ) (c : Cell) → slice_get s.cells i ≡ Some c → c.set_by ≡ None → occurs s.parts i ≡ false → cell_in v i ≡ c.low

-- what a judge that goes by these tries owes beyond the law
pub record Settles (meaning : Condition → Opinion) : Type 0 where
  -- whatever the condition, it is sure exactly if there are no more than 65536 choices
  pub sure : (s : Condition) → (meaning s ≢ unsure) ↔ (choices s ≤ 65536)
  -- and then there are no more than 65536 tries; a try that a set cell ends counts, too
  pub few : (s : Condition) → (meaning s ≢ unsure) → length (tries_from s s.cells []) ≤ 65536
  -- what it proposes falsifies, with each cell at its low that no part sets and no row mentions
  pub proposes : (s : Condition) → Keeps s → (v : List ℤ) → meaning s ≡ failed v → Falsifies s v × Idle s v
  -- and comes sooner than all else that does
  pub soonest : (s : Condition) → Keeps s → (v : List ℤ) → meaning s ≡ failed v → (w : List ℤ) → Falsifies s w → Idle s w → (w ≡ v) ⊎ Sooner v w
  -- where it is not unsure it passes exactly what no valuation falsifies
  pub passes : (s : Condition) → Keeps s → meaning s ≡ passed → (v : List ℤ) → Falsifies s v → ⊥
  pub passes_all : (s : Condition) → Keeps s → (meaning s ≢ unsure) → ((v : List ℤ) → Falsifies s v → ⊥) → meaning s ≡ passed
