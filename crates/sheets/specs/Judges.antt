-- Judges: what a judge answers of each sheet, and the law that every judge keeps.
use Rattle.std.specs.Prelude.{◌≡◌, ℕ, Bool, true, false, ◌&&◌, List, length, take, drop, replicate, ℤ, pos, nat_le}
use Rattle.reckoning.specs.declared.mark.Mark.{Mark}
use Rattle.sheets.specs.declared.judge.Answer.{Answer}
use Rattle.sheets.specs.declared.judge.Answer.TheVariants.{Pass, Fail, Unsure}
use Rattle.sheets.specs.Sheets.{Condition, Keeps}
use Rattle.sheets.specs.Valuations.{Falsifies}

-- the answer to a sheet, with the valuation that is proposed where it fails
pub data Opinion : Type 0 where
  passed : Opinion
  failed : List ℤ → Opinion
  unsure : Opinion

-- it passes only what no valuation falsifies
abbrev pub Sound : (Condition → Opinion) → Type 0
Sound meaning = (c : Condition) → Keeps c → meaning c ≡ passed → (v : List ℤ) → Falsifies c v → ⊥

-- what a judge tells of a sheet with so many cells, and what the valuation buffer then begins with: a proposal, or 0 for each cell
abbrev pub Told : ℕ → Opinion → Answer → List ℤ → Type 0
Told cells passed a begun = (a ≡ Pass) × (begun ≡ replicate cells (pos 0))
Told cells (failed w) a begun = (a ≡ Fail) × (begun ≡ w) × (length w ≡ cells)
Told cells unsure a begun = (a ≡ Unsure) × (begun ≡ replicate cells (pos 0))

-- a valuation buffer has room for so many cells, and there are so many working marks
abbrev pub has_room : ℕ → ℕ → List ℤ → List Mark → Bool
has_room cells marks v w = nat_le cells (length v) && nat_le marks (length w)

-- what a judge does that is asked with a valuation buffer and working marks: without room it is unsure and touches neither
pub record Replied (o : Opinion) (cells marks : ℕ) (v : List ℤ) (w : List Mark) (a : Answer) (after : List ℤ) (left : List Mark) : Type 0 where
  pub told : has_room cells marks v w ≡ true → Told cells o a (take cells after)
  pub short : has_room cells marks v w ≡ false → (a ≡ Unsure) × (after ≡ v) × (left ≡ w)
  pub rest : drop cells after ≡ drop cells v
  pub working : length left ≡ length w
