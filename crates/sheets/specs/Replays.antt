-- Replay: what it tells of a valuation.
use Rattle.std.specs.Prelude.{◌≡◌, ℕ, ◌<◌, ◌≤◌, ◌↔◌, Bool, true, false, List, length, map, take, ℤ, Ok, Err, Result}
use Rattle.jcode.specs.declared.refusal.Refusal.TheVariants.{Buffer, Valuation}
use Rattle.reckoning.specs.declared.mark.Mark.{Mark}
use Rattle.sheets.specs.declared.fault.SheetFault.{SheetFault}
use Rattle.sheets.specs.declared.sheet.Sheet.{Sheet}
use Rattle.sheets.specs.Faults.{refused}
use Rattle.sheets.specs.Places.{cells_in, says, marks_for}
use Rattle.sheets.specs.Valuations.{is_within, Falsifies}

-- the first numbers of a buffer, one for each cell
abbrev pub first_numbers : Sheet → List ℤ → List ℤ
first_numbers s v = take (length (cells_in s)) v

-- too few working marks are refused, then a valuation that is short or outside the bounds; else it tells whether the valuation falsifies the sheet
pub record Replayed (s : Sheet) (v : List ℤ) (marks : ℕ) (r : Result Bool SheetFault) : Type 0 where
  pub short : marks < marks_for s → r ≡ Err (refused Buffer)
  pub outside : marks_for s ≤ marks → is_within (cells_in s) (first_numbers s v) ≡ false → r ≡ Err (refused Valuation)
  pub told : marks_for s ≤ marks → is_within (cells_in s) (first_numbers s v) ≡ true → (b : Bool) × (r ≡ Ok b) × ((b ≡ true) ↔ Falsifies (says s) (first_numbers s v))

-- the numbers that marks are the points of
abbrev pub numbers_in : List Mark → List ℤ
numbers_in ms = map (λ m. m.low) ms
