-- What the judges of the trials answer, and that they keep the law.
use Rattle.std.specs.Prelude.{◌≡◌, ℕ, Bool, true, false, List, ℤ, length, replicate, pos, nat_eq}
use Rattle.std.proofs.Common.{arith}
use Rattle.sheets.specs.Sheets.{Condition}
use Rattle.sheets.specs.Judges.{Opinion, passed, failed, unsure, Sound}

abbrev pub never_knows : Condition → Opinion
never_knows c = unsure

pub never_passes : Sound never_knows
never_passes c kept e v f = let z : ◌≡◌ {A = ℕ} 0 1 = cc in omega arith

-- 7 for each cell, whatever its bounds
abbrev pub all_seven : Condition → Opinion
all_seven c = failed (replicate (length c.cells) (pos 7))

pub seven_never_passes : Sound all_seven
seven_never_passes c kept e v f = let z : ◌≡◌ {A = ℕ} 0 1 = cc in omega arith

-- these numbers for each sheet of four cells
abbrev pub failed_if : Bool → List ℤ → Opinion
failed_if true numbers = failed numbers
failed_if false numbers = unsure

abbrev pub proposes : List ℤ → Condition → Opinion
proposes numbers c = failed_if (nat_eq (length c.cells) 4) numbers

proposal_is_no_pass : (b : Bool) (numbers : List ℤ) → failed_if b numbers ≡ passed → ◌≡◌ {A = ℕ} 0 1
proposal_is_no_pass true numbers e = cc
proposal_is_no_pass false numbers e = cc

pub proposer_never_passes : (numbers : List ℤ) → Sound (proposes numbers)
proposer_never_passes numbers c kept e v f = let z = proposal_is_no_pass (nat_eq (length c.cells) 4) numbers e in omega arith
