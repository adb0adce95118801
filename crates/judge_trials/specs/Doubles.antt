-- What the judges of the trials answer, and that they keep the law.
use Rattle.std.specs.Prelude.{◌≡◌, ℕ, length, replicate, pos}
use Rattle.std.proofs.Common.{arith}
use Rattle.sheets.specs.Sheets.{Condition}
use Rattle.sheets.specs.Judges.{Opinion, failed, Sound}

-- 0 for each cell, whatever its bounds
abbrev pub all_zero : Condition → Opinion
all_zero c = failed (replicate (length c.cells) (pos 0))

pub zero_never_passes : Sound all_zero
zero_never_passes c kept e v f = let z : ◌≡◌ {A = ℕ} 0 1 = cc in omega arith
