-- Guesses pass nothing, so they are lawful.
use Rattle.std.specs.Prelude.{◌≡◌, Bool, true, false, cond, List, ℤ, length, take, nat_le}
use Rattle.sheets.specs.Judges.{Opinion, Sound, passed, failed, unsure}
use Rattle.sheets.specs.Sheets.{Condition}

-- the front of the numbers, for a sheet that has so many cells at most
abbrev pub guessed : List ℤ → Condition → Opinion
guessed numbers c = cond (nat_le (length c.cells) 4) (failed (take (length c.cells) numbers)) unsure

never : (b : Bool) (w : List ℤ) → cond b (failed w) unsure ≡ passed → ⊥
never true w e = cc
never false w e = cc

pub guess_sound : (numbers : List ℤ) → Sound (guessed numbers)
guess_sound numbers c kept is v f = never (nat_le (length c.cells) 4) (take (length c.cells) numbers) is
