-- Terms whose rows all stay in the span, as far as ranges tell.
use Rattle.std.specs.Prelude.{Bool, true, ◌&&◌, List, [], ◌∷◌, Option}
use Rattle.terms.specs.declared.row.Row.{Row}
use Rattle.reckoning.specs.declared.mark.Mark.{Mark}
use Rattle.reckoning.specs.Evaluation.{mark_of}
use Rattle.reckoning.specs.Ranges.{is_range, ranges}

-- the mark of every row is a range
abbrev pub ranged_rows : {M : Type 0} → (M → Option Mark) → List (Row M) → Bool
ranged_rows found [] = true
ranged_rows found (r ∷ rs) = is_range (mark_of ranges found (r ∷ rs)) && ranged_rows found rs
