-- Rows that stay in the span, one more at a time from the last to the first.
use Rattle.std.proofs.Common.{◌≡◌, ℕ, zero, suc, ◌+◌, ◌-◌, ◌<◌, ◌≤◌, Bool, true, false, ◌&&◌, leb, List, [], ◌∷◌, length, get_or, take, drop, reverse, Ok, Err, Option, Result, sym, ap, ap₂, ◌∙◌, arith}
use Rattle.std.proofs.lemmas.Bool.{and_right, le-leb, lt-leb}
use Rattle.std.proofs.lemmas.List.{length-reverse}
use Rattle.std.proofs.lemmas.Option.{get_or_from_slice_get}
use Rattle.std.specs.Result.{MatchResult}
use Rattle.terms.specs.declared.fold.Full.{Full}
use Rattle.terms.specs.declared.row.Row.{Row}
use Rattle.terms.specs.Terms.{fold, entries_for, FoldedRow}
use Rattle.terms.proofs.Stacking.{Held, row_held, row_next, others, folded, entries_within}
use Rattle.reckoning.specs.declared.mark.Mark.{Mark}
use Rattle.reckoning.specs.Evaluation.{marks_by, mark_of}
use Rattle.reckoning.specs.Points.{any_mark}
use Rattle.reckoning.specs.Ranges.{is_range, ranges}
use Rattle.reckoning.specs.Spanning.{ranged_rows}

module _ {M : Type 0} (found : M → Option Mark) where
  -- a part that leaves the span is a part of a term that does
  pub lost_part : (i : ℕ) (rows : List (Row M)) → ranged_rows found (drop i rows) ≡ false → ranged_rows found rows ≡ false
  lost_part zero rows e = e
  lost_part (suc i) [] e = e
  lost_part (suc i) (r ∷ rs) e = and_right (is_range (mark_of ranges found (r ∷ rs))) (ranged_rows found rs) (lost_part i rs e)

  module _ (rows : List (Row M)) (before : List Mark) where
    abbrev Here : ℕ → List Mark → ℕ → Type 0
    Here = Held (marks_by ranges found) rows before

    module _ (n : ℕ) (row : Row M) (entries after : List Mark) (top next : ℕ) (turn : (n < length (reverse rows)) × (row ≡ get_or (reverse rows) n row)) (held : Here n entries top) where
      -- one row more: its mark says whether it stays in the span
      newest : (x : Mark) (b : Bool) → FoldedRow (marks_by ranges found) row entries top (Ok x) after next → b ≡ is_range x → ranged_rows found (drop (length rows - (n + 1)) rows) ≡ (b && ranged_rows found (drop (length rows - n) rows))
      newest x b read told =
          let step = row_held (marks_by ranges found) rows before n row entries after top next (Ok x) turn held read in
          let rest = row_next rows n row turn in
          let mark : mark_of ranges found (drop (length rows - (n + 1)) rows) ≡ x = get_or_from_slice_get (fold (marks_by ranges found) (drop (length rows - (n + 1)) rows)) 0 x any_mark step.0 in
          ap (ranged_rows found) rest ∙ ap (λ v. v && ranged_rows found (drop (length rows - n) rows)) (ap is_range (sym (ap (mark_of ranges found) rest) ∙ mark) ∙ sym told)

      -- the rows are read on after one that is in the span
      pub went_on : (r : Result Mark Full) (b : Bool) → FoldedRow (marks_by ranges found) row entries top r after next → MatchResult r (λ x. b ≡ is_range x) (λ _. b ≡ false) → b ≡ true
          → (ranged_rows found (drop (length rows - (n + 1)) rows) ≡ ranged_rows found (drop (length rows - n) rows)) × Here (n + 1) after next
      went_on (Ok x) b read told e =
          (newest x b read told ∙ ap (λ b. b && ranged_rows found (drop (length rows - n) rows)) e, (row_held (marks_by ranges found) rows before n row entries after top next (Ok x) turn held read).1)
      went_on (Err y) b read told e = absurd (let z : ◌≡◌ {A = ℕ} 0 1 = cc in omega arith)

      -- they are not after one that is not, or that finds no room
      pub stopped : (r : Result Mark Full) (b : Bool) → FoldedRow (marks_by ranges found) row entries top r after next → MatchResult r (λ x. b ≡ is_range x) (λ _. b ≡ false) → b ≡ false
          → ((leb (entries_for rows) (length before) && ranged_rows found rows) ≡ false) × (take (length before - entries_for rows) after ≡ take (length before - entries_for rows) before)
      stopped (Ok x) b read told e =
          let lost = lost_part (length rows - (n + 1)) rows (newest x b read told ∙ ap (λ b. b && ranged_rows found (drop (length rows - n) rows)) e) in
          let step = row_held (marks_by ranges found) rows before n row entries after top next (Ok x) turn held read in
          (and_right (leb (entries_for rows) (length before)) (ranged_rows found rows) lost, others (marks_by ranges found) rows before (n + 1) after next step.1)
      stopped (Err y) b read told e =
          let few = row_held (marks_by ranges found) rows before n row entries after top next (Err y) turn held read in
          (ap (λ b. b && ranged_rows found rows) (lt-leb (entries_for rows) (length before) few), ap (take (length before - entries_for rows)) read.1 ∙ others (marks_by ranges found) rows before n entries top held)

    -- all of them were
    pub all_ranged : (n : ℕ) (entries : List Mark) (top : ℕ) → n ≡ length (reverse rows) → Here n entries top → ranged_rows found (drop (length rows - n) rows) ≡ true
        → ((leb (entries_for rows) (length before) && ranged_rows found rows) ≡ true) × (take (length before - entries_for rows) entries ≡ take (length before - entries_for rows) before)
    all_ranged n entries top is held e =
        let all = folded (marks_by ranges found) rows before n entries top is held in
        let none : length rows - n ≡ 0 = omega (arith, is, length-reverse rows) in
        (ap₂ ◌&&◌ (le-leb (entries_for rows) (length before) all.0) (sym (ap (λ k. ranged_rows found (drop k rows)) none) ∙ e), all.3)

-- with a mark for each row there are enough
pub in_room : {M : Type 0} (rows : List (Row M)) (room : ℕ) (b : Bool) → length rows ≤ room → (leb (entries_for rows) room && b) ≡ (leb (length rows) room && b)
in_room rows room b enough = let few = entries_within rows in ap (λ t. t && b) (le-leb (entries_for rows) room (omega arith) ∙ sym (le-leb (length rows) room enough))
