-- The pass: what a reckoning finds of a sheet, part by part.
use Rattle.std.specs.Prelude.{◌≡◌, ◌≢◌, ◌↔◌, ℕ, ◌+◌, ◌<◌, List, [], ◌∷◌, length, map, Some, None, Option, slice_index_or, slice_set}
use Rattle.std.specs.List.{slice_get}
use Rattle.std.specs.Option.{option_map}
use Rattle.reckoning.specs.declared.mark.Mark.{Mark}
use Rattle.reckoning.specs.declared.decision.Decision.{Decision}
use Rattle.reckoning.specs.declared.decision.Decision.TheVariants.{Yes, No, Unknown}
use Rattle.reckoning.specs.Reckonings.{Meaning}
use Rattle.reckoning.specs.Evaluation.{mark_of}
use Rattle.sheets.specs.declared.cell.Cell.{Cell}
use Rattle.sheets.specs.Sheets.{CellTerm, Condition, part, set_by, cell_set, setting_term, Keeps}
use Rattle.sheets.specs.declared.judge.Answer.{Answer}
use Rattle.sheets.specs.declared.judge.Answer.TheVariants.{Pass, Fail, Unsure}
use Rattle.sheets.specs.Judges.{Opinion, passed, failed, unsure}

-- a cell starts at the mark of its bounds
abbrev pub bounds_mark : Meaning → Cell → Mark
bounds_mark r c = r.bounded c.low c.high

-- the mark of a term, by the marks of the cells
abbrev pub marked : Meaning → List Mark → CellTerm → Mark
marked r marks e = mark_of r (slice_get marks) e

-- what a part leaves of the marks by what is decided of it: nothing at 'no'
abbrev pub unless_no : Decision → List Mark → Option (List Mark)
unless_no No marks = None
unless_no Yes marks = Some marks
unless_no Unknown marks = Some marks

-- a part that sets a cell narrows it by the meet with the mark of its setting term, any other is decided
abbrev pub after_part : Meaning → Option ℕ → CellTerm → List Mark → Option (List Mark)
after_part r None e marks = unless_no (r.decided (marked r marks e)) marks
after_part r (Some i) e marks = option_map (slice_set marks i) (r.met (slice_index_or marks i r.anything) (marked r marks (setting_term e)))

-- a call that takes a part in leaves its marks, and tells nothing where nothing is left
abbrev pub Left : Option (List Mark) → Option (Unit {0}) → List Mark → Type 0
Left None told marks = told ≡ None
Left (Some left) told marks = (told ≡ Some tt) × (marks ≡ left)

abbrev pub by_goal : Decision → Opinion
by_goal Yes = passed
by_goal No = unsure
by_goal Unknown = unsure

abbrev pub answer_of : Opinion → Answer
answer_of passed = Pass
answer_of (failed v) = Fail
answer_of unsure = Unsure

-- a sheet passes where nothing is left
abbrev pub pass_or : Option (List Mark) → (List Mark → Opinion) → Opinion
pass_or None go = passed
pass_or (Some marks) go = go marks

-- by the parts from the place p on, of which the last is the goal
abbrev pub pass_from : Meaning → Condition → ℕ → List CellTerm → List Mark → Opinion
pass_from r c p [] marks = unsure
pass_from r c p (goal ∷ []) marks = by_goal (r.decided (marked r marks goal))
pass_from r c p (e ∷ f ∷ es) marks = pass_or (after_part r (cell_set c p) e marks) (pass_from r c (p + 1) (f ∷ es))

abbrev pub pass : Meaning → Condition → Opinion
pass r c = pass_from r c 0 c.parts (map (bounds_mark r) c.cells)

-- When a sheet passes, told of its parts and cells alone.

-- part p sets cell i, and of these marks the cell's and that of the term which it is set to meet in this, or in nothing
pub record Meets (r : Meaning) (c : Condition) (p i : ℕ) (marks : List Mark) (met : Option Mark) : Type 0 where
  pub sets : set_by c.cells i ≡ Some p
  pub mark : Mark
  pub here : slice_get marks i ≡ Some mark
  pub meet : r.met mark (mark_of r (slice_get marks) (setting_term (part c p))) ≡ met

-- part p is not the goal, and sets no cell
abbrev pub Asks : Condition → ℕ → Type 0
Asks c p = (p + 1 < length c.parts) × ((i : ℕ) → set_by c.cells i ≢ Some p)

-- part p is reached with these marks of the cells
pub data Comes (r : Meaning) (c : Condition) : ℕ → List Mark → Type 0 where
  -- the first part with those of the bounds
  begins : Comes r c 0 (map (λ cell. r.bounded cell.low cell.high) c.cells)
  -- past a part that sets a cell the meet is that cell's mark, and the other cells keep theirs
  narrows : {p i : ℕ} {marks : List Mark} {met : Mark} → Comes r c p marks → Meets r c p i marks (Some met) → Comes r c (p + 1) (slice_set marks i met)
  -- past any other part but the goal all cells keep theirs
  keeps : {p : ℕ} {marks : List Mark} → Comes r c p marks → Asks c p → Comes r c (p + 1) marks

-- a sheet passes by a meet that is nothing, by a part that is decided 'no', or by the goal, decided 'yes'
pub data Passes (r : Meaning) (c : Condition) : Type 0 where
  by_nothing : {p i : ℕ} {marks : List Mark} → Comes r c p marks → Meets r c p i marks None → Passes r c
  by_no : {p : ℕ} {marks : List Mark} → Comes r c p marks → Asks c p → r.decided (mark_of r (slice_get marks) (part c p)) ≡ No → Passes r c
  by_yes : {p : ℕ} {marks : List Mark} → Comes r c p marks → p + 1 ≡ length c.parts → r.decided (mark_of r (slice_get marks) (part c p)) ≡ Yes → Passes r c

-- what a judge means that goes part by part: it passes exactly those sheets, and is unsure of every other, so it fails none
pub record PartByPart (r : Meaning) (meaning : Condition → Opinion) : Type 0 where
  pub passes : (c : Condition) → Keeps c → meaning c ≡ passed ↔ Passes r c
  pub others : (c : Condition) → Keeps c → (Passes r c → ⊥) → meaning c ≡ unsure
