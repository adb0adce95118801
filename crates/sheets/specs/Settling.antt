-- One condition settled: its sheet is written, a judge is asked, and what the judge proposes is replayed.
use Rattle.std.specs.Prelude.{◌≡◌, ℕ, ◌+◌, ◌<◌, ◌≤◌, ◌⊎◌, List, length, take, drop, replicate, ℤ, pos, Ok, Err, Result}
use Rattle.terms.specs.declared.row.Row.{Row}
use Rattle.flow.specs.Numbers.{paths, nth}
use Rattle.jcode.specs.declared.refusal.Refusal.TheVariants.{Condition as NoCondition, Buffer}
use Rattle.jcode.specs.ReadUnits.{over}
use Rattle.jcode.specs.Units.{JUnit}
use Rattle.reckoning.specs.declared.mark.Mark.{Mark}
use Rattle.checking.specs.Breaks.{steps_of}
use Rattle.sheets.specs.declared.cell.Cell.{Cell}
use Rattle.sheets.specs.declared.desk.Desk.{Desk}
use Rattle.sheets.specs.declared.fault.SheetFault.{SheetFault}
use Rattle.sheets.specs.declared.outcome.Outcome.{Outcome}
use Rattle.sheets.specs.declared.outcome.Outcome.TheVariants.{Passed, Failed, Open}
use Rattle.sheets.specs.declared.part.Part.{Part}
use Rattle.sheets.specs.Faults.{refused}
use Rattle.sheets.specs.Judges.{Opinion, passed, failed, unsure}
use Rattle.sheets.specs.PathSheets.{sheet_of, rows_of, laid_from}
use Rattle.sheets.specs.Sheets.{Condition}
use Rattle.sheets.specs.Valuations.{Falsifies}

-- the condition of the path with the number k
abbrev pub condition : JUnit → ℕ → Condition
condition u k = sheet_of u (nth (steps_of u) k)

-- what the buffers of a desk hold
pub record Held : Type 0 where
  pub rows : List (Row ℕ)
  pub parts : List Part
  pub cells : List Cell
  pub valuation : List ℤ
  pub working : List Mark

abbrev pub held : List (Row ℕ) → List Part → List Cell → List ℤ → List Mark → Held
held rows parts cells v w = record { rows = rows; parts = parts; cells = cells; valuation = v; working = w }

abbrev pub on : Desk → Held
on d = held d.rows.now d.parts.now d.cells.now d.valuation.now d.working.now

-- the sheet of a condition has room in buffers of these lengths
pub record Written (c : Condition) (rows parts cells : ℕ) : Type 0 where
  pub for_rows : length (rows_of c.parts) ≤ rows
  pub for_parts : length c.parts ≤ parts
  pub for_cells : length c.cells ≤ cells

-- and so have its valuations and the working marks
pub record Room (c : Condition) (h : Held) : Type 0 where
  pub for_sheet : Written c (length h.rows) (length h.parts) (length h.cells)
  pub for_valuation : length c.cells ≤ length h.valuation
  pub for_working : length c.cells + length (rows_of c.parts) ≤ length h.working

-- by what a judge thinks of a condition it is passed, failed or open, and the valuation begins with what falsifies it, or else with 0 for each cell
abbrev pub Settles : Condition → Opinion → Outcome → List ℤ → Type 0
Settles c passed o v = (o ≡ Passed) × (v ≡ replicate (length c.cells) (pos 0))
Settles c (failed w) o v = (Falsifies c w × (o ≡ Failed) × (v ≡ w)) ⊎ ((Falsifies c w → ⊥) × (o ≡ Open) × (v ≡ replicate (length c.cells) (pos 0)))
Settles c unsure o v = (o ≡ Open) × (v ≡ replicate (length c.cells) (pos 0))

-- a condition that is settled on a desk, by a judge who thinks this of it; the working marks are free, but for how many there are
pub record Settled (c : Condition) (opinion : Opinion) (o : Outcome) (before after : Held) : Type 0 where
  pub room : Room c before
  pub rows : after.rows ≡ over (rows_of c.parts) before.rows
  pub parts : after.parts ≡ over (laid_from 0 c.parts) before.parts
  pub cells : after.cells ≡ over c.cells before.cells
  pub answer : Settles c opinion o (take (length c.cells) after.valuation)
  pub rest : drop (length c.cells) after.valuation ≡ drop (length c.cells) before.valuation
  pub working : length after.working ≡ length before.working

-- a call that settles the condition of a number: refused where there is no such path, and then where a buffer is short, it leaves all as it was
abbrev pub SettlesAt : JUnit → ℕ → (Condition → Opinion) → Held → Result Outcome SheetFault → Held → Type 0
SettlesAt u k meaning before (Ok o) after = (k < length (paths (steps_of u))) × Settled (condition u k) (meaning (condition u k)) o before after
SettlesAt u k meaning before (Err f) after =
    (((length (paths (steps_of u)) ≤ k) × (f ≡ refused NoCondition)) ⊎ ((k < length (paths (steps_of u))) × (Room (condition u k) before → ⊥) × (f ≡ refused Buffer))) × (after ≡ before)
