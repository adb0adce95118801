-- A path's sheet, written where there is room and put to a judge.
use Rattle.std.proofs.Common.{◌≡◌, ℕ, ◌+◌, ◌<◌, ◌≤◌, List, length, take, drop, Some, None, Option, Ok, Err, Result, IfOk, ℤ, inr, refl, sym, ap, ◌∙◌, subst, length-append, arith}
use Rattle.std.proofs.Math.Seq.{take-append_seam}
use Rattle.terms.specs.declared.row.Row.{Row}
use Rattle.flow.specs.Numbers.{paths, nth}
use Rattle.flow.specs.Paths.{Path}
use Rattle.flow.proofs.Numbering.{numbered}
use Rattle.jcode.specs.declared.refusal.Refusal.TheVariants.{Circle}
use Rattle.jcode.specs.ReadUnits.{over}
use Rattle.reckoning.specs.declared.mark.Mark.{Mark}
use Rattle.checking.specs.declared.unit.CheckedUnit.{CheckedUnit}
use Rattle.checking.specs.Breaks.{steps_of}
use Rattle.checking.specs.CheckedUnits.{said}
use Rattle.checking.specs.Held.{held as tables_held}
use Rattle.sheets.specs.declared.cell.Cell.{Cell}
use Rattle.sheets.specs.declared.fault.SheetFault.{SheetFault}
use Rattle.sheets.specs.declared.outcome.Outcome.{Outcome}
use Rattle.sheets.specs.declared.part.Part.{Part}
use Rattle.sheets.specs.declared.sheet.Sheet.{Sheet}
use Rattle.sheets.specs.declared.writing.Lengths.{Lengths}
use Rattle.sheets.specs.Drafts.{Drafts, WritesSheet, lengths_of}
use Rattle.sheets.specs.Judges.{Opinion}
use Rattle.sheets.specs.PathSheets.{rows_of, laid_from}
use Rattle.sheets.specs.Places.{rows_in, parts_in, cells_in, says}
use Rattle.sheets.specs.Settling.{Written, Settles, Settled, condition, held}
use Rattle.sheets.specs.Sheets.{Condition, Keeps, condition_of}
use Rattle.sheets.specs.Standing.{Stands, FillsWith, StandsFor}
use Rattle.sheets.specs.Tables.{IsSheet}
use Rattle.sheets.proofs.Joining.{length_laid}
use Rattle.sheets.proofs.Keeping.{keeps_rules}
use Rattle.sheets.proofs.Laying.{laid_says, laid_fills}
use Rattle.sheets.proofs.Sensing.{sensible}
use Rattle.jcode.proofs.Fillings.{put_front}

-- the sheet of every path keeps the rules
pub keeps_at : (u : CheckedUnit) (k : ℕ) → k < length (paths (steps_of (said u))) → Keeps (condition (said u) k)
keeps_at u k there =
    let path : Path (steps_of (said u)) (nth (steps_of (said u)) k) = (numbered (steps_of (said u)) (λ i circle. u.unbroken Circle i (inr circle))).each_is_path k there in
    keeps_rules (said u) (sensible u.tables.bytes.now u.tables.name (tables_held u.tables) u.unbroken) (nth (steps_of (said u)) k) path

fits_over : {X : Type 0} (xs old now : List X) (n : ℕ) → now ≡ over xs old → n ≡ length xs → n ≤ length now
fits_over xs old now n e l = let a = length-append xs (drop (length xs) old) in let b = ap length e in omega (arith, a, b, l)

front_of : {X : Type 0} (xs old now : List X) (n : ℕ) → now ≡ over xs old → n ≡ length xs → take n now ≡ xs
front_of xs old now n e l = (λ i. take (l i) (e i)) ∙ take-append_seam xs (drop (length xs) old)

module _ (u : CheckedUnit) (k : ℕ) (there : k < length (paths (steps_of (said u)))) (n : Lengths) (is : n ≡ lengths_of (condition (said u) k)) (rows : List (Row ℕ)) (parts : List Part) (cells : List Cell) (room : Written (condition (said u) k) (length rows) (length parts) (length cells)) (rows_after : List (Row ℕ)) (parts_after : List Part) (cells_after : List Cell) where
  abbrev c : Condition
  c = condition (said u) k

  -- the tables of the sheet are at the front of the buffers
  pub record Fronts : Type 0 where
    pub rows_are : rows_after ≡ over (rows_of c.parts) rows
    pub parts_are : parts_after ≡ over (laid_from 0 c.parts) parts
    pub cells_are : cells_after ≡ over c.cells cells

  pub fronts : (o : Option Lengths) → Drafts (said u) k rows parts cells o rows_after parts_after cells_after → Fronts
  fronts None d = absurd (omega (arith, there, d.0))
  fronts (Some m) d = record {
    rows_are = d.2 ∙ put_front rows (rows_of c.parts) room.for_rows;
    parts_are = d.3 ∙ put_front parts (laid_from 0 c.parts) (subst (λ n. n ≤ length parts) (sym (length_laid 0 c.parts)) room.for_parts);
    cells_are = d.4 ∙ put_front cells c.cells room.for_cells;
  }

  module _ (f : Fronts) where
    row_count : n.rows ≡ length (rows_of c.parts)
    row_count = ap (λ n. n.rows) is

    part_count : n.parts ≡ length (laid_from 0 c.parts)
    part_count = ap (λ n. n.parts) is ∙ sym (length_laid 0 c.parts)

    cell_count : n.cells ≡ length c.cells
    cell_count = ap (λ n. n.cells) is

    front_rows : take n.rows rows_after ≡ rows_of c.parts
    front_rows = front_of (rows_of c.parts) rows rows_after n.rows f.rows_are row_count

    front_parts : take n.parts parts_after ≡ laid_from 0 c.parts
    front_parts = front_of (laid_from 0 c.parts) parts parts_after n.parts f.parts_are part_count

    front_cells : take n.cells cells_after ≡ c.cells
    front_cells = front_of c.cells cells cells_after n.cells f.cells_are cell_count

    is_sheet : IsSheet (rows_of c.parts) (laid_from 0 c.parts) c.cells
    is_sheet = record { filled = laid_fills (length (rows_of c.parts)) 0 c.parts (omega arith); kept = subst Keeps (sym (laid_says c.parts c.cells)) (keeps_at u k there) }

    pub stands : Stands n rows_after parts_after cells_after
    stands = record {
      in_rows = fits_over (rows_of c.parts) rows rows_after n.rows f.rows_are row_count;
      in_parts = fits_over (laid_from 0 c.parts) parts parts_after n.parts f.parts_are part_count;
      in_cells = fits_over c.cells cells cells_after n.cells f.cells_are cell_count;
      sheet = subst (λ cs. IsSheet (take n.rows rows_after) (take n.parts parts_after) cs) (sym front_cells) (subst (λ ps. IsSheet (take n.rows rows_after) ps c.cells) (sym front_parts) (subst (λ rs. IsSheet rs (laid_from 0 c.parts) c.cells) (sym front_rows) is_sheet));
    }

    module _ (s : Sheet) (r : rows_in s ≡ take n.rows rows_after) (p : parts_in s ≡ take n.parts parts_after) (q : cells_in s ≡ take n.cells cells_after) where
      says_it : says s ≡ c
      says_it = (λ i. condition_of ((r ∙ front_rows) i) ((p ∙ front_parts) i) ((q ∙ front_cells) i)) ∙ laid_says c.parts c.cells

      pub marks_are : length (cells_in s) + length (rows_in s) ≡ n.cells + n.rows
      marks_are = let a = ap length (q ∙ front_cells) in let b = ap length (r ∙ front_rows) in omega (arith, a, b, row_count, cell_count)

      pub cells_so_many : length (cells_in s) ≡ n.cells
      cells_so_many = ap length (q ∙ front_cells) ∙ sym cell_count

      pub settled : (meaning : Condition → Opinion) (o : Outcome) (v v_after : List ℤ) (w w_after : List Mark) → n.cells ≤ length v → n.cells + n.rows ≤ length w
          → Settles (says s) (meaning (says s)) o (take (length (cells_in s)) v_after) → drop (length (cells_in s)) v_after ≡ drop (length (cells_in s)) v → length w_after ≡ length w
          → Settled c (meaning c) o (held rows parts cells v w) (held rows_after parts_after cells_after v_after w_after)
      settled meaning o v v_after w w_after numbers marks answer rest long = record {
        room = record { for_sheet = room; for_valuation = omega (arith, numbers, cell_count); for_working = omega (arith, marks, row_count, cell_count) };
        rows = f.rows_are;
        parts = f.parts_are;
        cells = f.cells_are;
        answer = subst (λ m. Settles c (meaning c) o (take m v_after)) (ap length (q ∙ front_cells)) (subst (λ d. Settles d (meaning d) o (take (length (cells_in s)) v_after)) says_it answer);
        rest = subst (λ m. drop m v_after ≡ drop m v) (ap length (q ∙ front_cells)) rest;
        working = long;
      }

    fills_with : FillsWith c (take n.rows rows_after) (take n.parts parts_after) (take n.cells cells_after)
    fills_with (Ok x) before after filled = (refl, says_it after filled.1 filled.2 filled.3)
    fills_with (Err e) before after filled = absurd (filled.0 stands.sheet)

    pub stands_for : StandsFor c n rows_after parts_after cells_after
    stands_for = record { stands = stands; fills = fills_with }

-- what a call wrote fills a sheet's place
pub written_stands : (u : CheckedUnit) (k : ℕ) (rows : List (Row ℕ)) (parts : List Part) (cells : List Cell) (r : Result Lengths SheetFault) (rows_after : List (Row ℕ)) (parts_after : List Part) (cells_after : List Cell)
    → WritesSheet (said u) k rows parts cells r rows_after parts_after cells_after → IfOk r (λ n. StandsFor (condition (said u) k) n rows_after parts_after cells_after)
written_stands u k rows parts cells (Ok n) rows_after parts_after cells_after w =
    stands_for u k w.0 n w.2 rows parts cells w.1 rows_after parts_after cells_after (record { rows_are = w.3; parts_are = w.4; cells_are = w.5 })
written_stands u k rows parts cells (Err f) rows_after parts_after cells_after w = tt
