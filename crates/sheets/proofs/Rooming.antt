-- A drafted sheet, for which there was room.
use Rattle.std.proofs.Common.{◌≡◌, ℕ, ◌≤◌, List, length, Some, None, Option, inl, sym, refl, ◌∙◌, subst}
use Rattle.std.specs.Option.{ok_or}
use Rattle.terms.specs.declared.row.Row.{Row}
use Rattle.jcode.specs.declared.refusal.Refusal.TheVariants.{Condition as NoCondition}
use Rattle.jcode.specs.Units.{JUnit}
use Rattle.jcode.proofs.Fillings.{put_front}
use Rattle.sheets.specs.declared.cell.Cell.{Cell}
use Rattle.sheets.specs.declared.part.Part.{Part}
use Rattle.sheets.specs.declared.writing.Lengths.{Lengths}
use Rattle.sheets.specs.Drafts.{Drafts, WritesSheet, lengths_of}
use Rattle.sheets.specs.Faults.{refused}
use Rattle.sheets.specs.PathSheets.{rows_of, laid_from}
use Rattle.sheets.specs.Settling.{Written, condition}
use Rattle.sheets.specs.Sheets.{Condition}
use Rattle.sheets.proofs.Joining.{length_laid}

module _ (u : JUnit) (k : ℕ) (rows : List (Row ℕ)) (parts : List Part) (cells : List Cell) (room : Written (condition u k) (length rows) (length parts) (length cells)) (rows_after : List (Row ℕ)) (parts_after : List Part) (cells_after : List Cell) where
  pub has_room : (o : Option Lengths) → Drafts u k rows parts cells o rows_after parts_after cells_after → WritesSheet u k rows parts cells (ok_or o (refused NoCondition)) rows_after parts_after cells_after
  has_room None d = (inl (d.0, refl), d.1)
  has_room (Some n) d =
      let es = (condition u k).parts in (
        d.0,
        room,
        d.1,
        d.2 ∙ put_front rows (rows_of es) room.for_rows,
        d.3 ∙ put_front parts (laid_from 0 es) (subst (λ n. n ≤ length parts) (sym (length_laid 0 es)) room.for_parts),
        d.4 ∙ put_front cells (condition u k).cells room.for_cells,
      )

pub room_of : (c : Condition) (n : Lengths) → n ≡ lengths_of c → (rows parts cells : ℕ) → (n.rows ≤ rows) × (n.parts ≤ parts) × (n.cells ≤ cells) → Written c rows parts cells
room_of c n is rows parts cells fits =
    let at = subst (λ n. (n.rows ≤ rows) × (n.parts ≤ parts) × (n.cells ≤ cells)) is fits in
    record { for_rows = at.0; for_parts = at.1; for_cells = at.2 }
