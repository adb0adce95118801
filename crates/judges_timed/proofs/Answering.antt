-- What is answered, by the tables that were read.
use Rattle.std.proofs.Common.{◌≡◌, ℕ, true, List, ℤ, sym, ◌∙◌, subst, true≢false}
use Rattle.terms.specs.declared.row.Row.{Row}
use Rattle.sheets.specs.declared.cell.Cell.{Cell}
use Rattle.sheets.specs.declared.part.Part.{Part}
use Rattle.sheets.specs.Sheets.{condition_of}
use Rattle.sheets.specs.Tables.{IsSheet}
use Rattle.judges.specs.Tries.{trier}
use Rattle.judges_timed.specs.Telling.{rows_told, parts_told, cells_told, are_told, number_of, Answered}

-- by tables
abbrev To : ℕ → List (Row ℕ) → List Part → List Cell → Type 0
To answer rows parts cells = ((IsSheet rows parts cells → ⊥) → answer ≡ 3) × (IsSheet rows parts cells → answer ≡ number_of (trier (condition_of rows parts cells)))

pub answered : (rows parts cells : List ℤ) (rs : List (Row ℕ)) (ps : List Part) (cs : List Cell) (answer : ℕ) → are_told rows parts cells ≡ true → rs ≡ rows_told rows → ps ≡ parts_told 0 parts → cs ≡ cells_told cells
    → ((IsSheet rs ps cs → ⊥) → answer ≡ 3) → (IsSheet rs ps cs → answer ≡ number_of (trier (condition_of rs ps cs))) → Answered rows parts cells answer
answered rows parts cells rs ps cs answer told r p c refused asked =
    let by_rows : To answer (rows_told rows) ps cs = subst (λ l. To answer l ps cs) r (refused, asked) in
    let by_parts : To answer (rows_told rows) (parts_told 0 parts) cs = subst (λ l. To answer (rows_told rows) l cs) p by_rows in
    let by_cells : To answer (rows_told rows) (parts_told 0 parts) (cells_told cells) = subst (λ l. To answer (rows_told rows) (parts_told 0 parts) l) c by_parts in
    record { untold = λ e. absurd (true≢false (sym told ∙ e)); refused = λ t. by_cells.0; asked = λ t. by_cells.1 }
