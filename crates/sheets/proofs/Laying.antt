-- Parts in tables say what they were.
use Rattle.std.proofs.Common.{◌≡◌, ℕ, ◌+◌, List, [], ◌∷◌, ◌++◌, map, length, take, refl, sym, ap, ap₂, ◌∙◌, arith, length-append}
use Rattle.std.proofs.lemmas.List.{drop_at, take_at, append_assoc}
use Rattle.terms.specs.declared.row.Row.{Row}
use Rattle.sheets.specs.declared.cell.Cell.{Cell}
use Rattle.sheets.specs.Sheets.{CellTerm, part_in, condition_of, fills_from}
use Rattle.sheets.specs.PathSheets.{rows_of, laid_from}

laid_after : (before : List (Row ℕ)) (first : ℕ) (es : List CellTerm) → length before ≡ first → map (part_in (before ++ rows_of es)) (laid_from first es) ≡ es
laid_after before first [] l = refl
laid_after before first (e ∷ es) l =
    ap₂ ◌∷◌ (ap (take (length e)) (drop_at before (e ++ rows_of es) first l) ∙ take_at e (rows_of es) (length e) refl)
    (ap (λ rows. map (part_in rows) (laid_from (first + length e) es)) (sym (append_assoc before e (rows_of es))) ∙ laid_after (before ++ e) (first + length e) es (omega (arith, length-append before e)))

pub laid_says : (es : List CellTerm) (cells : List Cell) → condition_of (rows_of es) (laid_from 0 es) cells ≡ record { parts = es; cells = cells }
laid_says es cells = ap (λ parts. record { parts = parts; cells = cells }) (laid_after [] 0 es refl)

pub laid_fills : (total first : ℕ) (es : List CellTerm) → total ≡ first + length (rows_of es) → fills_from total first (laid_from first es)
laid_fills total first [] h = omega arith
laid_fills total first (e ∷ es) h = (refl, laid_fills total (first + length e) es (omega (arith, length-append e (rows_of es))))
