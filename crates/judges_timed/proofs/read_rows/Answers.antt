use Rattle.std.proofs.Common.{◌≡◌, ◌+◌, ◌*◌, ◌<◌, ◌∷◌, ◌++◌, length, take, drop, get_or, pos, sym, ap, ◌∙◌, arith, rules}
use Rattle.judges_timed.specs.Telling.{row_told, rows_told}
use Rattle.judges_timed.proofs.Reading.{one_more, next_row}
use Rattle.judges_timed.proofs.read_rows.Goals as goal

pub loop-i-preserved : goal.loop-i-preserved
loop-i-preserved c =
    let i = c.loop-i.i in
    let numbers = c.args.numbers.now in
    let rows = c.loop-i.rows in
    let lt : i < length rows = search rules in
    let inside : 2 * i + 1 < length numbers = search rules in
    let is : c.row.result ≡ row_told (get_or numbers (2 * i) (pos 0)) (get_or numbers (2 * i + 1) (pos 0)) = search rules in
    let after : 2 * i + 2 ≡ 2 * (i + 1) = omega arith in
    let next : rows_told (drop (2 * i) numbers) ≡ c.row.result ∷ rows_told (drop (2 * (i + 1)) numbers) =
    next_row numbers (2 * i) inside ∙ ap (λ r. r ∷ rows_told (drop (2 * i + 2) numbers)) (sym is) ∙ ap (λ k. c.row.result ∷ rows_told (drop k numbers)) after in
    one_more rows i c.row.result (rows_told (drop (2 * (i + 1)) numbers)) (rows_told numbers) lt (ap (λ l. take i rows ++ l) (sym next) ∙ c.loop-i.invariant)
