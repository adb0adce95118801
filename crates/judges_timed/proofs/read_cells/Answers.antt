use Rattle.std.proofs.Common.{◌≡◌, ◌+◌, ◌*◌, ◌<◌, ◌∷◌, ◌++◌, length, take, drop, get_or, pos, sym, ap, ◌∙◌, arith, rules}
use Rattle.judges_timed.specs.Telling.{cell_told, cells_told}
use Rattle.judges_timed.proofs.Reading.{one_more, next_cell}
use Rattle.judges_timed.proofs.read_cells.Goals as goal

pub loop-i-preserved : goal.loop-i-preserved
loop-i-preserved c =
    let i = c.loop-i.i in
    let numbers = c.args.numbers.now in
    let cells = c.loop-i.cells in
    let lt : i < length cells = search rules in
    let inside : 3 * i + 2 < length numbers = search rules in
    let is : c.cell.result ≡ cell_told (get_or numbers (3 * i) (pos 0)) (get_or numbers (3 * i + 1) (pos 0)) (get_or numbers (3 * i + 2) (pos 0)) = search rules in
    let after : 3 * i + 3 ≡ 3 * (i + 1) = omega arith in
    let next : cells_told (drop (3 * i) numbers) ≡ c.cell.result ∷ cells_told (drop (3 * (i + 1)) numbers) =
    next_cell numbers (3 * i) inside ∙ ap (λ r. r ∷ cells_told (drop (3 * i + 3) numbers)) (sym is) ∙ ap (λ k. c.cell.result ∷ cells_told (drop k numbers)) after in
    one_more cells i c.cell.result (cells_told (drop (3 * (i + 1)) numbers)) (cells_told numbers) lt (ap (λ l. take i cells ++ l) (sym next) ∙ c.loop-i.invariant)
