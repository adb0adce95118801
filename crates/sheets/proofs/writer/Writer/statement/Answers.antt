use Rattle.std.proofs.Common.{ℕ, ◌*◌, List, length, sym, subst, ap, ◌∙◌}
use Rattle.jcode.specs.Units.{sentence_in}
use Rattle.checking.specs.CheckedUnits.{said}
use Rattle.sheets.specs.PathSheets.{cells_of}
use Rattle.sheets.specs.Writings.{Counts, cells_page, progress}
use Rattle.sheets.proofs.Adding.{two_each}
use Rattle.sheets.proofs.writer.Writer.statement.Goals as goal

pub new_cells-after-requires-clause-counts : goal.new_cells-after-requires-clause-counts
new_cells-after-requires-clause-counts c =
    let u = said c.args.unit.now in
    let w = c.args.self.now in
    let n : Counts (cells_page w) (length (cells_of u (progress w) (sentence_in c.args.unit.now.tables.rows.now c.args.statement))) = c.requires.counts.cells in
    let m = subst (λ st. Counts (cells_page w) (length (cells_of u (progress w) (sentence_in c.args.unit.now.tables.rows.now st)))) c.in-New.is n in
    subst (Counts (cells_page w)) (two_each u _ ∙ ap (λ (vs : List ℕ). 2 * length vs) (sym c.listed.ensures)) m
