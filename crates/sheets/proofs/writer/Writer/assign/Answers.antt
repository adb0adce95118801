use Rattle.std.proofs.Common.{◌+◌, ◌*◌, [], ◌∷◌, Some, slice_set, ap, ◌∙◌, subst, arith}
use Rattle.jcode.specs.declared.variable.Domain.TheVariants.{Boolean}
use Rattle.jcode.specs.Units.{term_in}
use Rattle.sheets.specs.Currents.{current_in}
use Rattle.sheets.specs.PathSheets.{cell_of, equated, over}
use Rattle.sheets.specs.Writings.{Writes}
use Rattle.sheets.proofs.Joining.{written, with_current, cells_first}
use Rattle.sheets.proofs.writer.Writer.assign.Goals as goal

pub put-requires : goal.put-requires
put-requires c =
    let n = c.requires.counts.cells in
    (omega (arith, c.two_cells.ensures.size, c.part.ensures.size, c.part-2.ensures.size, c.requires.known), omega (arith, n))

pub returns : goal.returns
returns c =
    let a = c.args.self.now in
    let now = current_in a.current in
    let cells = subst (λ d. Writes a [] (cell_of (Some a.written.parts) d ∷ cell_of (Some (a.written.parts + 1)) Boolean ∷ []) now c.two_cells.new.self) c.domain_of.ensures c.two_cells.ensures in
    let value = c.term_rows.ensures ∙ ap (λ rs. term_in rs c.args.value) c.rows.ensures in
    let shadow = c.term_rows-2.ensures ∙ ap (λ rs. term_in rs c.args.shadow) c.rows-2.ensures in
    let first = subst (λ e. Writes c.two_cells.new.self (e ∷ []) [] (current_in c.two_cells.new.self.current) c.part.new.self) (λ i. equated a.written.cells (over (c.two_cells.ensures.current i) now (value i))) c.part.ensures in
    let same = c.part.ensures.current ∙ c.two_cells.ensures.current in
    let second = subst (λ e. Writes c.part.new.self (e ∷ []) [] (current_in c.part.new.self.current) c.part-2.new.self) (λ i. equated (a.written.cells + 1) (over (same i) now (shadow i))) c.part-2.ensures in
    let all = cells_first a c.two_cells.new.self c.part-2.new.self _ _ _ _ cells (written c.two_cells.new.self c.part.new.self c.part-2.new.self _ _ _ _ _ _ first second) in
    let kept = c.part-2.ensures.current ∙ same in
    let v = c.args.variable in
    with_current a c.part-2.new.self _ _ _ c.put.new.self _ all (c.put.ensures.cells ∙ (λ i. slice_set (slice_set (kept i) (2 * v) a.written.cells) (2 * v + 1) (a.written.cells + 1)))
    (c.put.ensures.count ∙ c.part-2.ensures.size ∙ c.part.ensures.size ∙ c.two_cells.ensures.size)
