use Rattle.std.proofs.Common.{◌≡◌, suc, ◌+◌, [], ◌∷◌, drop, get_or, None, ap, ◌∙◌, subst, arith}
use Rattle.std.proofs.Math.Seq.{drop-cons}
use Rattle.jcode.specs.declared.variable.Domain.TheVariants.{Boolean}
use Rattle.checking.specs.CheckedUnits.{said}
use Rattle.sheets.specs.Currents.{current_in}
use Rattle.sheets.specs.PathSheets.{cell_of}
use Rattle.sheets.specs.Writings.{Writes}
use Rattle.sheets.proofs.Adding.{Adds, one_added}
use Rattle.sheets.proofs.writer.Writer.new_cells.Goals as goal

pub loop-variable-preserved : goal.loop-variable-preserved
loop-variable-preserved c =
    let u = said c.args.unit.now in
    let all = c.args.listed.now in
    let i = c.loop-variable.variable-index in
    let w = c.loop-variable.self in
    let more : suc i ≡ i + 1 = omega arith in
    let next : drop i all ≡ get_or all i 0 ∷ drop (i + 1) all = drop-cons all i 0 c.loop-variable-test.true ∙ ap (λ n. get_or all i 0 ∷ drop n all) more in
    one_added u all c.args.self.now (get_or all i 0) (drop (i + 1) all) w c.two_cells.new.self c.loop-variable.after c.put.new.self
    (subst (λ left. Adds u all c.args.self.now left w c.loop-variable.after) next c.loop-variable.invariant) c.put.ensures.cells c.put.ensures.count
    (subst (λ d. Writes w [] (cell_of None d ∷ cell_of None Boolean ∷ []) (current_in w.current) c.two_cells.new.self) c.domain_of.ensures c.two_cells.ensures)
