use Rattle.std.proofs.Common.{◌≤◌, ◌+◌, length, rules}
use Rattle.checking.specs.CheckedUnits.{said}
use Rattle.sheets.specs.Settling.{condition}
use Rattle.sheets.proofs.Deciding.{fronts, stands, settled}
use Rattle.sheets.proofs.Rooming.{room_of}
use Rattle.sheets.proofs.settling.settle_in.Goals as goal

pub sheet_in-sheet-requires : goal.sheet_in-sheet-requires
sheet_in-sheet-requires g c =
    let u = c.args.unit.now in
    let k = c.args.number in
    let n = c.in_ok-needed.needed in
    let fits : (n.rows ≤ length c.args.rows.now) × (n.parts ≤ length c.args.parts.now) × (n.cells ≤ length c.args.cells.now) = search rules in
    let m = c.in_ok-needed.ensures in
    let room = room_of (condition (said u) k) n m.1 _ _ _ fits in
    stands u k m.0 n m.1 c.args.rows.now c.args.parts.now c.args.cells.now room c.draft.new.rows c.draft.new.parts c.draft.new.cells
    (fronts u k m.0 n m.1 c.args.rows.now c.args.parts.now c.args.cells.now room c.draft.new.rows c.draft.new.parts c.draft.new.cells c.draft.result c.draft.ensures)

pub returns-clause-settles : goal.returns-clause-settles
returns-clause-settles g c =
    let u = c.args.unit.now in
    let k = c.args.number in
    let n = c.in_ok-needed.needed in
    let fits : (n.rows ≤ length c.args.rows.now) × (n.parts ≤ length c.args.parts.now) × (n.cells ≤ length c.args.cells.now) = search rules in
    let left : (n.cells ≤ length c.args.valuation.now) × (n.cells + n.rows ≤ length c.args.working.now) = search rules in
    let m = c.in_ok-needed.ensures in
    let room = room_of (condition (said u) k) n m.1 _ _ _ fits in
    let f = fronts u k m.0 n m.1 c.args.rows.now c.args.parts.now c.args.cells.now room c.draft.new.rows c.draft.new.parts c.draft.new.cells c.draft.result c.draft.ensures in
    let s = c.sheet_in-sheet.ensures in (
      m.0,
      settled u k m.0 n m.1 c.args.rows.now c.args.parts.now c.args.cells.now room c.draft.new.rows c.draft.new.parts c.draft.new.cells f c.sheet_in-sheet.result s.rows s.parts s.cells (g.J.Judge.meaning c.args.judge.now)
          c.judged.result c.args.valuation.now c.judged.new.valuation c.args.working.now c.judged.new.working left.0 left.1 c.judged.ensures.settles c.judged.ensures.rest c.judged.ensures.working,
    )
