use Rattle.std.proofs.Common.{◌≤◌, length, sym, subst, arith}
use Rattle.std.specs.List.{slice_get}
use Rattle.reckoning.specs.Exactness.{Exact}
use Rattle.sheets.specs.Places.{rows_in, parts_in, cells_in}
use Rattle.sheets.proofs.Kept.{sheet_keeps, part_rows}
use Rattle.sheets.proofs.Replaying.{part_number}
use Rattle.sheets.proofs.replay.Valued.number.Goals as goal

pub returns : goal.returns
returns c =
    let s = c.args.self.now.sheet in
    let ms = c.args.self.now.points.now in
    let few : length c.part.result.now ≤ length c.args.stack.now = subst (λ e. length e ≤ length c.args.stack.now) (sym c.part.ensures) (let short = part_rows s c.args.place in omega (arith, short, c.requires.room)) in
    part_number (rows_in s) (parts_in s) (cells_in s) (sheet_keeps s) ms c.args.self.now.exact c.args.self.now.within c.args.place c.requires.there c.number_of.result (subst (λ e. Exact (slice_get ms) e c.number_of.result) c.part.ensures (c.number_of.ensures.exact few))
