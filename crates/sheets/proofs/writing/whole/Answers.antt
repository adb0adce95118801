use Rattle.std.proofs.Common.{◌≤◌, length, sym, ap, ◌∙◌, subst, rules}
use Rattle.std.specs.Option.{ok_or}
use Rattle.checking.specs.CheckedUnits.{said}
use Rattle.sheets.specs.Drafts.{WritesSheet}
use Rattle.sheets.specs.Settling.{condition}
use Rattle.sheets.proofs.Rooming.{room_of, has_room}
use Rattle.sheets.proofs.writing.whole.Goals as goal

pub returns : goal.returns
returns c =
    let u = said c.args.unit.now in
    let k = c.args.number in
    let needed = c.in_ok-needed.needed in
    let fits : (needed.rows ≤ length c.args.rows.now) × (needed.parts ≤ length c.args.parts.now) × (needed.cells ≤ length c.args.cells.now) = search rules in
    let room = room_of (condition u k) needed c.in_ok-needed.ensures.1 _ _ _ fits in
    let done = has_room u k c.args.rows.now c.args.parts.now c.args.cells.now room c.draft.new.rows c.draft.new.parts c.draft.new.cells c.draft.result c.draft.ensures in
    subst (λ r. WritesSheet u k c.args.rows.now c.args.parts.now c.args.cells.now r c.draft.new.rows c.draft.new.parts c.draft.new.cells) (sym (c.ok_or.ensures.value ∙ ap (ok_or c.draft.result) c.into-2.ensures)) done
