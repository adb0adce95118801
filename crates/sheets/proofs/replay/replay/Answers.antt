use Rattle.std.proofs.Common.{◌≡◌, ◌≤◌, true, length, take, sym, ap, ◌∙◌, arith, rules}
use Rattle.sheets.specs.Places.{cells_in, marks_for}
use Rattle.sheets.specs.Valuations.{is_within}
use Rattle.sheets.specs.Replays.{first_numbers}
use Rattle.sheets.proofs.Kept.{sheet_keeps}
use Rattle.sheets.proofs.Replaying.{points_of, long_enough, its_exact, its_within, replayed}
use Rattle.sheets.proofs.replay.replay.Goals as goal

pub place_points-requires : goal.place_points-requires
place_points-requires c =
    let s = c.args.sheet.now in
    let v = c.args.valuation.now in
    let within : is_within (cells_in s) (first_numbers s v) ≡ true = ap (λ cs. is_within cs (take (length cs) v)) (sym c.cells.ensures) ∙ sym c.are_within.ensures ∙ c.if-not-are_within.false in
    omega (arith, long_enough s v within, c.split_at_mut-points.ensures.front_len, ap length c.cells-2.ensures)

pub invariant_of-valued : goal.invariant_of-valued
invariant_of-valued c =
    let s = c.args.sheet.now in
    let v = c.args.valuation.now in
    let within : is_within (cells_in s) (first_numbers s v) ≡ true = ap (λ cs. is_within cs (take (length cs) v)) (sym c.cells.ensures) ∙ sym c.are_within.ensures ∙ c.if-not-are_within.false in
    let placed : c.place_points.new.marks ≡ points_of (first_numbers s v) = c.place_points.ensures ∙ ap (λ n. points_of (take n v)) (c.split_at_mut-points.ensures.front_len ∙ ap length c.cells-2.ensures) in
    record { exact = its_exact s v within c.place_points.new.marks placed (sheet_keeps s); within = its_within s v within c.place_points.new.marks placed }

pub returns-clause-replayed : goal.returns-clause-replayed
returns-clause-replayed c =
    let s = c.args.sheet.now in
    let v = c.args.valuation.now in
    let within : is_within (cells_in s) (first_numbers s v) ≡ true = ap (λ cs. is_within cs (take (length cs) v)) (sym c.cells.ensures) ∙ sym c.are_within.ensures ∙ c.if-not-are_within.false in
    let placed : c.place_points.new.marks ≡ points_of (first_numbers s v) = c.place_points.ensures ∙ ap (λ n. points_of (take n v)) (c.split_at_mut-points.ensures.front_len ∙ ap length c.cells-2.ensures) in
    let room : marks_for s ≤ length c.args.working.now = search rules in
    replayed s v within c.place_points.new.marks placed (length c.args.working.now) room c.is_falsified.result c.is_falsified.ensures
