use Rattle.std.proofs.Common.{◌≡◌, ◌<◌, [], length, get_or, sym, ◌∙◌, subst, w64, SFits, rules}
use Rattle.std.proofs.lemmas.List.{get_or-map, length-map}
use Rattle.reckoning.specs.Exactness.{Spans}
use Rattle.sheets.specs.Sheets.{part, part_in}
use Rattle.sheets.specs.Places.{rows_in, parts_in, says}
use Rattle.sheets.specs.Valuations.{cell_in}
use Rattle.sheets.proofs.Kept.{sheet_keeps}
use Rattle.judges.proofs.Spanning.{part_spans}
use Rattle.judges.proofs.Refuting.{goes_on, fails}
use Rattle.judges.proofs.tries.is_refuted.Goals as goal

pub number_of-number-requires-clause-spans : goal.number_of-number-requires-clause-spans
number_of-number-requires-clause-spans c =
    let s = says c.args.sheet.now in
    let p = c.loop-place.place in
    let lt : p < length (parts_in c.args.sheet.now) = search rules in
    let read : c.of.result.now ≡ part_in (rows_in c.args.sheet.now) (get_or (parts_in c.args.sheet.now) p (record { first = 0; rows = 0 })) = search rules in
    let is : c.of.result.now ≡ part s p = read ∙ sym (get_or-map (part_in (rows_in c.args.sheet.now)) (parts_in c.args.sheet.now) p (record { first = 0; rows = 0 }) [] lt) in
    subst (Spans (cell_in c.args.valuation.now)) (sym is) (part_spans s (sheet_keeps c.args.sheet.now) c.args.valuation.now c.requires.within p (simp length-map lt))

pub returns-then-number-ne1 : goal.returns-then-number-ne1
returns-then-number-ne1 c =
    let fits : SFits w64 c.number_of-number.result = record { sfits = c.number_of-number.type_inv } in
    fails c.args.valuation.now (rows_in c.args.sheet.now) (parts_in c.args.sheet.now) c.loop-place.place (record { first = 0; rows = 0 }) c.of.result.now c.number_of-number.result (search rules) (search rules) (search rules) c.number_of-number.ensures fits c.if-number-ne1.true
    ∙ c.loop-place.invariant

pub loop-place-preserved : goal.loop-place-preserved
loop-place-preserved c =
    let fits : SFits w64 c.number_of-number.result = record { sfits = c.number_of-number.type_inv } in
    goes_on c.args.valuation.now (rows_in c.args.sheet.now) (parts_in c.args.sheet.now) c.loop-place.place (record { first = 0; rows = 0 }) c.of.result.now c.number_of-number.result (search rules) (search rules) (search rules) c.number_of-number.ensures fits c.if-number-ne1.false
    ∙ c.loop-place.invariant
