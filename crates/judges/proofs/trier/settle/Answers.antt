use Rattle.std.proofs.Common.{◌≡◌, true, sym, ap, ◌∙◌, subst, rules}
use Rattle.std.specs.Prelude.{nat_le}
use Rattle.sheets.specs.Places.{says}
use Rattle.sheets.specs.Valuations.{Within}
use Rattle.sheets.proofs.Kept.{sheet_keeps}
use Rattle.judges.specs.Tries.{ranges, ways}
use Rattle.judges.proofs.Telling.{within_lows, told_found, told_none}
use Rattle.judges.proofs.trier.settle.Goals as goal
use Rattle.judges.proofs.trier.settle.Goals.{After-find}

pub find-requires-clause-within : goal.find-requires-clause-within
find-requires-clause-within c =
    let s = says c.args.sheet.now in
    subst (Within s.cells) (sym (search rules)) (within_lows s.cells (sheet_keeps c.args.sheet.now).bounded)

few : (c : After-find) → nat_le (ways (ranges (says c.args.sheet.now).parts 0 (says c.args.sheet.now).cells)) 65536 ≡ true
few c = ap (λ rs. nat_le (ways rs) 65536) (sym c.set_ranges.ensures) ∙ sym c.are_few.ensures ∙ c.if-not-are_few.false

pub returns-then-find : goal.returns-then-find
returns-then-find c =
    let s = says c.args.sheet.now in
    told_found s (few (goal.at.returns-then-find c).After-find) c.find.new.valuation (search rules) (search rules)

pub returns : goal.returns
returns c =
    let s = says c.args.sheet.now in
    told_none s (few (goal.at.returns c).After-find) c.fill-2.new.self (search rules) (search rules)
