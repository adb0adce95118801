use Rattle.std.proofs.Common.{◌≡◌, drop, eqb, length, arith, rules, tests}
use Rattle.std.proofs.lemmas.Grind.{common_steps}
use Rattle.std.proofs.lemmas.Iterator.{YieldsList-from_slice}
use Rattle.std.proofs.lemmas.Iterator.Adapters.{YieldsList-from_skip}
use Rattle.std.proofs.lemmas.Iterator.Search.{all_from_yields_List}
use Rattle.std.specs.List.{list_all}
use Rattle.checking.proofs.layout.is_padded.Goals as goal

pub returns-then-listing-le-LIST_LIMIT : goal.returns-then-listing-le-LIST_LIMIT
returns-then-listing-le-LIST_LIMIT c =
    let l = c.args.listing in
    let zeros : c.all.result ≡ list_all (λ v. eqb v 0) (drop l.count l.variables) =
    all_from_yields_List (λ v. eqb v 0) _ _ c.all.result c.all.ensures.ran (YieldsList-from_skip l.count (YieldsList-from_slice l.variables cc) cc) (λ x b q k. search (rules, tests)) in
    let eight : length l.variables ≡ 8 = search rules in
    grind (arith, common_steps, zeros, eight)
