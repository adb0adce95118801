use Rattle.std.proofs.Common.{◌≡◌, ℕ, ◌+◌, ◌<◌, Bool, true, false, not, ◌&&◌, List, ◌∷◌, drop, length, get_or, sym, ap, ◌∙◌, rules, tests}
use Rattle.std.specs.List.{list_any}
use Rattle.std.proofs.lemmas.Iterator.{YieldsList-from_slice}
use Rattle.std.proofs.lemmas.Iterator.Search.{any_from_yields_List}
use Rattle.std.proofs.lemmas.List.{at_drop_all, at_drop_more, take_rest}
use Rattle.checking.specs.Tests.{apart}
use Rattle.checking.proofs.apart.are_apart.Goals as goal

-- one element more, compared with those after it
compared : {X : Type 0} (p : X → X → Bool) (xs : List X) (i : ℕ) (x : X) (r : Bool) → i < length xs → x ≡ get_or xs i x → r ≡ list_any (p x) (drop (i + 1) xs) → apart p (drop i xs) ≡ (not r && apart p (drop (i + 1) xs))
compared p xs i x r lt is e =
    at_drop_more (apart p) xs i x lt
    ∙ ap (λ y. apart p (y ∷ drop (i + 1) xs)) (sym is)
    ∙ ap (λ b. not b && apart p (drop (i + 1) xs)) (sym e)

pub returns-then-any : goal.returns-then-any
returns-then-any g c p computes =
    let found : c.any.result ≡ list_any (p c.index-xs-i.result) c.iter.result.rest.now =
    any_from_yields_List (p c.index-xs-i.result) _ _ c.any.result c.any.ensures.ran (YieldsList-from_slice c.iter.result.rest.now cc) (λ x b q k. (search (rules, tests), search (rules, tests, computes))) in
    let rest = c.iter.ensures.rest ∙ take_rest c.args.xs.now (c.loop-i.i + 1) in
    sym (compared p c.args.xs.now c.loop-i.i c.index-xs-i.result true c.loop-i-test.true c.index-xs-i.is (sym c.if-any.true ∙ found ∙ ap (list_any (p c.index-xs-i.result)) rest)) ∙ c.loop-i.invariant p computes

pub loop-i-preserved : goal.loop-i-preserved
loop-i-preserved g c p computes =
    let found : c.any.result ≡ list_any (p c.index-xs-i.result) c.iter.result.rest.now =
    any_from_yields_List (p c.index-xs-i.result) _ _ c.any.result c.any.ensures.ran (YieldsList-from_slice c.iter.result.rest.now cc) (λ x b q k. (search (rules, tests), search (rules, tests, computes))) in
    let rest = c.iter.ensures.rest ∙ take_rest c.args.xs.now (c.loop-i.i + 1) in
    sym (compared p c.args.xs.now c.loop-i.i c.index-xs-i.result false c.loop-i-test.true c.index-xs-i.is (sym c.if-any.false ∙ found ∙ ap (list_any (p c.index-xs-i.result)) rest)) ∙ c.loop-i.invariant p computes

pub returns : goal.returns
returns g c p computes = sym (at_drop_all (apart p) c.args.xs.now c.loop-i.i c.loop-i-test.false) ∙ c.loop-i.invariant p computes
