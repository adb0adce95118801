use Rattle.std.proofs.Common.{◌≡◌, sym, ◌∙◌, subst, ap₂, w64, SFits, rules}
use Rattle.std.specs.Int.{int_min, int_max}
use Rattle.reckoning.specs.Ranges.{ranged, range_computed}
use Rattle.reckoning.proofs.Ranging.{sum, difference, negative, given}
use Rattle.reckoning.proofs.ranges.computed.Goals as goal

pub returns-in-Addi : goal.returns-in-Addi
returns-in-Addi c =
    let al : SFits w64 c.args.a.low = search rules in
    let ah : SFits w64 c.args.a.high = search rules in
    let bl : SFits w64 c.args.b.low = search rules in
    let bh : SFits w64 c.args.b.high = search rules in
    subst (λ o. c.range_or_any.result ≡ range_computed o c.args.a c.args.b c.args.c) (sym c.in-Addi.is)
    (c.range_or_any.ensures ∙ ap₂ ranged (sum _ _ al bl) (sum _ _ ah bh))

pub returns-in-Subi : goal.returns-in-Subi
returns-in-Subi c =
    let al : SFits w64 c.args.a.low = search rules in
    let ah : SFits w64 c.args.a.high = search rules in
    let bl : SFits w64 c.args.b.low = search rules in
    let bh : SFits w64 c.args.b.high = search rules in
    subst (λ o. c.range_or_any-in-Subi.result ≡ range_computed o c.args.a c.args.b c.args.c) (sym c.in-Subi.is)
    (c.range_or_any-in-Subi.ensures ∙ ap₂ ranged (difference _ _ al bh) (difference _ _ ah bl))

pub returns-in-Negi : goal.returns-in-Negi
returns-in-Negi c =
    let al : SFits w64 c.args.a.low = search rules in
    let ah : SFits w64 c.args.a.high = search rules in
    subst (λ o. c.range_or_any-in-Negi.result ≡ range_computed o c.args.a c.args.b c.args.c) (sym c.in-Negi.is)
    (c.range_or_any-in-Negi.ensures ∙ ap₂ ranged (negative _ ah) (negative _ al))

pub returns-in-Mini : goal.returns-in-Mini
returns-in-Mini c =
    let al : SFits w64 c.args.a.low = search rules in
    let ah : SFits w64 c.args.a.high = search rules in
    let bl : SFits w64 c.args.b.low = search rules in
    let bh : SFits w64 c.args.b.high = search rules in
    subst (λ o. c.range_or_any-in-Mini.result ≡ range_computed o c.args.a c.args.b c.args.c) (sym c.in-Mini.is)
    (c.range_or_any-in-Mini.ensures ∙ ap₂ ranged (given int_min _ _ _ al bl (record { sfits = c.min.type_inv }) c.min.ensures.value) (given int_min _ _ _ ah bh (record { sfits = c.min-in-Mini.type_inv }) c.min-in-Mini.ensures.value))

pub returns-in-Maxi : goal.returns-in-Maxi
returns-in-Maxi c =
    let al : SFits w64 c.args.a.low = search rules in
    let ah : SFits w64 c.args.a.high = search rules in
    let bl : SFits w64 c.args.b.low = search rules in
    let bh : SFits w64 c.args.b.high = search rules in
    subst (λ o. c.range_or_any-in-Maxi.result ≡ range_computed o c.args.a c.args.b c.args.c) (sym c.in-Maxi.is)
    (c.range_or_any-in-Maxi.ensures ∙ ap₂ ranged (given int_max _ _ _ al bl (record { sfits = c.max.type_inv }) c.max.ensures.value) (given int_max _ _ _ ah bh (record { sfits = c.max-in-Maxi.type_inv }) c.max-in-Maxi.ensures.value))
