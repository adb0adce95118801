use Rattle.std.proofs.Common.{◌∙◌, ap₂, w64, SFits, rules}
use Rattle.std.specs.Int.{int_min, int_max}
use Rattle.reckoning.specs.Ranges.{ranged}
use Rattle.reckoning.proofs.Ranging.{given}
use Rattle.reckoning.proofs.ranges.joined.Goals as goal

pub returns : goal.returns
returns c =
    let al : SFits w64 c.args.a.low = search rules in
    let ah : SFits w64 c.args.a.high = search rules in
    let bl : SFits w64 c.args.b.low = search rules in
    let bh : SFits w64 c.args.b.high = search rules in
    c.range_or_any.ensures ∙ ap₂ ranged (given int_min _ _ _ al bl (record { sfits = c.min.type_inv }) c.min.ensures.value) (given int_max _ _ _ ah bh (record { sfits = c.max.type_inv }) c.max.ensures.value)
