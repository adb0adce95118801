use Rattle.std.proofs.Common.{◌≡◌, ◌<◌, max, pos, ◌-ℤ◌, neg_ℤ, nat_abs, ap, ◌∙◌, ap₂, arith, w64, SFits, to_z, rules}
use mir.Syntax.{w128}
use Rattle.std.proofs.lemmas.Int.{ints, to_z-of_z}
use Rattle.reckoning.specs.Ranges.{ranged, around_zero}
use Rattle.reckoning.proofs.Ranging.{wide}
use Rattle.reckoning.proofs.ranges.within_dividend.Goals as goal

pub returns : goal.returns
returns c =
    let l : SFits w64 c.args.a.low = search rules in
    let h : SFits w64 c.args.a.high = search rules in
    let m = c.max-size.result in
    let small : m < 18446744073709551616 = c.max-size.type_inv in
    let low : wide (pos 0 -ℤ to_z w128 m) ≡ neg_ℤ (pos m) = omega (arith, ints, small) in
    let high : to_z w128 m ≡ pos m = omega (arith, ints, small) in
    let size : m ≡ max (nat_abs c.args.a.low) (nat_abs c.args.a.high) = c.max-size.ensures ∙ ap₂ max (simp to_z-of_z at c.unsigned_abs.ensures.value) (simp to_z-of_z at c.unsigned_abs-2.ensures.value) in
    c.range_or_any.ensures ∙ ap₂ ranged low high ∙ ap around_zero size
