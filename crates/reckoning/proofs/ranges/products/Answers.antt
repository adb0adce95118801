use Rattle.std.proofs.Common.{◌≡◌, ℤ, ◌*ℤ◌, ◌∙◌, ap₂, w64, SFits, to_z, of_z, rules}
use mir.Syntax.{w128}
use Rattle.std.proofs.lemmas.Int.{to_z-of_z}
use Rattle.reckoning.specs.Ranges.{ranged, least4, greatest4}
use Rattle.reckoning.proofs.ranges.products.Goals as goal

through : (a b r : ℤ) → SFits w64 a → SFits w64 b → r ≡ to_z w64 (of_z w64 a) *ℤ to_z w64 (of_z w64 b) → r ≡ a *ℤ b
through a b r f g e = simp to_z-of_z at e

four : (op : ℤ → ℤ → ℤ → ℤ → ℤ) (p q r s x : ℤ) → SFits w128 p → SFits w128 q → SFits w128 r → SFits w128 s → SFits w128 x
    → x ≡ op (to_z w128 (of_z w128 p)) (to_z w128 (of_z w128 q)) (to_z w128 (of_z w128 r)) (to_z w128 (of_z w128 s)) → to_z w128 (of_z w128 x) ≡ op p q r s
four op p q r s x f g h i j e = to_z-of_z w128 x j ∙ (simp to_z-of_z at e)

pub returns : goal.returns
returns c =
    let al : SFits w64 c.args.a.low = search rules in
    let ah : SFits w64 c.args.a.high = search rules in
    let bl : SFits w64 c.args.b.low = search rules in
    let bh : SFits w64 c.args.b.high = search rules in
    let ep = through _ _ _ al bl c.product-p.ensures in
    let eq = through _ _ _ al bh c.product-q.ensures in
    let er = through _ _ _ ah bl c.product-r.ensures in
    let es = through _ _ _ ah bh c.product-s.ensures in
    let fp : SFits w128 c.product-p.result = record { sfits = c.product-p.type_inv } in
    let fq : SFits w128 c.product-q.result = record { sfits = c.product-q.type_inv } in
    let fr : SFits w128 c.product-r.result = record { sfits = c.product-r.type_inv } in
    let fs : SFits w128 c.product-s.result = record { sfits = c.product-s.type_inv } in
    let low = four least4 _ _ _ _ _ fp fq fr fs (record { sfits = c.least.type_inv }) c.least.ensures in
    let high = four greatest4 _ _ _ _ _ fp fq fr fs (record { sfits = c.greatest.type_inv }) c.greatest.ensures in
    c.range_or_any.ensures ∙ ap₂ ranged low high ∙ (λ i. ranged (least4 (ep i) (eq i) (er i) (es i)) (greatest4 (ep i) (eq i) (er i) (es i)))
