-- What digits write, with everything above a greatest number taken as that.
use Rattle.std.proofs.Common.{◌≡◌, ℕ, ◌+◌, ◌-◌, ◌*◌, min, List, [], ◌∷◌, arith}
use Rattle.std.specs.Prelude.{fold}
use Rattle.jcode.specs.Pieces.{value_after}

pub capped : (cap v w : ℕ) (digits : List ℕ) → w ≡ min v cap → fold (λ v b. min (min (v * 10) cap + (b - 48)) cap) w digits ≡ min (value_after v digits) cap
capped cap v w [] e = e
capped cap v w (b ∷ digits) e = capped cap (v * 10 + (b - 48)) (min (min (w * 10) cap + (b - 48)) cap) digits (omega arith)
