use Rattle.std.proofs.Common.{◌≡◌, ℕ, ◌<◌, get_or, rules}
use Rattle.sheets.proofs.Numbered.{places_are}
use Rattle.sheets.proofs.current.places.Goals as goal

pub returns : goal.returns
returns c =
    let made : (k : ℕ) → k < 64 → get_or c.from_fn.result k 0 ≡ k = λ k h. let at = c.from_fn.ensures.items.at k 0 h in search rules in
    places_are c.from_fn.result 64 c.from_fn.ensures.items.long made
