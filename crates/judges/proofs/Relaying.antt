-- What a relay of two judges answers.
use Rattle.std.proofs.Common.{◌≡◌, ◌≢◌, refl, ap}
use Rattle.sheets.specs.Judges.{Opinion, passed, failed, unsure}
use Rattle.sheets.specs.Sheets.{Condition}
use Rattle.judges.specs.Relays.{relayed, Relays}

by_first : (a b : Opinion) → a ≢ unsure → relayed a b ≡ a
by_first passed b sure = refl
by_first (failed v) b sure = refl
by_first unsure b sure = absurd (sure refl)

pub relays : (first second : Condition → Opinion) → Relays first second (λ c. relayed (first c) (second c))
relays first second = record { by_first = λ c sure. by_first (first c) (second c) sure; by_second = λ c is. ap (λ a. relayed a (second c)) is }
