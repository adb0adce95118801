-- The relay: two judges, of whom the second is asked where the first is unsure.
use Rattle.std.specs.Prelude.{◌≡◌, ◌≢◌, ℕ}
use Rattle.std.proofs.Common.{arith}
use Rattle.sheets.specs.Sheets.{Condition}
use Rattle.sheets.specs.Judges.{Opinion, passed, failed, unsure, Sound}

-- the first opinion, unless it is unsure
abbrev pub relayed : Opinion → Opinion → Opinion
relayed passed second = passed
relayed (failed v) second = failed v
relayed unsure second = second

-- what a judge means that relays: what its first does, unless that is unsure, then what its second does
pub record Relays (first second meaning : Condition → Opinion) : Type 0 where
  pub by_first : (c : Condition) → first c ≢ unsure → meaning c ≡ first c
  pub by_second : (c : Condition) → first c ≡ unsure → meaning c ≡ second c

passed_by : {X : Type 0} (a b : Opinion) → relayed a b ≡ passed → (a ≡ passed → X) → (b ≡ passed → X) → X
passed_by passed b e f g = f e
passed_by (failed v) b e f g = absurd (let z : ◌≡◌ {A = ℕ} 0 1 = cc in omega arith)
passed_by unsure b e f g = g e

-- a relay of sound judges is sound
pub relay_sound : (first second : Condition → Opinion) → Sound first → Sound second → Sound (λ c. relayed (first c) (second c))
relay_sound first second f g c keeps e v falsifies = passed_by (first c) (second c) e (λ p. f c keeps p v falsifies) (λ p. g c keeps p v falsifies)
