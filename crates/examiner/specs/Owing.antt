-- Which slips are owed, by the calls that were accepted.
use Rattle.std.specs.Prelude.{◌≡◌, ◌⊎◌, [], ◌∷◌, ◌++◌, Ok, IsOk}
use Rattle.examiner.specs.declared.slip.Slip.{Slip}
use Rattle.examiner.specs.Histories.{Event, History, took, settled, handed_back, told}

-- an accepted settlement or hand-back of this slip
abbrev pub Spends : Slip → Event → Type 0
Spends l (took r) = ⊥
Spends l (settled m k before r after) = IsOk r × (k ≡ l)
Spends l (handed_back k r) = IsOk r × (k ≡ l)
Spends l (told v) = ⊥

-- one of these calls is
abbrev pub SpentIn : Slip → History → Type 0
SpentIn l [] = ⊥
SpentIn l (e ∷ h) = Spends l e ⊎ SpentIn l h

-- a slip is owed: an accepted take handed it out, and since then it was neither settled nor handed back
pub record Owed (h : History) (l : Slip) : Type 0 where
  pub since : History
  pub earlier : History
  pub handed_out : h ≡ since ++ (took (Ok l) ∷ earlier)
  pub not_spent : SpentIn l since → ⊥
