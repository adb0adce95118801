-- What a fault of checking tells.
use Rattle.std.specs.Prelude.{ℕ, List, ◌++◌, codes, decimal}
use Rattle.jcode.specs.declared.refusal.Refusal.{Refusal}
use Rattle.jcode.specs.Refusals.{number_of}
use Rattle.checking.specs.declared.fault.CheckFault.{CheckFault}
use Rattle.checking.specs.declared.fault.CheckFault.TheVariants.{Reading, Rule}

abbrev pub refusal_of : CheckFault → Refusal
refusal_of (Reading f) = f.refusal
refusal_of (Rule r i) = r

-- a byte in reading, a statement in checking
abbrev pub place_of : CheckFault → ℕ
place_of (Reading f) = f.place
place_of (Rule r i) = i

-- the refusal's number and its place
abbrev pub refused : CheckFault → List ℕ
refused f = codes "refused " ++ (decimal (number_of (refusal_of f)) ++ (codes " " ++ decimal (place_of f)))
