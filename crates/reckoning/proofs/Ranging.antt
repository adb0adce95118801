-- Ends of ranges, computed in 128 bits.
use Rattle.std.proofs.Common.{◌≡◌, ℤ, pos, ◌+ℤ◌, ◌-ℤ◌, neg_ℤ, ◌∙◌, arith, w64, SFits, to_z, of_z}
use mir.Syntax.{w128}
use Rattle.std.proofs.lemmas.Int.{ints, to_z-of_z}

abbrev pub narrow : ℤ → ℤ
narrow z = to_z w64 (of_z w64 z)

abbrev pub wide : ℤ → ℤ
wide z = to_z w128 (of_z w128 z)

pub sum : (a b : ℤ) → SFits w64 a → SFits w64 b → wide (wide (narrow a) +ℤ wide (narrow b)) ≡ a +ℤ b
sum a b f g = omega (arith, ints, f.sfits, g.sfits)

pub difference : (a b : ℤ) → SFits w64 a → SFits w64 b → wide (wide (narrow a) -ℤ wide (narrow b)) ≡ a -ℤ b
difference a b f g = omega (arith, ints, f.sfits, g.sfits)

pub negative : (a : ℤ) → SFits w64 a → wide (pos 0 -ℤ wide (narrow a)) ≡ neg_ℤ a
negative a f = omega (arith, ints, f.sfits)

-- what a call on two numbers gave
pub given : (op : ℤ → ℤ → ℤ) (a b r : ℤ) → SFits w64 a → SFits w64 b → SFits w64 r → r ≡ op (narrow a) (narrow b) → wide (narrow r) ≡ op a b
given op a b r f g h e =
    let same : r ≡ op a b = simp to_z-of_z at e in
    let as_is : wide (narrow r) ≡ r = omega (arith, ints, h.sfits) in
    as_is ∙ same
