-- What two numbers of 64 bits give in 128 bits is exact.
use Rattle.std.proofs.Common.{◌≡◌, ℕ, zero, suc, ◌*◌, ◌/◌, ℤ, pos, negsuc, ◌*ℤ◌, neg_ℤ, refl, mul-zero, arith, w64, SFits, to_z, of_z}
use native.Mathlib.Nat.{div-add-mod}
use lib.Signed.{rem_z, mag_rem}
use mir.Syntax.{w128}
use Rattle.std.proofs.lemmas.Int.{ints, to_z-of_z}
use Rattle.terms.specs.Numbers.{remainder}

wide : (z : ℤ) → SFits w64 z → SFits w128 z
wide z f = record { sfits = omega (arith, f.sfits) }

pub exact : (f : ℤ → ℤ → ℤ) (a b : ℤ) → SFits w64 a → SFits w64 b → SFits w128 (f a b) → to_z w128 (of_z w128 (f (to_z w128 (of_z w128 (to_z w64 (of_z w64 a)))) (to_z w128 (of_z w128 (to_z w64 (of_z w64 b)))))) ≡ f a b
exact f a b p q r = let p' = wide a p in let q' = wide b q in simp to_z-of_z

pub remainder_fits : (a b : ℤ) → SFits w64 a → SFits w128 (rem_z a b)
remainder_fits a b p = record { sfits = omega (arith, p.sfits, mag_rem a b) }

neg_neg : (b q : ℕ) → negsuc b *ℤ neg_ℤ (pos q) ≡ pos (suc b * q)
neg_neg b zero = omega (arith, ints, mul-zero (suc b))
neg_neg b (suc q) = refl

pos_neg : (b q : ℕ) → pos b *ℤ neg_ℤ (pos q) ≡ neg_ℤ (pos (b * q))
pos_neg b zero = omega (arith, ints, mul-zero b)
pos_neg b (suc q) = refl

-- the remainder with the dividend's sign is what the quotient leaves
pub remainder_is : (a b : ℤ) → rem_z a b ≡ remainder a b
remainder_is (pos a) (pos b) = omega (arith, ints, div-add-mod a b)
remainder_is (pos a) (negsuc b) = omega (arith, ints, div-add-mod a (suc b), neg_neg b (a / suc b))
remainder_is (negsuc a) (pos b) = omega (arith, ints, div-add-mod (suc a) b, pos_neg b (suc a / b))
remainder_is (negsuc a) (negsuc b) = omega (arith, ints, div-add-mod (suc a) (suc b))
