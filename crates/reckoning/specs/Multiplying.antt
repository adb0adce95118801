-- Products of numbers from two ranges lie between the products of the ends.
use Rattle.std.specs.Prelude.{ℕ, suc, ◌≤◌, ℤ, pos, negsuc, ◌*ℤ◌, ◌≤ℤ◌}
use Rattle.std.proofs.Common.{mul-le-mul_right, arith, leb→le}
use Rattle.std.proofs.Math.IntN.{*ℤ_comm}
use Rattle.std.proofs.lemmas.Int.{ints, clamps}
use Rattle.std.specs.Int.{int_max, int_min}
use Rattle.reckoning.specs.Ranges.{least4, greatest4}

-- a factor that is not negative keeps the order, a negative one turns it
keeps : (n : ℕ) (x y : ℤ) → x ≤ℤ y → (x *ℤ pos n) ≤ℤ (y *ℤ pos n)
keeps n (pos a) (pos b) h = omega (arith, ints, mul-le-mul_right n (leb→le a b h.le))
keeps n (pos a) (negsuc b) h = absurd h.le
keeps n (negsuc a) (pos b) h = omega (arith, ints)
keeps n (negsuc a) (negsuc b) h = let k : suc b ≤ suc a = omega (arith, ints) in omega (arith, ints, mul-le-mul_right n k)

turns : (n : ℕ) (x y : ℤ) → x ≤ℤ y → (y *ℤ negsuc n) ≤ℤ (x *ℤ negsuc n)
turns n (pos a) (pos b) h = omega (arith, ints, mul-le-mul_right (suc n) (leb→le a b h.le))
turns n (pos a) (negsuc b) h = absurd h.le
turns n (negsuc a) (pos b) h = omega (arith, ints)
turns n (negsuc a) (negsuc b) h = let k : suc b ≤ suc a = omega (arith, ints) in omega (arith, ints, mul-le-mul_right (suc n) k)

-- of x from a to b
module _ (a x b : ℤ) (l : a ≤ℤ x) (h : x ≤ℤ b) where
  under : (y : ℤ) → (x *ℤ y) ≤ℤ (int_max (a *ℤ y) (b *ℤ y))
  under (pos n) = omega (arith, ints, clamps, keeps n a x l, keeps n x b h)
  under (negsuc n) = omega (arith, ints, clamps, turns n a x l, turns n x b h)

  over : (y : ℤ) → (int_min (a *ℤ y) (b *ℤ y)) ≤ℤ (x *ℤ y)
  over (pos n) = omega (arith, ints, clamps, keeps n a x l, keeps n x b h)
  over (negsuc n) = omega (arith, ints, clamps, turns n a x l, turns n x b h)

  under_left : (y : ℤ) → (y *ℤ x) ≤ℤ (int_max (y *ℤ a) (y *ℤ b))
  under_left y = rw (*ℤ_comm y x, *ℤ_comm y a, *ℤ_comm y b) (under y)

  over_left : (y : ℤ) → (int_min (y *ℤ a) (y *ℤ b)) ≤ℤ (y *ℤ x)
  over_left y = rw (*ℤ_comm y x, *ℤ_comm y a, *ℤ_comm y b) (over y)

-- and y from c to d
module _ (a x b c y d : ℤ) (l : a ≤ℤ x) (h : x ≤ℤ b) (m : c ≤ℤ y) (k : y ≤ℤ d) where
  pub product_above : (least4 (a *ℤ c) (a *ℤ d) (b *ℤ c) (b *ℤ d)) ≤ℤ (x *ℤ y)
  product_above = omega (arith, ints, clamps, over a x b l h y, over_left c y d m k a, over_left c y d m k b)

  pub product_below : (x *ℤ y) ≤ℤ (greatest4 (a *ℤ c) (a *ℤ d) (b *ℤ c) (b *ℤ d))
  product_below = omega (arith, ints, clamps, under a x b l h y, under_left c y d m k a, under_left c y d m k b)
