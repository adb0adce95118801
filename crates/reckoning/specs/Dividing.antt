-- A quotient and a remainder are no greater than the dividend, in magnitude.
use Rattle.std.proofs.Common.{subst, div-le_self, arith}
use Rattle.std.specs.Prelude.{ℕ, suc, ◌/◌, ◌%◌, ◌≤◌, max, ℤ, pos, negsuc, neg_ℤ, ◌≤ℤ◌, int_rem, unsigned_abs}
use Rattle.std.proofs.Math.Nat.{mod-le}
use Rattle.std.proofs.lemmas.Int.{ints}
use Rattle.terms.specs.Numbers.{quotient, remainder}
use Rattle.terms.proofs.Wide.{remainder_is}

-- from -m to m
pub record Around (m : ℕ) (n : ℤ) : Type 0 where
  pub low : neg_ℤ (pos m) ≤ℤ n
  pub high : n ≤ℤ pos m

around_pos : (m n : ℕ) → n ≤ m → Around m (pos n)
around_pos m n h = record { low = omega (arith, ints); high = omega (arith, ints) }

around_neg : (m n : ℕ) → n ≤ m → Around m (neg_ℤ (pos n))
around_neg m n h = record { low = omega (arith, ints); high = omega (arith, ints) }

wider : (m k : ℕ) (n : ℤ) → k ≤ m → Around k n → Around m n
wider m k n h r = let l = r.low in let u = r.high in record { low = omega (arith, ints); high = omega (arith, ints) }

quotient_around : (a b : ℤ) → Around (unsigned_abs a) (quotient a b)
quotient_around (pos a) (pos b) = around_pos a (a / b) (div-le_self a b)
quotient_around (pos a) (negsuc b) = around_neg a (a / suc b) (div-le_self a (suc b))
quotient_around (negsuc a) (pos b) = around_neg (suc a) (suc a / b) (div-le_self (suc a) b)
quotient_around (negsuc a) (negsuc b) = around_pos (suc a) (suc a / suc b) (div-le_self (suc a) (suc b))

rem_around : (a b : ℤ) → Around (unsigned_abs a) (int_rem a b)
rem_around (pos a) b = around_pos a (a % unsigned_abs b) (mod-le a (unsigned_abs b))
rem_around (negsuc a) b = around_neg (suc a) (suc a % unsigned_abs b) (mod-le (suc a) (unsigned_abs b))

-- of a dividend from low to high
module _ (low high x : ℤ) (l : low ≤ℤ x) (h : x ≤ℤ high) where
  size : unsigned_abs x ≤ max (unsigned_abs low) (unsigned_abs high)
  size = omega (arith, ints)

  pub quotient_within : (y : ℤ) → Around (max (unsigned_abs low) (unsigned_abs high)) (quotient x y)
  quotient_within y = wider _ (unsigned_abs x) _ size (quotient_around x y)

  pub remainder_within : (y : ℤ) → Around (max (unsigned_abs low) (unsigned_abs high)) (remainder x y)
  remainder_within y = wider _ (unsigned_abs x) _ size (subst (Around (unsigned_abs x)) (remainder_is x y) (rem_around x y))
