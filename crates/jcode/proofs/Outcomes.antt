-- What an answer that is no refusal says of the steps that led to it.
use Rattle.std.proofs.Common.{◌≡◌, ℕ, Bool, true, false, cond, ◌⊎◌, refl, ap, inl, inr, arith}
use Rattle.jcode.specs.declared.refusal.ReadFault.{ReadFault}
use Rattle.jcode.specs.Pieces.{Answer, got, refused, and_then}

pub refused_got : {A : Type 0} {f : ReadFault} {a : A} {j : ℕ} → refused f ≡ got a j → ⊥
refused_got e = let z : ◌≡◌ {A = ℕ} 0 1 = cc in omega arith

pub got_what : {A : Type 0} {a b : A} {j k : ℕ} → got a j ≡ got b k → a ≡ b
got_what e = cc

pub got_next : {A : Type 0} {a b : A} {j k : ℕ} → got a j ≡ got b k → j ≡ k
got_next e = cc

pub then_got : {A B : Type 0} (o : Answer A) (f : A → ℕ → Answer B) {b : B} {k : ℕ} → and_then o f ≡ got b k → (a : A) × (j : ℕ) × (o ≡ got a j) × (f a j ≡ got b k)
then_got (got a j) f e = (a, j, refl, e)
then_got (refused y) f e = absurd (refused_got e)

pub when_got : {A : Type 0} (t : Bool) (x : Answer A) (y : ReadFault) {a : A} {j : ℕ} → cond t x (refused y) ≡ got a j → (t ≡ true) × (x ≡ got a j)
when_got true x y e = (refl, e)
when_got false x y e = absurd (refused_got e)

pub unless_got : {A : Type 0} (t : Bool) (x : Answer A) (y : ReadFault) {a : A} {j : ℕ} → cond t (refused y) x ≡ got a j → (t ≡ false) × (x ≡ got a j)
unless_got true x y e = absurd (refused_got e)
unless_got false x y e = (refl, e)

pub either_got : {A : Type 0} (t : Bool) (x y : Answer A) {a : A} {j : ℕ} → cond t x y ≡ got a j → ((t ≡ true) × (x ≡ got a j)) ⊎ ((t ≡ false) × (y ≡ got a j))
either_got true x y e = inl (refl, e)
either_got false x y e = inr (refl, e)

pub then_step : {A B : Type 0} {o : Answer A} (f : A → ℕ → Answer B) {a : A} {j : ℕ} → o ≡ got a j → and_then o f ≡ f a j
then_step f e = ap (λ o. and_then o f) e
