-- The reckoning by points keeps the laws.
use Rattle.std.specs.Prelude.{◌≡◌, ℕ, Bool, true, false, cond, not, ◌&&◌, ◌||◌, ℤ, Some, None, ◌≢◌, refl}
use Rattle.std.proofs.Common.{sym, ap, ap₂, ◌∙◌, subst, arith}
use Rattle.std.proofs.lemmas.Int.{ints}
use Rattle.std.proofs.lemmas.Bool.{and_parts}
use Rattle.terms.specs.declared.operator.Operator.{Operator}
use Rattle.terms.specs.declared.operator.Operator.TheVariants.{Addi, Subi, Negi, Mul, Divi, Mod, Odd, Gei, Lei, Gti, Lti, Mini, Maxi, True, False, And, Or, Not, Implies, Impliedby, Notimplies, Notimpliedby, Equal, Notequal, If}
use Rattle.terms.specs.declared.kind.Sort.{Sort}
use Rattle.terms.specs.declared.kind.Sort.TheVariants.{Same}
use Rattle.terms.specs.Operators.{numbers, truths, operands}
use Rattle.terms.specs.Numbers.{same_number, computed}
use Rattle.reckoning.specs.declared.mark.Mark.{Mark}
use Rattle.reckoning.specs.Kinds.{Choice}
use Rattle.reckoning.specs.Reckonings.{Lawful}
use Rattle.reckoning.specs.Points.{is_point, point_holds, any_mark, point, point_fits, point_applied, point_met, points}

abbrev pub Holds : Mark → ℤ → Type 0
Holds m n = point_holds m n ≡ true

pub point_holds_lem : (n : ℤ) → Holds (point n) n
point_holds_lem n = grind (arith, ints)

-- the number of an operand that is a point
its_number : (s : Sort) (m : Mark) (x : ℤ) → point_fits s m ≡ true → Holds m x → x ≡ m.low
its_number s m x h p = grind (arith, ints)

module _ (a b c : Mark) (x y z : ℤ) where
  one : (f : ℤ → ℤ) (s : Sort) → (point_fits s a && true) ≡ true → Holds a x → f x ≡ f a.low
  one f s h p = ap f (its_number s a x (and_parts _ _ h).0 p)

  two : (f : ℤ → ℤ → ℤ) (s t : Sort) → (point_fits s a && (point_fits t b && true)) ≡ true → Holds a x → Holds b y → f x y ≡ f a.low b.low
  two f s t h p q = ap₂ f (its_number s a x (and_parts _ _ h).0 p) (its_number t b y (and_parts _ _ (and_parts _ _ h).1).0 q)

  -- points have one choice
  pub same_result : (o : Operator) → operands point_fits o a b c ≡ true → Choice Holds o a b c x y z → computed o x y z ≡ computed o a.low b.low c.low
  same_result Addi h p = two (λ i j. computed Addi i j z) numbers numbers h p.1 p.2.1
  same_result Subi h p = two (λ i j. computed Subi i j z) numbers numbers h p.1 p.2.1
  same_result Negi h p = one (λ i. computed Negi i y z) numbers h p.1
  same_result Mul h p = two (λ i j. computed Mul i j z) numbers numbers h p.1 p.2.1
  same_result Divi h p = two (λ i j. computed Divi i j z) numbers numbers h p.1 p.2.1
  same_result Mod h p = two (λ i j. computed Mod i j z) numbers numbers h p.1 p.2.1
  same_result Odd h p = one (λ i. computed Odd i y z) numbers h p.1
  same_result Gei h p = two (λ i j. computed Gei i j z) numbers numbers h p.1 p.2.1
  same_result Lei h p = two (λ i j. computed Lei i j z) numbers numbers h p.1 p.2.1
  same_result Gti h p = two (λ i j. computed Gti i j z) numbers numbers h p.1 p.2.1
  same_result Lti h p = two (λ i j. computed Lti i j z) numbers numbers h p.1 p.2.1
  same_result Mini h p = two (λ i j. computed Mini i j z) numbers numbers h p.1 p.2.1
  same_result Maxi h p = two (λ i j. computed Maxi i j z) numbers numbers h p.1 p.2.1
  same_result True h p = refl
  same_result False h p = refl
  same_result And h p = two (λ i j. computed And i j z) truths truths h p.1 p.2.1
  same_result Or h p = two (λ i j. computed Or i j z) truths truths h p.1 p.2.1
  same_result Not h p = one (λ i. computed Not i y z) truths h p.1
  same_result Implies h p = two (λ i j. computed Implies i j z) truths truths h p.1 p.2.1
  same_result Impliedby h p = two (λ i j. computed Impliedby i j z) truths truths h p.1 p.2.1
  same_result Notimplies h p = two (λ i j. computed Notimplies i j z) truths truths h p.1 p.2.1
  same_result Notimpliedby h p = two (λ i j. computed Notimpliedby i j z) truths truths h p.1 p.2.1
  same_result Equal h p = two (λ i j. computed Equal i j z) Same Same h p.1 p.2.1
  same_result Notequal h p = two (λ i j. computed Notequal i j z) Same Same h p.1 p.2.1
  same_result If h p =
      let t = and_parts _ _ h in
      let u = and_parts _ _ t.1 in
      let e = its_number truths a x t.0 p.1 in
      let f = its_number Same b y u.0 p.2.1 in
      let g = its_number Same c z (and_parts _ _ u.1).0 p.2.2.1 in
      cc

  applied_holds : (o : Operator) → Choice Holds o a b c x y z → Holds (point_applied o a b c) (computed o x y z)
  applied_holds o p = go (operands point_fits o a b c) (λ h. same_result o h p)
    where
      go : (t : Bool) → (t ≡ true → computed o x y z ≡ computed o a.low b.low c.low) → Holds (cond t (point (computed o a.low b.low c.low)) any_mark) (computed o x y z)
      go true e = subst (λ n. Holds (point (computed o a.low b.low c.low)) n) (sym (e refl)) (point_holds_lem (computed o a.low b.low c.low))
      go false e = refl

shared : (a b m : Mark) → point_met a b ≡ Some m → (n : ℤ) × Holds a n × Holds b n
shared a b m e = go (is_point a) refl (point_holds b a.low) refl e
  where
    go : (s : Bool) → is_point a ≡ s → (t : Bool) → point_holds b a.low ≡ t → cond s (cond t (Some a) None) (Some b) ≡ Some m → (n : ℤ) × Holds a n × Holds b n
    go true is true has e = (a.low, grind (arith, ints), has)
    go true is false has e = absurd (let z : ◌≡◌ {A = ℕ} 0 1 = cc in omega arith)
    go false is t has e = (b.low, ap (λ s. not s || same_number a.low b.low) is, grind (arith, ints))

clash : {X : Type 0} → true ≡ false → X
clash e = absurd (let z : ◌≡◌ {A = ℕ} 0 1 = cc in omega arith)

module _ (a b : Mark) (n : ℤ) (p : Holds a n) (q : Holds b n) where
  held_by_meet : (m : Mark) → point_met a b ≡ Some m → Holds m n
  held_by_meet m e = go (is_point a) (point_holds b a.low) e
    where
      go : (s t : Bool) → cond s (cond t (Some a) None) (Some b) ≡ Some m → Holds m n
      go true true e = let same : a ≡ m = cc in subst (λ k. Holds k n) same p
      go true false e = absurd (let z : ◌≡◌ {A = ℕ} 0 1 = cc in omega arith)
      go false t e = let same : b ≡ m = cc in subst (λ k. Holds k n) same q

  not_apart : point_met a b ≡ None → ⊥
  not_apart e = go (is_point a) refl (point_holds b a.low) refl e
    where
      go : (s : Bool) → is_point a ≡ s → (t : Bool) → point_holds b a.low ≡ t → cond s (cond t (Some a) None) (Some b) ≢ None
      go true is true has e = let z : ◌≡◌ {A = ℕ} 0 1 = cc in omega arith
      go true is false has e = let same : n ≡ a.low = its_number Same a n (grind arith) p in clash (sym q ∙ ap (point_holds b) same ∙ has)
      go false is t has e = let z : ◌≡◌ {A = ℕ} 0 1 = cc in omega arith

pub lawful : Lawful Holds points
lawful = record {
  anything = λ n. refl;
  marking = point_holds_lem;
  bounding = λ low high n h k. grind (arith, ints);
  applying = λ o a b c x y z p. applied_holds a b c x y z o p;
  meeting = λ a b m n e p q. held_by_meet a b n p q m e;
  apart = λ a b n e p q. not_apart a b n p q e;
  sharing = shared;
  denied = λ m e p. grind (arith, ints);
  denying = λ m n. grind (arith, ints);
  affirmed = λ m e p. grind (arith, ints);
  affirming = λ m n k. grind (arith, ints);
}
