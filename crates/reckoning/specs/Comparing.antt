-- What the certain truths tell of numbers from ranges.
use Rattle.std.specs.Prelude.{◌≡◌, ℕ, zero, suc, ◌+◌, ◌%◌, Bool, true, false, cond, not, ◌&&◌, ◌||◌, ℤ, pos, negsuc, ◌+ℤ◌, neg_ℤ, ◌≤ℤ◌, ◌<ℤ◌, ◌==◌, int_le, int_lt, nat_eq, unsigned_abs, refl}
use Rattle.std.proofs.Common.{sym, ap, ◌∙◌, arith}
use Rattle.std.specs.Int.{int_max}
use Rattle.std.proofs.lemmas.Int.{ints, clamps}
use Rattle.std.proofs.lemmas.Bool.Decides.{nat_tests}
use Rattle.terms.specs.Operators.{truths}
use Rattle.terms.specs.Numbers.{odd, holds, same_number}
use Rattle.reckoning.specs.declared.mark.Mark.{Mark}
use Rattle.reckoning.specs.declared.decision.Decision.TheVariants.{Yes, No, Unknown}
use Rattle.reckoning.specs.Kinds.{is_truth}
use Rattle.reckoning.specs.Decisions.{decision}
use Rattle.reckoning.specs.Certain.{certain_less, certain_equal, certain_odd}
use Rattle.reckoning.specs.Ranges.{is_range, range_holds, range_decided, range_fits}
use Rattle.reckoning.specs.Hulls.{Holds}
use Rattle.reckoning.specs.Telling.{Told, Pairs}

pub in_range : (m : Mark) (n : ℤ) → is_range m ≡ true → Holds m n → (m.low ≤ℤ n) × (n ≤ℤ m.high)
in_range m n r h = (grind (arith, ints), grind (arith, ints))

pub holds_in : (m : Mark) (n : ℤ) → m.low ≤ℤ n → n ≤ℤ m.high → Holds m n
holds_in m n l h = grind (arith, ints)

pub ordered : (m : Mark) → is_range m ≡ true → m.low ≤ℤ m.high
ordered m r = grind (arith, ints)

pub low_in : (m : Mark) → is_range m ≡ true → Holds m m.low
low_in m r = holds_in m m.low (omega (arith, ints)) (ordered m r)

pub high_in : (m : Mark) → is_range m ≡ true → Holds m m.high
high_in m r = holds_in m m.high (ordered m r) (omega (arith, ints))

less_is : (x y : ℤ) → x <ℤ y → int_lt x y ≡ true
less_is x y h = grind (arith, ints)

not_less_is : (x y : ℤ) → y ≤ℤ x → int_lt x y ≡ false
not_less_is x y h = grind (arith, ints)

is_less : (x y : ℤ) → int_lt x y ≡ true → x <ℤ y
is_less x y h = grind (arith, ints)

is_not_less : (x y : ℤ) → int_lt x y ≡ false → y ≤ℤ x
is_not_less x y h = grind (arith, ints)

pub is_most : (x y : ℤ) → int_le x y ≡ true → x ≤ℤ y
is_most x y h = grind (arith, ints)

is_above : (x y : ℤ) → int_le x y ≡ false → y <ℤ x
is_above x y h = grind (arith, ints)

-- of x from al to ah and y from bl to bh
apart_differ : (al ah bl bh x y : ℤ) → (int_lt ah bl || int_lt bh al) ≡ true → al ≤ℤ x → x ≤ℤ ah → bl ≤ℤ y → y ≤ℤ bh → same_number x y ≡ false
apart_differ al ah bl bh x y e p q r s = grind (arith, ints)

all_same : (al ah bl bh x y : ℤ) → (same_number ah bl && same_number bh al) ≡ true → al ≤ℤ x → x ≤ℤ ah → bl ≤ℤ y → y ≤ℤ bh → same_number x y ≡ true
all_same al ah bl bh x y e p q r s = grind (arith, ints)

same_self : (x : ℤ) → same_number x x ≡ true
same_self x = grind (arith, ints)

-- ranges that are not apart share the greater low
shared_low : (al ah bl bh : ℤ) → (int_lt ah bl || int_lt bh al) ≡ false → al ≤ℤ ah → bl ≤ℤ bh → ((int_max al bl) ≤ℤ ah) × ((int_max al bl) ≤ℤ bh)
shared_low al ah bl bh e p q =
    let f : bl ≤ℤ ah = grind (arith, ints) in
    let g : al ≤ℤ bh = grind (arith, ints) in
    (omega (arith, ints, clamps), omega (arith, ints, clamps))

module _ (a b : Mark) (ra : is_range a ≡ true) (rb : is_range b ≡ true) where
  abbrev Both : ℤ × ℤ → Type 0
  Both = Pairs (Holds a) (Holds b)

  pub less_told : Told (certain_less a b) Both (λ p. int_lt p.0 p.1)
  less_told = go (int_lt a.high b.low) (int_le b.high a.low) refl refl
    where
      go : (s t : Bool) → int_lt a.high b.low ≡ s → int_le b.high a.low ≡ t → Told (cond s Yes (cond t No Unknown)) Both (λ p. int_lt p.0 p.1)
      go true t e f =
          let apart = is_less a.high b.low e in (
            ((a.high, b.low), (high_in a ra, low_in b rb), e),
            λ p m.
                let i = in_range a p.0 ra m.0 in
                let j = in_range b p.1 rb m.1 in
                less_is p.0 p.1 (omega (arith, ints, i.1, j.0)),
          )
      go false true e f =
          let apart = is_most b.high a.low f in (
            ((a.low, b.high), (low_in a ra, high_in b rb), not_less_is a.low b.high apart),
            λ p m.
                let i = in_range a p.0 ra m.0 in
                let j = in_range b p.1 rb m.1 in
                not_less_is p.0 p.1 (omega (arith, ints, i.0, j.1)),
          )
      go false false e f =
          (((a.low, b.high), (low_in a ra, high_in b rb), less_is a.low b.high (is_above b.high a.low f)), ((a.high, b.low), (high_in a ra, low_in b rb), e))

  -- unequal ends, where not all ends are the same
  unequal : (same_number a.high b.low && same_number b.high a.low) ≡ false → (p : ℤ × ℤ) × Both p × (same_number p.0 p.1 ≡ false)
  unequal e = go (same_number a.high b.low) refl
    where
      go : (s : Bool) → same_number a.high b.low ≡ s → (p : ℤ × ℤ) × Both p × (same_number p.0 p.1 ≡ false)
      go false f = ((a.high, b.low), (high_in a ra, low_in b rb), f)
      go true f = ((a.low, b.high), (low_in a ra, high_in b rb), grind (arith, ints))

  pub equal_told : Told (certain_equal a b) Both (λ p. same_number p.0 p.1)
  equal_told = go (int_lt a.high b.low || int_lt b.high a.low) (same_number a.high b.low && same_number b.high a.low) refl refl
    where
      go : (s t : Bool) → (int_lt a.high b.low || int_lt b.high a.low) ≡ s → (same_number a.high b.low && same_number b.high a.low) ≡ t → Told (cond s No (cond t Yes Unknown)) Both (λ p. same_number p.0 p.1)
      go true t e f =
          let differ = λ (x y : ℤ) (m : Holds a x) (n : Holds b y). let i = in_range a x ra m in let j = in_range b y rb n in apart_differ a.low a.high b.low b.high x y e i.0 i.1 j.0 j.1 in
          (((a.low, b.low), (low_in a ra, low_in b rb), differ a.low b.low (low_in a ra) (low_in b rb)), λ p m. differ p.0 p.1 m.0 m.1)
      go false true e f =
          let same = λ (x y : ℤ) (m : Holds a x) (n : Holds b y). let i = in_range a x ra m in let j = in_range b y rb n in all_same a.low a.high b.low b.high x y f i.0 i.1 j.0 j.1 in
          (((a.low, b.low), (low_in a ra, low_in b rb), same a.low b.low (low_in a ra) (low_in b rb)), λ p m. same p.0 p.1 m.0 m.1)
      go false false e f =
          let n = int_max a.low b.low in
          let share = shared_low a.low a.high b.low b.high e (ordered a ra) (ordered b rb) in
          (((n, n), (holds_in a n (omega (arith, ints, clamps)) share.0, holds_in b n (omega (arith, ints, clamps)) share.1), same_self n), unequal f)

turned : (n : ℕ) → ((n + 1) % 2 == 1) ≡ not (n % 2 == 1)
turned n = grind (arith, nat_tests)

turned_back : (n : ℕ) → (n % 2 == 1) ≡ not (suc n % 2 == 1)
turned_back n = grind (arith, nat_tests)

abs_neg : (n : ℕ) → unsigned_abs (neg_ℤ (pos n)) ≡ n
abs_neg zero = refl
abs_neg (suc n) = refl

odd_turns : (z : ℤ) → odd (z +ℤ pos 1) ≡ not (odd z)
odd_turns (pos n) = turned n
odd_turns (negsuc n) =
    let at : negsuc n +ℤ pos 1 ≡ neg_ℤ (pos n) = omega (arith, ints) in
    ap odd at ∙ ap (λ k. nat_eq (k % 2) 1) (abs_neg n) ∙ turned_back n

next_in : (a : Mark) → int_lt a.low a.high ≡ true → Holds a (a.low +ℤ pos 1)
next_in a e = holds_in a (a.low +ℤ pos 1) (omega (arith, ints)) (let h = is_less a.low a.high e in omega (arith, ints))

pub odd_told : (a : Mark) → is_range a ≡ true → Told (certain_odd a) (Holds a) odd
odd_told a ra = go (int_lt a.low a.high) (odd a.low) refl refl
  where
    only : int_lt a.low a.high ≡ false → (n : ℤ) → Holds a n → n ≡ a.low
    only e n m = let i = in_range a n ra m in let h = is_not_less a.low a.high e in omega (arith, ints, i.0, i.1)

    go : (s t : Bool) → int_lt a.low a.high ≡ s → odd a.low ≡ t → Told (cond s Unknown (cond t Yes No)) (Holds a) odd
    go true true e f = ((a.low, low_in a ra, f), (a.low +ℤ pos 1, next_in a e, odd_turns a.low ∙ ap not f))
    go true false e f = ((a.low +ℤ pos 1, next_in a e, odd_turns a.low ∙ ap not f), (a.low, low_in a ra, f))
    go false true e f = ((a.low, low_in a ra, f), λ n m. ap odd (only e n m) ∙ f)
    go false false e f = ((a.low, low_in a ra, f), λ n m. ap odd (only e n m) ∙ f)

-- a truth from a range
abbrev pub Truths : Mark → ℤ → Type 0
Truths m n = (is_truth n ≡ true) × Holds m n

zero_left : (a : Mark) → range_fits truths a ≡ true → range_holds a (pos 1) ≡ false → range_holds a (pos 0) ≡ true
zero_left a h e = grind (arith, ints)

not_one : (a : Mark) (n : ℤ) → Truths a n → range_holds a (pos 1) ≡ false → holds n ≡ false
not_one a n h e = go (holds n) refl
  where
    go : (t : Bool) → holds n ≡ t → t ≡ false
    go true f = let one : n ≡ pos 1 = grind (arith, ints) in sym h.1 ∙ ap (range_holds a) one ∙ e
    go false f = refl

is_zero : (n : ℤ) → is_truth n ≡ true → holds n ≡ false → n ≡ pos 0
is_zero n h e = grind (arith, ints)

not_zero : (a : Mark) (n : ℤ) → Truths a n → range_holds a (pos 0) ≡ false → holds n ≡ true
not_zero a n h e = go (holds n) refl
  where
    go : (t : Bool) → holds n ≡ t → t ≡ true
    go true f = refl
    go false f = let none : n ≡ pos 0 = is_zero n h.0 f in sym e ∙ ap (range_holds a) (sym none) ∙ h.1

pub truth_told : (a : Mark) → range_fits truths a ≡ true → Told (range_decided a) (Truths a) holds
truth_told a h = go (range_holds a (pos 1)) (range_holds a (pos 0)) refl refl
  where
    go : (s t : Bool) → range_holds a (pos 1) ≡ s → range_holds a (pos 0) ≡ t → Told (decision s t) (Truths a) holds
    go false t e f = ((pos 0, (refl, zero_left a h e), refl), λ n m. not_one a n m e)
    go true false e f = ((pos 1, (refl, e), refl), λ n m. not_zero a n m f)
    go true true e f = ((pos 1, (refl, e), refl), (pos 0, (refl, f), refl))
