-- Each operator over ranges comes to the hull of its results.
use Rattle.std.specs.Prelude.{◌≡◌, Bool, true, false, cond, not, ◌&&◌, ◌||◌, [], ◌∷◌, ℤ, pos, ◌+ℤ◌, ◌-ℤ◌, ◌*ℤ◌, neg_ℤ, ◌≤ℤ◌, ◌≢◌, int_le, int_lt, refl}
use Rattle.std.proofs.Common.{sym, ap, ◌∙◌, subst, arith}
use Rattle.std.specs.Int.{int_min, int_max}
use Rattle.std.proofs.lemmas.Int.{ints, clamps}
use Rattle.std.proofs.lemmas.Bool.{and_parts, cond-true, cond_both}
use Rattle.terms.specs.declared.operator.Operator.{Operator}
use Rattle.terms.specs.declared.operator.Operator.TheVariants.{Addi, Subi, Negi, Mul, Divi, Mod, Odd, Gei, Lei, Gti, Lti, Mini, Maxi, True, False, And, Or, Not, Implies, Impliedby, Notimplies, Notimpliedby, Equal, Notequal, If}
use Rattle.terms.specs.declared.kind.Sort.{Sort}
use Rattle.terms.specs.declared.kind.Sort.TheVariants.{Same}
use Rattle.terms.specs.Operators.{numbers, truths, operands_of, operands}
use Rattle.terms.specs.Numbers.{in_span, computed, truth, holds, odd, same_number}
use Rattle.reckoning.specs.declared.mark.Mark.{Mark}
use Rattle.reckoning.specs.declared.decision.Decision.{Decision}
use Rattle.reckoning.specs.declared.decision.Decision.TheVariants.{Yes, No, Unknown}
use Rattle.reckoning.specs.Kinds.{of_sort, Chosen, Choice}
use Rattle.reckoning.specs.Decisions.{negated, both, either}
use Rattle.reckoning.specs.Certain.{certain_less, certain_equal, certain_odd}
use Rattle.reckoning.specs.Points.{any_mark}
use Rattle.reckoning.specs.Ranges.{is_range, ranged, truth_range, range_decided, range_fits, least4, greatest4, picked, range_computed}
use Rattle.reckoning.specs.Hulls.{Holds, Reached, Hull}
use Rattle.reckoning.specs.Telling.{Told, Pairs, At, Always, told_not, told_both, told_either, told_along}
use Rattle.reckoning.specs.Dividing.{quotient_within, remainder_within}
use Rattle.reckoning.specs.Multiplying.{product_above, product_below}
use Rattle.reckoning.specs.Comparing.{in_range, low_in, high_in, less_told, equal_told, odd_told, Truths, truth_told}
use Rattle.reckoning.specs.Choosing.{From, low_of, high_of, truth_ranged, choose, chosen, truth₁, truth₂}

either_min : (P : ℤ → Type 0) (x y : ℤ) → P x → P y → P (int_min x y)
either_min P x y p q = cond_both (int_lt y x) y x P (λ e. q) (λ e. p)

either_max : (P : ℤ → Type 0) (x y : ℤ) → P x → P y → P (int_max x y)
either_max P x y p q = cond_both (int_lt y x) x y P (λ e. p) (λ e. q)

not_less : (x y : ℤ) → int_le x y ≡ not (int_lt y x)
not_less x y = grind (arith, ints)

-- a result that lies from low to high for all numbers of two ranges
module _ (a b c : Mark) (ra : is_range a ≡ true) (rb : is_range b ≡ true) where
  abbrev Enclosed : Operator → ℤ → ℤ → Type 0
  Enclosed o low high = (x y z : ℤ) → a.low ≤ℤ x → x ≤ℤ a.high → b.low ≤ℤ y → y ≤ℤ b.high → (low ≤ℤ computed o x y z) × (computed o x y z ≤ℤ high)

  number_hull : (o : Operator) → operands_of o ≡ numbers ∷ numbers ∷ [] → (low high : ℤ) → Reached o a b c low → Reached o a b c high → Enclosed o low high → Hull o a b c low high
  number_hull o takes low high p q inside = record { bottom = p; top = q; above = λ x y z ch. (within x y z ch).0; below = λ x y z ch. (within x y z ch).1 }
    where
      within : (x y z : ℤ) → Choice Holds o a b c x y z → (low ≤ℤ computed o x y z) × (computed o x y z ≤ℤ high)
      within x y z ch =
          let t = chosen o numbers numbers takes a b c x y z ch in
          let i = in_range a x ra t.0.1 in
          let j = in_range b y rb t.1.1 in
          inside x y z i.0 i.1 j.0 j.1

  -- the choice of an end of each
  at : (o : Operator) → operands_of o ≡ numbers ∷ numbers ∷ [] → (x y n : ℤ) → Holds a x → Holds b y → computed o x y (pos 0) ≡ n → Reached o a b c n
  at o takes x y n p q e = record { x = x; y = y; z = pos 0; choice = choose o numbers numbers takes a b c x y (pos 0) (refl, p) (refl, q); result = e }

  sum_hull : Hull Addi a b c (a.low +ℤ b.low) (a.high +ℤ b.high)
  sum_hull = number_hull Addi refl _ _ (at Addi refl _ _ _ (low_in a ra) (low_in b rb) refl) (at Addi refl _ _ _ (high_in a ra) (high_in b rb) refl) (λ x y z l h m k. (omega (arith, ints), omega (arith, ints)))

  difference_hull : Hull Subi a b c (a.low -ℤ b.high) (a.high -ℤ b.low)
  difference_hull = number_hull Subi refl _ _ (at Subi refl _ _ _ (low_in a ra) (high_in b rb) refl) (at Subi refl _ _ _ (high_in a ra) (low_in b rb) refl) (λ x y z l h m k. (omega (arith, ints), omega (arith, ints)))

  least_hull : Hull Mini a b c (int_min a.low b.low) (int_min a.high b.high)
  least_hull = number_hull Mini refl _ _ (at Mini refl _ _ _ (low_in a ra) (low_in b rb) refl) (at Mini refl _ _ _ (high_in a ra) (high_in b rb) refl) (λ x y z l h m k. (omega (arith, ints, clamps), omega (arith, ints, clamps)))

  greatest_hull : Hull Maxi a b c (int_max a.low b.low) (int_max a.high b.high)
  greatest_hull = number_hull Maxi refl _ _ (at Maxi refl _ _ _ (low_in a ra) (low_in b rb) refl) (at Maxi refl _ _ _ (high_in a ra) (high_in b rb) refl) (λ x y z l h m k. (omega (arith, ints, clamps), omega (arith, ints, clamps)))

  product_hull : Hull Mul a b c (least4 (a.low *ℤ b.low) (a.low *ℤ b.high) (a.high *ℤ b.low) (a.high *ℤ b.high)) (greatest4 (a.low *ℤ b.low) (a.low *ℤ b.high) (a.high *ℤ b.low) (a.high *ℤ b.high))
  product_hull =
      let p = at Mul refl a.low b.low _ (low_in a ra) (low_in b rb) refl in
      let q = at Mul refl a.low b.high _ (low_in a ra) (high_in b rb) refl in
      let r = at Mul refl a.high b.low _ (high_in a ra) (low_in b rb) refl in
      let s = at Mul refl a.high b.high _ (high_in a ra) (high_in b rb) refl in
      number_hull Mul refl _ _ (either_min (Reached Mul a b c) _ _ (either_min (Reached Mul a b c) _ _ p q) (either_min (Reached Mul a b c) _ _ r s)) (either_max (Reached Mul a b c) _ _ (either_max (Reached Mul a b c) _ _ p q) (either_max (Reached Mul a b c) _ _ r s))
      (λ x y z l h m k. (product_above a.low x a.high b.low y b.high l h m k, product_below a.low x a.high b.low y b.high l h m k))

  -- comparisons
  plain : (s t : Sort) → ((n : ℤ) → of_sort s n ≡ true) → ((n : ℤ) → of_sort t n ≡ true) → (d : Decision) (P : ℤ × ℤ → Bool) → Told d (Pairs (Holds a) (Holds b)) P → Told d (Pairs (From s a) (From t b)) P
  plain s t f g d P = told_along _ P _ P (λ p. p) (λ p. p) (λ p m. ((f p.0, m.0), (g p.1, m.1))) (λ p m. (m.0.1, m.1.1)) (λ p. refl) (λ p. refl) d

  swapped : (d : Decision) (P : ℤ × ℤ → Bool) → Told d (Pairs (Holds b) (Holds a)) P → Told d (Pairs (From numbers a) (From numbers b)) (λ p. P (p.1, p.0))
  swapped d P = told_along _ P _ (λ p. P (p.1, p.0)) (λ p. (p.1, p.0)) (λ p. (p.1, p.0)) (λ p m. ((refl, m.1), (refl, m.0))) (λ p m. (m.1.1, m.0.1)) (λ p. refl) (λ p. refl) d

  less_hull : Hull Lti a b c (low_of (certain_less a b)) (high_of (certain_less a b))
  less_hull = truth₂ Lti numbers numbers refl a b c _ (λ x y z. refl) (certain_less a b) (plain numbers numbers (λ n. refl) (λ n. refl) (certain_less a b) _ (less_told a b ra rb))

  greater_hull : Hull Gti a b c (low_of (certain_less b a)) (high_of (certain_less b a))
  greater_hull = truth₂ Gti numbers numbers refl a b c _ (λ x y z. refl) (certain_less b a) (swapped (certain_less b a) (λ p. int_lt p.0 p.1) (less_told b a rb ra))

  not_less_hull : Hull Gei a b c (low_of (negated (certain_less a b))) (high_of (negated (certain_less a b)))
  not_less_hull = truth₂ Gei numbers numbers refl a b c _ (λ x y z. ap truth (not_less y x)) (negated (certain_less a b)) (told_not _ _ (certain_less a b) (plain numbers numbers (λ n. refl) (λ n. refl) (certain_less a b) (λ p. int_lt p.0 p.1) (less_told a b ra rb)))

  not_greater_hull : Hull Lei a b c (low_of (negated (certain_less b a))) (high_of (negated (certain_less b a)))
  not_greater_hull = truth₂ Lei numbers numbers refl a b c _ (λ x y z. ap truth (not_less x y)) (negated (certain_less b a)) (told_not _ _ (certain_less b a) (swapped (certain_less b a) (λ p. int_lt p.0 p.1) (less_told b a rb ra)))

  same_told : Told (certain_equal a b) (Pairs (From Same a) (From Same b)) (λ p. same_number p.0 p.1)
  same_told = plain Same Same (λ n. refl) (λ n. refl) (certain_equal a b) _ (equal_told a b ra rb)

  equal_hull : Hull Equal a b c (low_of (certain_equal a b)) (high_of (certain_equal a b))
  equal_hull = truth₂ Equal Same Same refl a b c _ (λ x y z. refl) (certain_equal a b) same_told

  unequal_hull : Hull Notequal a b c (low_of (negated (certain_equal a b))) (high_of (negated (certain_equal a b)))
  unequal_hull = truth₂ Notequal Same Same refl a b c _ (λ x y z. refl) (negated (certain_equal a b)) (told_not _ _ (certain_equal a b) same_told)

-- connectives
or_is : (s t : Bool) → (s || t) ≡ not (not s && not t)
or_is true t = refl
or_is false true = refl
or_is false false = refl

turned_or_is : (s t : Bool) → (not t || s) ≡ not (not s && not (not t))
turned_or_is true true = refl
turned_or_is true false = refl
turned_or_is false true = refl
turned_or_is false false = refl

not_or_is : (s t : Bool) → not (not s || t) ≡ (s && not t)
not_or_is true t = refl
not_or_is false t = refl

turned_not_or_is : (s t : Bool) → not (not t || s) ≡ (not s && t)
turned_not_or_is true true = refl
turned_not_or_is true false = refl
turned_not_or_is false true = refl
turned_not_or_is false false = refl

module _ (a b c : Mark) (ta : range_fits truths a ≡ true) (tb : range_fits truths b ≡ true) where
  abbrev first : Decision
  first = range_decided a

  abbrev second : Decision
  second = range_decided b

  abbrev Negated : Mark → Type 0
  Negated m = Told (negated (range_decided m)) (Truths m) (λ n. not (holds n))

  not_first : Negated a
  not_first = told_not _ _ first (truth_told a ta)

  not_second : Negated b
  not_second = told_not _ _ second (truth_told b tb)

  and_hull : Hull And a b c (low_of (both first second)) (high_of (both first second))
  and_hull = truth₂ And truths truths refl a b c _ (λ x y z. refl) (both first second) (told_both _ _ _ _ first second (truth_told a ta) (truth_told b tb))

  or_hull : Hull Or a b c (low_of (either first second)) (high_of (either first second))
  or_hull = truth₂ Or truths truths refl a b c _ (λ x y z. ap truth (or_is (holds x) (holds y))) (either first second) (told_either _ _ _ _ first second (truth_told a ta) (truth_told b tb))

  implies_hull : Hull Implies a b c (low_of (either (negated first) second)) (high_of (either (negated first) second))
  implies_hull = truth₂ Implies truths truths refl a b c _ (λ x y z. ap truth (or_is (not (holds x)) (holds y))) (either (negated first) second) (told_either _ _ _ _ (negated first) second not_first (truth_told b tb))

  implied_hull : Hull Impliedby a b c (low_of (either first (negated second))) (high_of (either first (negated second)))
  implied_hull = truth₂ Impliedby truths truths refl a b c _ (λ x y z. ap truth (turned_or_is (holds x) (holds y))) (either first (negated second)) (told_either _ _ _ _ first (negated second) (truth_told a ta) not_second)

  not_implies_hull : Hull Notimplies a b c (low_of (both first (negated second))) (high_of (both first (negated second)))
  not_implies_hull = truth₂ Notimplies truths truths refl a b c _ (λ x y z. ap truth (not_or_is (holds x) (holds y))) (both first (negated second)) (told_both _ _ _ _ first (negated second) (truth_told a ta) not_second)

  not_implied_hull : Hull Notimpliedby a b c (low_of (both (negated first) second)) (high_of (both (negated first) second))
  not_implied_hull = truth₂ Notimpliedby truths truths refl a b c _ (λ x y z. ap truth (turned_not_or_is (holds x) (holds y))) (both (negated first) second) (told_both _ _ _ _ (negated first) second not_first (truth_told b tb))

-- of one operand, or none
module _ (a b c : Mark) where
  negative_hull : is_range a ≡ true → Hull Negi a b c (neg_ℤ a.high) (neg_ℤ a.low)
  negative_hull ra = record {
    bottom = record { x = a.high; y = pos 0; z = pos 0; choice = (refl, high_in a ra, tt); result = refl };
    top = record { x = a.low; y = pos 0; z = pos 0; choice = (refl, low_in a ra, tt); result = refl };
    above = λ x y z ch. let i = in_range a x ra ch.1 in omega (arith, ints, i.1);
    below = λ x y z ch. let i = in_range a x ra ch.1 in omega (arith, ints, i.0);
  }

  odd_hull : is_range a ≡ true → Hull Odd a b c (low_of (certain_odd a)) (high_of (certain_odd a))
  odd_hull ra = truth₁ Odd numbers refl a b c odd (λ x y z. refl) (certain_odd a) (told_along (Holds a) odd (From numbers a) odd (λ n. n) (λ n. n) (λ n m. (refl, m)) (λ n m. m.1) (λ n. refl) (λ n. refl) (certain_odd a) (odd_told a ra))

  not_hull : range_fits truths a ≡ true → Hull Not a b c (low_of (negated (range_decided a))) (high_of (negated (range_decided a)))
  not_hull ta = truth₁ Not truths refl a b c (λ n. not (holds n)) (λ x y z. refl) (negated (range_decided a)) (told_not (Truths a) holds (range_decided a) (truth_told a ta))

  constant_hull : (o : Operator) (n : ℤ) → operands_of o ≡ [] → ((x y z : ℤ) → computed o x y z ≡ n) → Hull o a b c n n
  constant_hull o n takes is = record {
    bottom = only;
    top = only;
    above = λ x y z ch. let e = is x y z in omega (arith, ints);
    below = λ x y z ch. let e = is x y z in omega (arith, ints);
  }
    where
      only : Reached o a b c n
      only = record { x = pos 0; y = pos 0; z = pos 0; choice = subst (λ ss. Chosen Holds ss (a ∷ b ∷ c ∷ []) (pos 0 ∷ pos 0 ∷ pos 0 ∷ [])) (sym takes) tt; result = is (pos 0) (pos 0) (pos 0) }

as_ranged : (m : Mark) → is_range m ≡ true → m ≡ ranged m.low m.high
as_ranged m r = sym (cond-true (in_span m.low && in_span m.high) m any_mark (and_parts (int_le m.low m.high) (in_span m.low && in_span m.high) r).1)

-- `if!`: of the branches that the first operand leaves
module _ (a b c : Mark) (rb : is_range b ≡ true) (rc : is_range c ≡ true) where
  abbrev Picked : Decision → Type 0
  Picked d = (low : ℤ) × (high : ℤ) × Hull If a b c low high × (picked d b c ≡ ranged low high)

  branch : (v : Bool) (y z : ℤ) → At (Truths a) holds v → Holds b y → Holds c z → Reached If a b c (cond v y z)
  branch v y z h p q = record { x = h.0; y = y; z = z; choice = (h.1.0, h.1.1, (refl, p, (refl, q, tt))); result = ap (λ u. cond u y z) h.2 }

  taken : (v : Bool) → Always (Truths a) holds v → (x y z : ℤ) → Choice Holds If a b c x y z → computed If x y z ≡ cond v y z
  taken v h x y z ch = ap (λ u. cond u y z) (h x (ch.0, ch.1))

  one_of : (v : Bool) (y z : ℤ) → Holds b y → Holds c z → ((int_min b.low c.low) ≤ℤ cond v y z) × (cond v y z ≤ℤ (int_max b.high c.high))
  one_of true y z p q = let i = in_range b y rb p in (omega (arith, ints, clamps, i.0), omega (arith, ints, clamps, i.1))
  one_of false y z p q = let i = in_range c z rc q in (omega (arith, ints, clamps, i.0), omega (arith, ints, clamps, i.1))

  picked_hull : (d : Decision) → Told d (Truths a) holds → Picked d
  picked_hull Yes h = (
    b.low,
    b.high,
    record {
      bottom = branch true b.low c.low h.0 (low_in b rb) (low_in c rc);
      top = branch true b.high c.low h.0 (high_in b rb) (low_in c rc);
      above = λ x y z ch. let e = taken true h.1 x y z ch in let i = in_range b y rb ch.2.1 in omega (arith, ints, i.0);
      below = λ x y z ch. let e = taken true h.1 x y z ch in let i = in_range b y rb ch.2.1 in omega (arith, ints, i.1);
    },
    as_ranged b rb,
  )
  picked_hull No h = (
    c.low,
    c.high,
    record {
      bottom = branch false b.low c.low h.0 (low_in b rb) (low_in c rc);
      top = branch false b.low c.high h.0 (low_in b rb) (high_in c rc);
      above = λ x y z ch. let e = taken false h.1 x y z ch in let i = in_range c z rc ch.2.2.1 in omega (arith, ints, i.0);
      below = λ x y z ch. let e = taken false h.1 x y z ch in let i = in_range c z rc ch.2.2.1 in omega (arith, ints, i.1);
    },
    as_ranged c rc,
  )
  picked_hull Unknown h = (
    int_min b.low c.low,
    int_max b.high c.high,
    record {
      bottom = either_min (Reached If a b c) b.low c.low (branch true b.low c.low h.0 (low_in b rb) (low_in c rc)) (branch false b.low c.low h.1 (low_in b rb) (low_in c rc));
      top = either_max (Reached If a b c) b.high c.high (branch true b.high c.low h.0 (high_in b rb) (low_in c rc)) (branch false b.low c.high h.1 (low_in b rb) (high_in c rc));
      above = λ x y z ch. (one_of (holds x) y z ch.2.1 ch.2.2.1).0;
      below = λ x y z ch. (one_of (holds x) y z ch.2.1 ch.2.2.1).1;
    },
    refl,
  )

pub record Enclosing (o : Operator) (a b c : Mark) (low high : ℤ) : Type 0 where
  pub above : (x y z : ℤ) → Choice Holds o a b c x y z → low ≤ℤ computed o x y z
  pub below : (x y z : ℤ) → Choice Holds o a b c x y z → computed o x y z ≤ℤ high

module _ (a b c : Mark) where
  -- what encloses every result of an operator, and is their hull but for the two that are only bounded by their dividend
  abbrev pub Found : Operator → Type 0
  Found o = (low : ℤ) × (high : ℤ) × Enclosing o a b c low high × (range_computed o a b c ≡ ranged low high) × ((o ≢ Divi) → (o ≢ Mod) → Hull o a b c low high)

  exactly : (o : Operator) (low high : ℤ) → Hull o a b c low high → range_computed o a b c ≡ ranged low high → Found o
  exactly o low high h e = (low, high, record { above = h.above; below = h.below }, e, λ d m. h)

  quotient_enclosing : is_range a ≡ true → Found Divi
  quotient_enclosing ra = (
    _,
    _,
    record {
      above = λ x y z ch. let i = in_range a x ra ch.1 in (quotient_within a.low a.high x i.0 i.1 y).low;
      below = λ x y z ch. let i = in_range a x ra ch.1 in (quotient_within a.low a.high x i.0 i.1 y).high;
    },
    refl,
    λ d m. absurd (d refl),
  )

  remainder_enclosing : is_range a ≡ true → Found Mod
  remainder_enclosing ra = (
    _,
    _,
    record {
      above = λ x y z ch. let i = in_range a x ra ch.1 in (remainder_within a.low a.high x i.0 i.1 y).low;
      below = λ x y z ch. let i = in_range a x ra ch.1 in (remainder_within a.low a.high x i.0 i.1 y).high;
    },
    refl,
    λ d m. absurd (m refl),
  )

  two : (s t : Bool) → (s && (t && true)) ≡ true → (s ≡ true) × (t ≡ true)
  two s t h = ((and_parts _ _ h).0, (and_parts _ _ (and_parts _ _ h).1).0)

  one : (s : Bool) → (s && true) ≡ true → s ≡ true
  one s h = (and_parts _ _ h).0

  decided : (o : Operator) (d : Decision) → range_computed o a b c ≡ truth_range d → Hull o a b c (low_of d) (high_of d) → Found o
  decided o d e h = exactly o (low_of d) (high_of d) h (e ∙ truth_ranged d)

  pub computed_hull : (o : Operator) → operands range_fits o a b c ≡ true → Found o
  computed_hull Addi h = let t = two _ _ h in exactly Addi _ _ (sum_hull a b c t.0 t.1) refl
  computed_hull Subi h = let t = two _ _ h in exactly Subi _ _ (difference_hull a b c t.0 t.1) refl
  computed_hull Negi h = exactly Negi _ _ (negative_hull a b c (one _ h)) refl
  computed_hull Mul h = let t = two _ _ h in exactly Mul _ _ (product_hull a b c t.0 t.1) refl
  computed_hull Divi h = quotient_enclosing (two _ _ h).0
  computed_hull Mod h = remainder_enclosing (two _ _ h).0
  computed_hull Odd h = decided Odd (certain_odd a) refl (odd_hull a b c (one _ h))
  computed_hull Gei h = let t = two _ _ h in decided Gei (negated (certain_less a b)) refl (not_less_hull a b c t.0 t.1)
  computed_hull Lei h = let t = two _ _ h in decided Lei (negated (certain_less b a)) refl (not_greater_hull a b c t.0 t.1)
  computed_hull Gti h = let t = two _ _ h in decided Gti (certain_less b a) refl (greater_hull a b c t.0 t.1)
  computed_hull Lti h = let t = two _ _ h in decided Lti (certain_less a b) refl (less_hull a b c t.0 t.1)
  computed_hull Mini h = let t = two _ _ h in exactly Mini _ _ (least_hull a b c t.0 t.1) refl
  computed_hull Maxi h = let t = two _ _ h in exactly Maxi _ _ (greatest_hull a b c t.0 t.1) refl
  computed_hull True h = decided True Yes refl (constant_hull a b c True (pos 1) refl (λ x y z. refl))
  computed_hull False h = decided False No refl (constant_hull a b c False (pos 0) refl (λ x y z. refl))
  computed_hull And h = let t = two _ _ h in decided And (both (range_decided a) (range_decided b)) refl (and_hull a b c t.0 t.1)
  computed_hull Or h = let t = two _ _ h in decided Or (either (range_decided a) (range_decided b)) refl (or_hull a b c t.0 t.1)
  computed_hull Not h = decided Not (negated (range_decided a)) refl (not_hull a b c (one _ h))
  computed_hull Implies h = let t = two _ _ h in decided Implies (either (negated (range_decided a)) (range_decided b)) refl (implies_hull a b c t.0 t.1)
  computed_hull Impliedby h = let t = two _ _ h in decided Impliedby (either (range_decided a) (negated (range_decided b))) refl (implied_hull a b c t.0 t.1)
  computed_hull Notimplies h = let t = two _ _ h in decided Notimplies (both (range_decided a) (negated (range_decided b))) refl (not_implies_hull a b c t.0 t.1)
  computed_hull Notimpliedby h = let t = two _ _ h in decided Notimpliedby (both (negated (range_decided a)) (range_decided b)) refl (not_implied_hull a b c t.0 t.1)
  computed_hull Equal h = let t = two _ _ h in decided Equal (certain_equal a b) refl (equal_hull a b c t.0 t.1)
  computed_hull Notequal h = let t = two _ _ h in decided Notequal (negated (certain_equal a b)) refl (unequal_hull a b c t.0 t.1)
  computed_hull If h = let t = and_parts _ _ h in let u = two _ _ t.1 in let p = picked_hull a b c u.0 u.1 (range_decided a) (truth_told a t.0) in exactly If p.0 p.1 p.2 p.3
