-- The reckoning by ranges keeps the laws, and is as tight as its ends allow.
use Rattle.std.specs.Prelude.{◌≡◌, ℕ, Bool, true, false, cond, not, ◌&&◌, ◌||◌, List, [], ◌∷◌, ℤ, pos, ◌≤ℤ◌, Some, None, Option, ◌≢◌, int_le, refl}
use Rattle.std.proofs.Common.{sym, ap, ◌∙◌, subst, arith}
use Rattle.std.specs.Int.{int_min, int_max}
use Rattle.std.proofs.lemmas.Int.{ints, clamps}
use Rattle.std.proofs.lemmas.Bool.{and_parts, and_from, cond-true, cond_both}
use Rattle.terms.specs.declared.operator.Operator.{Operator}
use Rattle.terms.specs.declared.kind.Kind.TheVariants.{Number, Truth}
use Rattle.terms.specs.declared.kind.Sort.{Sort}
use Rattle.terms.specs.declared.kind.Sort.TheVariants.{Of, Same}
use Rattle.terms.specs.Operators.{operands_of, result_of, each, operands}
use Rattle.terms.specs.Numbers.{in_span, computed}
use Rattle.reckoning.specs.declared.mark.Mark.{Mark}
use Rattle.reckoning.specs.declared.decision.Decision.TheVariants.{Yes, No}
use Rattle.reckoning.specs.Decisions.{decision}
use Rattle.reckoning.specs.Kinds.{of_sort, Chosen, Choice}
use Rattle.reckoning.specs.Reckonings.{Lawful}
use Rattle.reckoning.specs.Points.{any_mark}
use Rattle.reckoning.specs.Ranges.{is_range, within, range_holds, between, ranged, range_bounded, unknown_of, range_fits, range_computed, range_applied, overlap, range_met, ranges}
use Rattle.reckoning.specs.Hulls.{bounded, Holds, Reached, Hull, Tightly}
use Rattle.reckoning.specs.Sorting.{result_sort}
use Rattle.reckoning.specs.Comparing.{in_range, holds_in, is_most}
use Rattle.reckoning.specs.Hulling.{computed_hull}

ranged_holds : (low high n : ℤ) → low ≤ℤ n → n ≤ℤ high → Holds (ranged low high) n
ranged_holds low high n l h = go (in_span low && in_span high)
  where
    go : (t : Bool) → Holds (cond t (between low high) any_mark) n
    go true = holds_in (between low high) n l h
    go false = refl

-- what is known of no result holds every result
unknown_holds : (s : Sort) (n : ℤ) → of_sort s n ≡ true → Holds (unknown_of s) n
unknown_holds (Of Truth) n h = grind (arith, ints)
unknown_holds (Of Number) n h = refl
unknown_holds Same n h = refl

-- a mark that is a range and has a number of the sort fits it
fits : (s : Sort) (m : Mark) (n : ℤ) → is_range m ≡ true → of_sort s n ≡ true → Holds m n → range_fits s m ≡ true
fits (Of Truth) m n r h p = grind (arith, ints)
fits (Of Number) m n r h p = r
fits Same m n r h p = r

all_fit : (ss : List Sort) (ms : List Mark) (ns : List ℤ) → each (λ s m. is_range m) ss ms ≡ true → Chosen Holds ss ms ns → each range_fits ss ms ≡ true
all_fit [] ms ns r h = refl
all_fit (s ∷ ss) [] ns r h = absurd h
all_fit (s ∷ ss) (m ∷ ms) [] r h = absurd h
all_fit (s ∷ ss) (m ∷ ms) (n ∷ ns) r h = let t = and_parts _ _ r in and_from _ _ (fits s m n t.0 h.0 h.1) (all_fit ss ms ns t.1 h.2)

fitting_range : (s : Sort) (m : Mark) → range_fits s m ≡ true → is_range m ≡ true
fitting_range (Of Truth) m h = (and_parts _ _ h).0
fitting_range (Of Number) m h = h
fitting_range Same m h = h

all_ranges : (ss : List Sort) (ms : List Mark) → each range_fits ss ms ≡ true → each (λ s m. is_range m) ss ms ≡ true
all_ranges [] ms h = refl
all_ranges (s ∷ ss) [] h = h
all_ranges (s ∷ ss) (m ∷ ms) h = let t = and_parts _ _ h in and_from _ _ (fitting_range s m t.0) (all_ranges ss ms t.1)

module _ (o : Operator) (a b c : Mark) where
  applied_holds : (x y z : ℤ) → Choice Holds o a b c x y z → Holds (range_applied o a b c) (computed o x y z)
  applied_holds x y z ch = go (operands range_fits o a b c) refl
    where
      go : (t : Bool) → operands range_fits o a b c ≡ t → Holds (cond t (range_computed o a b c) (unknown_of (result_of o))) (computed o x y z)
      go true ready =
          let f = computed_hull a b c o ready in
          subst (λ m. Holds m (computed o x y z)) (sym f.3) (ranged_holds f.0 f.1 (computed o x y z) (f.2.above x y z ch) (f.2.below x y z ch))
      go false ready = unknown_holds (result_of o) (computed o x y z) (result_sort o x y z)

  pub tight : Tightly o a b c (range_applied o a b c)
  tight d m = record { hull = found; lost = λ none. go none (operands range_fits o a b c) refl }
    where
      found : bounded o a b c ≡ true → (n : ℤ) → Reached o a b c n → (low : ℤ) × (high : ℤ) × Hull o a b c low high × (range_applied o a b c ≡ ranged low high)
      found r n h =
          let ready = all_fit (operands_of o) (a ∷ b ∷ c ∷ []) (h.x ∷ h.y ∷ h.z ∷ []) r h.choice in
          let f = computed_hull a b c o ready in
          (f.0, f.1, f.4 d m, cond-true _ _ _ ready ∙ f.3)

      go : (bounded o a b c ≡ true → (n : ℤ) → Reached o a b c n → ⊥) → (t : Bool) → operands range_fits o a b c ≡ t → cond t (range_computed o a b c) (unknown_of (result_of o)) ≡ unknown_of (result_of o)
      go none true ready = let f = computed_hull a b c o ready in absurd (none (all_ranges (operands_of o) (a ∷ b ∷ c ∷ []) ready) f.0 (f.4 d m).bottom)
      go none false ready = refl

clash : {X : Type 0} → true ≡ false → X
clash e = absurd (let z : ◌≡◌ {A = ℕ} 0 1 = cc in omega arith)

in_overlap : (a b : Mark) (n : ℤ) → is_range a ≡ true → is_range b ≡ true → Holds a n → Holds b n → ((int_max a.low b.low) ≤ℤ n) × (n ≤ℤ (int_min a.high b.high))
in_overlap a b n ra rb p q = let i = in_range a n ra p in let j = in_range b n rb q in (omega (arith, ints, clamps, i.0, j.0), omega (arith, ints, clamps, i.1, j.1))

ordered_true : (x n y : ℤ) → x ≤ℤ n → n ≤ℤ y → int_le x y ≡ true
ordered_true x n y l h = grind (arith, ints)

its_low : (m : Mark) → Holds m m.low
its_low m = grind (arith, ints)

any_holds : (m : Mark) (n : ℤ) → is_range m ≡ false → Holds m n
any_holds m n f = ap (λ s. not s || within m n) f

bounded_holds : (low high n : ℤ) → low ≤ℤ n → n ≤ℤ high → Holds (range_bounded low high) n
bounded_holds low high n l h = cond_both (is_range (between low high)) (between low high) any_mark (λ m. Holds m n) (λ e. holds_in (between low high) n l h) (λ e. refl)

-- a decision by whether 1 and whether 0 is covered
denied_one : (one none : Bool) → decision one none ≡ No → one ≢ true
denied_one one none e h = grind arith

denying_one : (one none : Bool) → (one ≢ true) → decision one none ≡ No
denying_one one none h = grind arith

affirmed_zero : (one none : Bool) → decision one none ≡ Yes → none ≢ true
affirmed_zero one none e h = grind arith

affirming_zero : (one none : Bool) → (decision one none ≢ No) → (none ≢ true) → decision one none ≡ Yes
affirming_zero one none h k = grind arith

module _ (a b : Mark) where
  -- the three ways of a meet
  by_ranges : (P : Option Mark → Type 0) → (is_range a ≡ true → is_range b ≡ true → P (overlap a b)) → (is_range b ≡ false → P (Some a)) → (is_range a ≡ false → P (Some b)) → P (range_met a b)
  by_ranges P p q r = go (is_range a) (is_range b) refl refl
    where
      go : (s t : Bool) → is_range a ≡ s → is_range b ≡ t → P (cond s (cond t (overlap a b) (Some a)) (Some b))
      go true true e f = p e f
      go true false e f = q f
      go false t e f = r e

  abbrev from_low : ℤ
  from_low = int_max a.low b.low

  abbrev to_high : ℤ
  to_high = int_min a.high b.high

  by_overlap : (P : Option Mark → Type 0) → (from_low ≤ℤ to_high → P (Some (between from_low to_high))) → (int_le from_low to_high ≡ false → P None) → P (overlap a b)
  by_overlap P p q = cond_both (int_le from_low to_high) (Some (between from_low to_high)) None P (λ e. p (is_most from_low to_high e)) q

  held_by_meet : (n : ℤ) → Holds a n → Holds b n → (m : Mark) → range_met a b ≡ Some m → Holds m n
  held_by_meet n p q m = by_ranges (λ o. o ≡ Some m → Holds m n)
      (λ ra rb. by_overlap (λ o. o ≡ Some m → Holds m n)
      (λ le e. let same : between from_low to_high ≡ m = cc in let i = in_overlap a b n ra rb p q in subst (λ k. Holds k n) same (holds_in (between from_low to_high) n i.0 i.1))
      (λ f e. absurd (let z : ◌≡◌ {A = ℕ} 0 1 = cc in omega arith)))
      (λ f e. let same : a ≡ m = cc in subst (λ k. Holds k n) same p) (λ f e. let same : b ≡ m = cc in subst (λ k. Holds k n) same q)

  not_apart : (n : ℤ) → Holds a n → Holds b n → range_met a b ≢ None
  not_apart n p q = by_ranges (λ o. o ≢ None)
      (λ ra rb. by_overlap (λ o. o ≢ None) (λ le e. let z : ◌≡◌ {A = ℕ} 0 1 = cc in omega arith)
      (λ f e. let i = in_overlap a b n ra rb p q in clash (sym (ordered_true from_low n to_high i.0 i.1) ∙ f)))
      (λ f e. let z : ◌≡◌ {A = ℕ} 0 1 = cc in omega arith) (λ f e. let z : ◌≡◌ {A = ℕ} 0 1 = cc in omega arith)

  shared : (m : Mark) → range_met a b ≡ Some m → (n : ℤ) × Holds a n × Holds b n
  shared m = by_ranges (λ o. o ≡ Some m → (n : ℤ) × Holds a n × Holds b n)
      (λ ra rb. by_overlap (λ o. o ≡ Some m → (n : ℤ) × Holds a n × Holds b n)
      (λ le e. (from_low, holds_in a from_low (omega (arith, ints, clamps)) (omega (arith, ints, clamps)), holds_in b from_low (omega (arith, ints, clamps)) (omega (arith, ints, clamps))))
      (λ f e. absurd (let z : ◌≡◌ {A = ℕ} 0 1 = cc in omega arith)))
      (λ f e. (a.low, its_low a, any_holds b a.low f)) (λ f e. (b.low, any_holds a b.low f, its_low b))

pub lawful : Lawful Holds ranges
lawful = record {
  anything = λ n. refl;
  marking = λ n. ranged_holds n n n (omega (arith, ints)) (omega (arith, ints));
  bounding = bounded_holds;
  applying = applied_holds;
  meeting = λ a b m n e p q. held_by_meet a b n p q m e;
  apart = λ a b n e p q. not_apart a b n p q e;
  sharing = shared;
  denied = λ m e p. denied_one (range_holds m (pos 1)) (range_holds m (pos 0)) e p;
  denying = λ m n. denying_one (range_holds m (pos 1)) (range_holds m (pos 0)) n;
  affirmed = λ m e p. affirmed_zero (range_holds m (pos 1)) (range_holds m (pos 0)) e p;
  affirming = λ m n k. affirming_zero (range_holds m (pos 1)) (range_holds m (pos 0)) n k;
}
