-- The parts of a sheet at a valuation within its bounds: every row stays in the span, and a part is 0 or 1.
use Rattle.std.proofs.Common.{◌≡◌, ℕ, zero, suc, ◌<◌, Bool, true, false, cond, ◌&&◌, List, [], ◌∷◌, length, get_or, drop, ℤ, ◌≤ℤ◌, int_le, Some, None, Option, refl, sym, ◌∙◌, subst, arith, ap}
use Rattle.std.specs.List.{list_all, slice_get}
use Rattle.std.specs.Option.{option_map}
use Rattle.std.proofs.lemmas.Int.{ints}
use Rattle.std.proofs.lemmas.Bool.{and_parts}
use Rattle.std.proofs.lemmas.List.Sums.{AllPass-from_list_all}
use Rattle.terms.specs.declared.kind.Kind.{Kind}
use Rattle.terms.specs.declared.kind.Kind.TheVariants.{Number, Truth}
use Rattle.terms.specs.declared.kind.Sort.{Sort}
use Rattle.terms.specs.declared.operator.Operator.{Operator}
use Rattle.terms.specs.declared.row.Row.{Row}
use Rattle.terms.specs.declared.row.Row.TheVariants.{Constant, Mention, Operator as Applied}
use Rattle.terms.specs.Operators.{arity, operands_of, result_of, each}
use Rattle.terms.specs.Numbers.{in_span}
use Rattle.terms.specs.Terms.{fold, value}
use Rattle.terms.proofs.Stacking.{length-fold}
use Rattle.reckoning.specs.declared.mark.Mark.{Mark}
use Rattle.reckoning.specs.Kinds.{is_truth, of_kind, asked, is_kind, kinds_fit, kind_given, kinds, kind_of, IsKinded}
use Rattle.reckoning.specs.Ranges.{is_range, between, ranges}
use Rattle.reckoning.specs.Rangewise.{lawful}
use Rattle.reckoning.specs.Hulls.{Holds}
use Rattle.reckoning.specs.Comparing.{in_range, holds_in, is_most}
use Rattle.reckoning.specs.Evaluation.{mark_of, Mentions, Kindly, Covered}
use Rattle.reckoning.specs.Exactness.{Spans}
use Rattle.reckoning.specs.Spanning.{ranged_rows}
use Rattle.reckoning.proofs.Covering.{covering}
use Rattle.reckoning.proofs.Kinding.{kind_holds}
use Rattle.reckoning.proofs.Mentioning.{mentions_all}
use Rattle.checking.specs.Nesting.{nesting, single, writes_term}
use Rattle.sheets.specs.declared.cell.Cell.{Cell}
use Rattle.sheets.specs.Sheets.{CellTerm, Condition, Keeps, part, cell_kind, cell_bounds, is_bound, is_bounded, is_true_term}
use Rattle.sheets.specs.Valuations.{cell_in, is_within, Within}
use Rattle.sheets.proofs.Setters.{clash, unlike}

-- no entry is missing
abbrev Whole : {K : Type 0} → List (Option K) → Type 0
Whole [] = Unit {0}
Whole (None ∷ ks) = ⊥
Whole (Some k ∷ ks) = Whole ks

one_whole : {K : Type 0} (ks : List (Option K)) (k : K) → length ks ≡ 1 → get_or ks 0 None ≡ Some k → Whole ks
one_whole [] k e is = absurd (omega arith)
one_whole (None ∷ ks) k e is = unlike is
one_whole (Some j ∷ []) k e is = tt
one_whole (Some j ∷ i ∷ ks) k e is = absurd (omega arith)

-- kinds that fit an operator's places are there
module _ (shared : Kind) where
  abbrev fits : Sort → Option Kind → Bool
  fits s k = is_kind k (asked shared s)

  operands_there : (ss : List Sort) (ks : List (Option Kind)) → each fits ss (get_or ks 0 None ∷ get_or ks 1 None ∷ get_or ks 2 None ∷ []) ≡ true → Whole (drop (length ss) ks) → Whole ks
  operands_there [] ks h w = w
  operands_there (s ∷ ss) [] h w = tt
  operands_there (s ∷ ss) (None ∷ ks) h w = clash h
  operands_there (s ∷ []) (Some a ∷ ks) h w = w
  operands_there (s ∷ t ∷ ss) (Some a ∷ []) h w = tt
  operands_there (s ∷ t ∷ ss) (Some a ∷ None ∷ ks) h w = clash (and_parts _ _ h).1
  operands_there (s ∷ t ∷ []) (Some a ∷ Some b ∷ ks) h w = w
  operands_there (s ∷ t ∷ u ∷ ss) (Some a ∷ Some b ∷ []) h w = tt
  operands_there (s ∷ t ∷ u ∷ ss) (Some a ∷ Some b ∷ None ∷ ks) h w = clash (and_parts _ _ (and_parts _ _ h).1).1
  operands_there (s ∷ t ∷ u ∷ []) (Some a ∷ Some b ∷ Some c ∷ ks) h w = w
  operands_there (s ∷ t ∷ u ∷ x ∷ ss) (Some a ∷ Some b ∷ Some c ∷ ks) h w =
      let one = and_parts (fits s (Some a)) (fits t (Some b) && (fits u (Some c) && false)) h in
      let two = and_parts (fits t (Some b)) (fits u (Some c) && false) one.1 in
      clash (and_parts (fits u (Some c)) false two.1).1

applied_there : (o : Operator) (ks : List (Option Kind)) → Whole (kind_given o (get_or ks 0 None) (get_or ks 1 None) (get_or ks 2 None) ∷ drop (arity o) ks) → Whole ks
applied_there o ks = go (kinds_fit Number o (get_or ks 0 None) (get_or ks 1 None) (get_or ks 2 None)) refl (kinds_fit Truth o (get_or ks 0 None) (get_or ks 1 None) (get_or ks 2 None)) refl
  where
    go : (s : Bool) → kinds_fit Number o (get_or ks 0 None) (get_or ks 1 None) (get_or ks 2 None) ≡ s → (t : Bool) → kinds_fit Truth o (get_or ks 0 None) (get_or ks 1 None) (get_or ks 2 None) ≡ t → Whole (cond s (Some (asked Number (result_of o))) (cond t (Some (asked Truth (result_of o))) None) ∷ drop (arity o) ks) → Whole ks
    go true e t f w = operands_there Number (operands_of o) ks e w
    go false e true f w = operands_there Truth (operands_of o) ks f w
    go false e false f w = absurd w

module _ {M : Type 0} (at : M → Option Kind) where
  abbrev kinds_left : List (Row M) → List (Option Kind)
  kinds_left rs = fold (kinds at) rs

  rest_whole : (r : Row M) (rs : List (Row M)) → Whole (kinds_left (r ∷ rs)) → Whole (kinds_left rs)
  rest_whole (Constant z) rs w = w
  rest_whole (Mention m) rs w = mentioned (at m) w
    where
      mentioned : (k : Option Kind) → Whole (k ∷ kinds_left rs) → Whole (kinds_left rs)
      mentioned None w = absurd w
      mentioned (Some k) w = w
  rest_whole (Applied o) rs w = applied_there o (kinds_left rs) w

  -- the first of them
  first_kind : (ks : List (Option Kind)) → 0 < length ks → Whole ks → (k : Kind) × (get_or ks 0 None ≡ Some k)
  first_kind [] l w = absurd (omega arith)
  first_kind (None ∷ ks) l w = absurd w
  first_kind (Some k ∷ ks) l w = (k, refl)

  some_left : (r : Row M) (rs : List (Row M)) → 0 < length (kinds_left (r ∷ rs))
  some_left (Constant z) rs = omega arith
  some_left (Mention m) rs = omega arith
  some_left (Applied o) rs = omega arith

  -- each mention has a kind
  mentions_kinded : (rs : List (Row M)) → Whole (kinds_left rs) → Mentions (λ m. (k : Kind) × (at m ≡ Some k)) rs
  mentions_kinded [] w = tt
  mentions_kinded (Constant z ∷ rs) w = mentions_kinded rs w
  mentions_kinded (Mention m ∷ rs) w = (there (at m) refl w, mentions_kinded rs (rest_whole (Mention m) rs w))
    where
      there : (k : Option Kind) → at m ≡ k → Whole (k ∷ kinds_left rs) → (j : Kind) × (at m ≡ Some j)
      there None e w = absurd w
      there (Some j) e w = (j, e)
  mentions_kinded (Applied o ∷ rs) w = mentions_kinded rs (rest_whole (Applied o) rs w)

  -- one term of a kind leaves nothing without one
  term_whole : (rs : List (Row M)) (k : Kind) → writes_term 33 rs ≡ true → kind_of at rs ≡ Some k → Whole (kinds_left rs)
  term_whole rs k e is = one_whole (kinds_left rs) k (length-fold (kinds at) rs ∙ sym (length-fold (nesting 33) rs) ∙ one (fold (nesting 33) rs) e) is
    where
      one : (ns : List (Option ℕ)) → single ns ≡ true → length ns ≡ 1
      one [] e = clash e
      one (None ∷ ns) e = clash e
      one (Some n ∷ []) e = refl
      one (Some n ∷ m ∷ ns) e = clash e

is_its_kind : (o : Option Kind) (k : Kind) → is_kind o k ≡ true → o ≡ Some k
is_its_kind None k e = clash e
is_its_kind (Some Number) Number e = refl
is_its_kind (Some Number) Truth e = clash e
is_its_kind (Some Truth) Number e = clash e
is_its_kind (Some Truth) Truth e = refl

has_kind : (cs : List Cell) (m : ℕ) (k : Kind) → cell_kind cs m ≡ Some k → m < length cs
has_kind [] m k e = unlike e
has_kind (c ∷ cs) zero k e = omega arith
has_kind (c ∷ cs) (suc m) k e = let more = has_kind cs m k e in omega arith

pub mentions_map : {M : Type 0} (P Q : M → Type 0) → ((m : M) → P m → Q m) → (rs : List (Row M)) → Mentions P rs → Mentions Q rs
mentions_map P Q f [] h = tt
mentions_map P Q f (Constant z ∷ rs) h = mentions_map P Q f rs h
mentions_map P Q f (Mention m ∷ rs) h = (f m h.0, mentions_map P Q f rs h.1)
mentions_map P Q f (Applied o ∷ rs) h = mentions_map P Q f rs h

-- a number within a range is in the span
in_span_of : (m : Mark) (n : ℤ) → is_range m ≡ true → Holds m n → in_span n ≡ true
in_span_of m n r h = let i = in_range m n r h in grind (arith, ints)

truth_between : (low high n : ℤ) → (is_bound Truth low && is_bound Truth high) ≡ true → low ≤ℤ n → n ≤ℤ high → is_truth n ≡ true
truth_between low high n b l h = grind (arith, ints)

-- a cell within its bounds
pub record InCell (x : Cell) (n : ℤ) : Type 0 where
  pub bounded : is_bounded x ≡ true
  pub above : x.low ≤ℤ n
  pub below : n ≤ℤ x.high

pub in_first : (c : Cell) (cs : List Cell) (n : ℤ) (ns : List ℤ) → list_all is_bounded (c ∷ cs) ≡ true → is_within (c ∷ cs) (n ∷ ns) ≡ true → InCell c n
in_first c cs n ns b h =
    let t = and_parts _ _ h in
    let u = and_parts (int_le c.low n) (int_le n c.high) t.0 in
    record { bounded = (and_parts _ _ b).0; above = is_most c.low n u.0; below = is_most n c.high u.1 }

in_cell : (cs : List Cell) (v : List ℤ) → list_all is_bounded cs ≡ true → is_within cs v ≡ true → (i : ℕ) (x : Cell) → slice_get cs i ≡ Some x → InCell x (cell_in v i)
in_cell [] v b h i x e = unlike e
in_cell (c ∷ cs) [] b h i x e = clash h
in_cell (c ∷ cs) (n ∷ ns) b h zero x e = let same : c ≡ x = cc in subst (λ y. InCell y n) same (in_first c cs n ns b h)
in_cell (c ∷ cs) (n ∷ ns) b h (suc i) x e = in_cell cs ns (and_parts _ _ b).1 (and_parts _ _ h).1 i x e

of_its_kind : (x : Cell) (n : ℤ) → InCell x n → (k : Kind) → x.kind ≡ k → of_kind k n ≡ true
of_its_kind x n c Number e = refl
of_its_kind x n c Truth e = truth_between x.low x.high n (subst (λ k. (is_bound k x.low && is_bound k x.high) ≡ true) e (and_parts _ _ c.bounded).0) c.above c.below

-- so its number is in the span
pub in_cell_span : (x : Cell) (n : ℤ) → InCell x n → in_span n ≡ true
in_cell_span x n c = go x.kind (and_parts _ _ c.bounded).0
  where
    go : (k : Kind) → (is_bound k x.low && is_bound k x.high) ≡ true → in_span n ≡ true
    go Number b = let l = c.above in let h = c.below in grind (arith, ints)
    go Truth b = let l = c.above in let h = c.below in grind (arith, ints)

-- what holds of a part at a valuation within the bounds
pub record Stays (v : List ℤ) (e : CellTerm) : Type 0 where
  -- the value of every row lies in the span
  pub spans : Spans (cell_in v) e
  -- and that of the part is 0 or 1
  pub truth : is_truth (value (cell_in v) e) ≡ true

module _ (cs : List Cell) (v : List ℤ) (bounded : list_all is_bounded cs ≡ true) (within : is_within cs v ≡ true) where
  kindly_at : (m : ℕ) (o : Option Cell) → slice_get cs m ≡ o → (k : Kind) → option_map (λ c. c.kind) o ≡ Some k → of_kind k (cell_in v m) ≡ true
  kindly_at m None e k h = unlike h
  kindly_at m (Some x) e k h = let same : x.kind ≡ k = cc in of_its_kind x (cell_in v m) (in_cell cs v bounded within m x e) k same

  covered_at : (m : ℕ) (o : Option Cell) → slice_get cs m ≡ o → (k : Mark) → option_map (λ c. between c.low c.high) o ≡ Some k → Holds k (cell_in v m)
  covered_at m None e k h = unlike h
  covered_at m (Some x) e k h =
      let same : between x.low x.high ≡ k = cc in
      let c = in_cell cs v bounded within m x e in
      subst (λ j. Holds j (cell_in v m)) same (holds_in (between x.low x.high) (cell_in v m) c.above c.below)

  pub kindly : (rs : CellTerm) → Mentions (Kindly (cell_kind cs) (cell_in v)) rs
  kindly = mentions_all (Kindly (cell_kind cs) (cell_in v)) (λ m. kindly_at m (slice_get cs m) refl)

  covered : (rs : CellTerm) → Mentions (Covered Holds (cell_bounds cs) (cell_in v)) rs
  covered = mentions_all (Covered Holds (cell_bounds cs) (cell_in v)) (λ m. covered_at m (slice_get cs m) refl)

  all_span : (rs : CellTerm) → Whole (fold (kinds (cell_kind cs)) rs) → ranged_rows (cell_bounds cs) rs ≡ true → Spans (cell_in v) rs
  all_span [] w r = tt
  all_span (x ∷ rs) w r =
      let first = first_kind (cell_kind cs) (fold (kinds (cell_kind cs)) (x ∷ rs)) (some_left (cell_kind cs) x rs) w in
      let t = and_parts (is_range (mark_of ranges (cell_bounds cs) (x ∷ rs))) (ranged_rows (cell_bounds cs) rs) r in
      let mark = covering Holds ranges lawful (cell_bounds cs) (x ∷ rs) (cell_kind cs) (cell_in v) first.0 first.1 (kindly (x ∷ rs)) (covered (x ∷ rs)) in
      (in_span_of (mark_of ranges (cell_bounds cs) (x ∷ rs)) (value (cell_in v) (x ∷ rs)) t.0 mark, all_span rs (rest_whole (cell_kind cs) x rs w) t.1)

  term_stays : (e : CellTerm) → writes_term 33 e ≡ true → is_true_term cs e ≡ true → ranged_rows (cell_bounds cs) e ≡ true → Stays v e
  term_stays e complete truth ranged =
      let is = is_its_kind (kind_of (cell_kind cs) e) Truth truth in
      record {
        spans = all_span e (term_whole (cell_kind cs) e Truth complete is) ranged;
        truth = kind_holds (cell_kind cs) (cell_in v) e (kindly e) Truth is;
      }

-- a part of a condition that keeps the rules
module _ (c : Condition) (kept : Keeps c) (p : ℕ) (there : p < length c.parts) where
  pub part_complete : writes_term 33 (part c p) ≡ true
  part_complete = AllPass-from_list_all (writes_term 33) c.parts kept.complete p [] there

  pub part_truth : IsKinded (cell_kind c.cells) Truth (part c p)
  part_truth = is_its_kind (kind_of (cell_kind c.cells) (part c p)) Truth (AllPass-from_list_all (is_true_term c.cells) c.parts kept.truths p [] there)

  pub part_ranged : ranged_rows (cell_bounds c.cells) (part c p) ≡ true
  part_ranged = AllPass-from_list_all (ranged_rows (cell_bounds c.cells)) c.parts kept.ranged p [] there

  -- it mentions only cells that there are
  pub part_mentions : Mentions (λ m. m < length c.cells) (part c p)
  part_mentions =
      mentions_map (λ m. (k : Kind) × (cell_kind c.cells m ≡ Some k)) (λ m. m < length c.cells) (λ m h. has_kind c.cells m h.0 h.1) (part c p)
      (mentions_kinded (cell_kind c.cells) (part c p) (term_whole (cell_kind c.cells) (part c p) Truth part_complete part_truth))

  pub part_stays : (v : List ℤ) → Within c.cells v → Stays v (part c p)
  part_stays v within = term_stays c.cells v kept.bounded within (part c p) part_complete (ap (λ k. is_kind k Truth) part_truth) part_ranged
