-- The law of the trier: it passes only what no valuation falsifies, since each falsifying valuation agrees with some try on all cells that rows mention.
use Rattle.std.specs.Prelude.{◌≡◌, ℕ, zero, suc, ◌<◌, ◌≤◌, ◌⊎◌, Bool, true, false, cond, List, [], ◌∷◌, ◌++◌, length, drop, ℤ, pos, ◌+ℤ◌, ◌≤ℤ◌, Some, None, Option, int_le, slice_index_or, refl}
use Rattle.std.specs.List.{flat_map, list_any, list_all, slice_get}
use Rattle.std.specs.Option.{option_or}
use Rattle.std.proofs.Common.{sym, ap, ◌∙◌, subst, inl, inr, arith}
use Rattle.std.proofs.lemmas.Int.{ints, by_lt_z}
use Rattle.std.proofs.lemmas.List.{append-nil, length-drop, length_push, get_or_append_left, get_or_push, get_or_past}
use Rattle.std.proofs.lemmas.Option.{slice_get-get_or}
use Rattle.std.proofs.lemmas.Bool.{and_parts, and_from, or_left, or_right, or_cases, ltb-true, eqb-true, eq-eqb, cases_lt, true≢false}
use Rattle.terms.specs.declared.row.Row.TheVariants.{Constant, Mention, Operator as Applied}
use Rattle.terms.specs.Terms.{value}
use Rattle.reckoning.specs.Evaluation.{Mentions}
use Rattle.reckoning.specs.Comparing.{is_most}
use Rattle.reckoning.proofs.Mentioning.{value_agrees}
use Rattle.sheets.specs.declared.cell.Cell.{Cell}
use Rattle.sheets.specs.Sheets.{CellTerm, Condition, part, set_by, setting_term, is_below, Sets, Keeps}
use Rattle.sheets.specs.Valuations.{cell_in, GoalAloneFalse, Falsifies, allows}
use Rattle.sheets.specs.Judges.{passed, unsure, Sound}
use Rattle.judges.specs.Tries.{mentions, occurs, gap, ascending, above, top, Try, next_from, tries_from, first, is_refuted, proposed, trier}
use Rattle.judges.specs.Keeping.{same_number_lem, within_length, within_at, set_value, part_true}
use Rattle.judges.specs.Passing.{at_place, set_by_at}

clash : {X : Type 0} → false ≡ true → X
clash e = absurd (true≢false (sym e))

pub never : {X A : Type 0} (x : A) → None ≡ Some x → X
never x e = absurd (let z : ◌≡◌ {A = ℕ} 0 1 = cc in omega arith)

-- a number of a list
abbrev pub Among : ℤ → List ℤ → Type 0
Among n [] = ⊥
Among n (m ∷ ms) = (m ≡ n) ⊎ Among n ms

ascending_has : (n m : ℤ) (k : ℕ) → m ≤ℤ n → int_le (m +ℤ pos k) n ≡ false → Among n (ascending m k)
ascending_has n m zero low high = absurd (let z : ◌≡◌ {A = ℕ} 0 1 = grind (arith, ints) in omega arith)
ascending_has n m (suc k) low high =
    by_lt_z m n (λ lt. inr (ascending_has n (m +ℤ pos 1) k (omega (arith, ints)) (grind (arith, ints)))) (λ le. inl (omega (arith, ints)))

-- a number from a low to a high stands among the low and the numbers above it
pub above_has : (n low high : ℤ) → low ≤ℤ n → n ≤ℤ high → Among n (low ∷ above low high)
above_has n low high l h =
    by_lt_z low n (λ lt. inr (ascending_has n (low +ℤ pos 1) (gap low high) (omega (arith, ints)) (grind (arith, ints)))) (λ le. inl (omega (arith, ints)))

-- the numbers that a cell takes after those of the lower cells
abbrev pub numbers : Condition → Option ℕ → Cell → List ℤ → List ℤ
numbers s None c lower = c.low ∷ above c.low (top (occurs s.parts (length lower)) None c)
numbers s (Some p) c lower = cond (allows c (value (cell_in lower) (setting_term (part s p)))) (value (cell_in lower) (setting_term (part s p)) ∷ []) []

module _ (s : Condition) where
  pub first-append : (ts us : List Try) → first s (ts ++ us) ≡ option_or (first s ts) (first s us)
  first-append [] us = refl
  first-append (None ∷ ts) us = first-append ts us
  first-append (Some v ∷ ts) us = go (is_refuted v s.parts) (first-append ts us)
    where
      go : (b : Bool) → first s (ts ++ us) ≡ option_or (first s ts) (first s us) → cond b (Some v) (first s (ts ++ us)) ≡ option_or (cond b (Some v) (first s ts)) (first s us)
      go true ih = refl
      go false ih = ih

  -- the tries that end at a cell are none that is refuted
  pub first_next : (go : List ℤ → List Try) (o : Option ℕ) (c : Cell) (lower : List ℤ) → first s (next_from go s o c lower) ≡ first s (flat_map (λ n. go (lower ++ n ∷ [])) (numbers s o c lower))
  first_next go None c lower = refl
  first_next go (Some p) c lower = pick (allows c n)
    where
      n : ℤ
      n = value (cell_in lower) (setting_term (part s p))

      pick : (b : Bool) → first s (cond b (go (lower ++ n ∷ [])) (None ∷ [])) ≡ first s (flat_map (λ n. go (lower ++ n ∷ [])) (cond b (n ∷ []) []))
      pick true = ap (first s) (sym (append-nil (go (lower ++ n ∷ []))))
      pick false = refl

  -- where nothing is found in the tries of several numbers together, nothing is found in those of one
  found_in_none : (f : ℤ → List Try) (ns : List ℤ) → first s (flat_map f ns) ≡ None → (n : ℤ) → Among n ns → first s (f n) ≡ None
  found_in_none f [] e n h = absurd h
  found_in_none f (m ∷ ns) e n h =
      let both = left (first s (f m)) (first s (flat_map f ns)) (sym (first-append (f m) (flat_map f ns)) ∙ e) in
      elim h [
        | inl is ↦ ap (λ i. first s (f i)) (sym is) ∙ both.0
        | inr t ↦ found_in_none f ns both.1 n t
      ]
    where
      left : (o p : Option (List ℤ)) → option_or o p ≡ None → (o ≡ None) × (p ≡ None)
      left None p e = (refl, e)
      left (Some x) p e = never x (sym e)

-- what holds of every cell that a term mentions
pub of_mentioned : (P : ℕ → Type 0) (e : CellTerm) → ((i : ℕ) → list_any (mentions i) e ≡ true → P i) → Mentions P e
of_mentioned P [] h = tt
of_mentioned P (Constant z ∷ e) h = of_mentioned P e h
of_mentioned P (Mention j ∷ e) h = (h j (or_left _ _ (eq-eqb j j refl)), of_mentioned P e (λ i m. h i (or_right _ _ m)))
of_mentioned P (Applied o ∷ e) h = of_mentioned P e h

pub occurs_in : (es : List CellTerm) (p i : ℕ) → p < length es → list_any (mentions i) (slice_index_or es p []) ≡ true → occurs es i ≡ true
occurs_in [] p i lt h = absurd (omega arith)
occurs_in (e ∷ es) zero i lt h = or_left _ _ h
occurs_in (e ∷ es) (suc p) i lt h = or_right _ _ (occurs_in es p i (omega arith) h)

-- a row mentions what it is said to mention below i
pub below : (i j : ℕ) (e : CellTerm) → list_all (is_below i) e ≡ true → list_any (mentions j) e ≡ true → j < i
below i j [] all any = clash any
below i j (Constant z ∷ e) all any = below i j e all any
below i j (Applied o ∷ e) all any = below i j e all any
below i j (Mention k ∷ e) all any =
    elim (or_cases _ _ any) [
      | inl is ↦ let same = eqb-true k j is in let lt = ltb-true k i (and_parts _ _ all).0 in omega arith
      | inr t ↦ below i j e (and_parts _ _ all).1 t
    ]

-- what holds of each cell and its number
abbrev pub Each : (ℕ → ℤ → Type 0) → List ℤ → Type 0
Each P lower = (i : ℕ) → i < length lower → P i (cell_in lower i)

-- one number more
pub each_more : (P : ℕ → ℤ → Type 0) (lower : List ℤ) (n : ℤ) → Each P lower → P (length lower) n → Each P (lower ++ n ∷ [])
each_more P lower n all last i lt =
    elim (cases_lt i (length lower)) [
      | inl less ↦ subst (P i) (sym (get_or_append_left lower (n ∷ []) (pos 0) i less)) (all i less)
      | inr more ↦
          let is : i ≡ length lower = omega (arith, length_push lower n) in
          subst (λ j. P j (cell_in (lower ++ n ∷ []) j)) (sym is) (subst (P (length lower)) (sym (get_or_push lower n (pos 0) (length lower) refl)) last)
    ]

-- the cell that comes after those that have numbers
pub record Next (s : Condition) (c : Cell) (cs : List Cell) (lower : List ℤ) : Type 0 where
  pub inside : length lower < length s.cells
  pub here : slice_get s.cells (length lower) ≡ Some c
  pub set : set_by s.cells (length lower) ≡ c.set_by
  pub rest : (n : ℤ) → cs ≡ drop (length (lower ++ n ∷ [])) s.cells
  pub short : (n : ℤ) → length (lower ++ n ∷ []) ≤ length s.cells

pub comes_next : (s : Condition) (c : Cell) (cs : List Cell) (lower : List ℤ) → c ∷ cs ≡ drop (length lower) s.cells → Next s c cs lower
comes_next s c cs lower at =
    let i = length lower in
    let t = at_place s.cells i c cs c at in
    record {
      inside = t.0;
      here = slice_get-get_or s.cells i c t.0 ∙ ap Some (sym t.1);
      set = sym (ap (λ d. d.set_by) t.1 ∙ set_by_at s.cells i c t.0);
      rest = λ n. t.2 ∙ ap (λ j. drop j s.cells) (sym (length_push lower n));
      short = λ n. omega (arith, t.0, length_push lower n);
    }

-- A falsifying valuation is tried, as far as it matters.
module _ (s : Condition) (keeps : Keeps s) (v : List ℤ) (f : Falsifies s v) where
  abbrev Agrees : List ℤ → Type 0
  Agrees = Each (λ i n. occurs s.parts i ≡ true → n ≡ cell_in v i)

  -- what the part that sets a cell says by the lower cells
  setting : (lower : List ℤ) → Agrees lower → (p : ℕ) → Sets s p (length lower) → value (cell_in lower) (setting_term (part s p)) ≡ cell_in v (length lower)
  setting lower all p sets =
      let i = length lower in
      let term = setting_term (part s p) in
      let earlier = sets.earlier in
      let lt : p < length s.parts = omega arith in
      let in_part : (j : ℕ) → list_any (mentions j) term ≡ true → list_any (mentions j) (part s p) ≡ true = λ j h. ap (list_any (mentions j)) sets.shape ∙ or_right _ _ h in
      value_agrees (cell_in lower) (cell_in v) term (of_mentioned (λ j. cell_in lower j ≡ cell_in v j) term (λ j h. all j (below i j term sets.lower h) (occurs_in s.parts p j lt (in_part j h))))
      ∙ set_value s p i sets (cell_in v) (part_true v s.parts f.1 p earlier)

  -- the next cell takes the valuation's number, or its low where no part sets it and it does not occur
  pub takes : (c : Cell) (lower : List ℤ) → slice_get s.cells (length lower) ≡ Some c → Agrees lower → (o : Option ℕ) → set_by s.cells (length lower) ≡ o
      → (n : ℤ) × Among n (numbers s o c lower) × ((n ≡ cell_in v (length lower)) ⊎ ((o ≡ None) × (occurs s.parts (length lower) ≡ false) × (n ≡ c.low)))
  takes c lower at all None is = go (occurs s.parts (length lower)) refl
    where
      go : (b : Bool) → occurs s.parts (length lower) ≡ b → (n : ℤ) × Among n (c.low ∷ above c.low (cond b c.high c.low)) × ((n ≡ cell_in v (length lower)) ⊎ ((◌≡◌ {A = Option ℕ} None None) × (occurs s.parts (length lower) ≡ false) × (n ≡ c.low)))
      go false o = (c.low, inl refl, inr (refl, o, refl))
      go true o =
          let within = and_parts _ _ (within_at s.cells v f.0 (length lower) c at) in
          (cell_in v (length lower), above_has _ c.low c.high (is_most _ _ within.0) (is_most _ _ within.1), inl refl)
  takes c lower at all (Some p) is =
      let told = setting lower all p (keeps.setting p (length lower) is) in
      let inside = within_at s.cells v f.0 (length lower) c at in
      (cell_in v (length lower), subst (λ n. Among (cell_in v (length lower)) (cond (allows c n) (n ∷ []) [])) (sym told) (subst (λ b. Among (cell_in v (length lower)) (cond b (cell_in v (length lower) ∷ []) [])) (sym inside) (inl refl)), inl refl)

  -- all agree at the end
  refuted : (w : List ℤ) → length w ≡ length s.cells → Agrees w → is_refuted w s.parts ≡ true
  refuted w long all = go s.parts (λ p lt. same p lt) f.1
    where
      everywhere : (i : ℕ) → occurs s.parts i ≡ true → cell_in w i ≡ cell_in v i
      everywhere i =
          elim (cases_lt i (length w)) [
            | inl less ↦ all i less
            | inr more ↦ λ o. get_or_past w i (pos 0) more ∙ sym (get_or_past v i (pos 0) (omega (arith, long, within_length s.cells v f.0)))
          ]

      same : (p : ℕ) → p < length s.parts → value (cell_in w) (part s p) ≡ value (cell_in v) (part s p)
      same p lt = value_agrees (cell_in w) (cell_in v) (part s p) (of_mentioned (λ j. cell_in w j ≡ cell_in v j) (part s p) (λ j h. everywhere j (occurs_in s.parts p j lt h)))

      go : (es : List CellTerm) → ((p : ℕ) → p < length es → value (cell_in w) (slice_index_or es p []) ≡ value (cell_in v) (slice_index_or es p [])) → GoalAloneFalse v es → is_refuted w es ≡ true
      go [] same h = absurd h
      go (e ∷ []) same h = same_number_lem _ _ (same 0 (omega arith) ∙ h)
      go (e ∷ g ∷ es) same h = and_from _ _ (same_number_lem _ _ (same 0 (omega arith) ∙ h.0)) (go (g ∷ es) (λ p lt. same (suc p) (omega arith)) h.1)

  pub tried : (cs : List Cell) (lower : List ℤ) → cs ≡ drop (length lower) s.cells → length lower ≤ length s.cells → Agrees lower → first s (tries_from s cs lower) ≡ None → ⊥
  tried [] lower at le all none =
      let long : length lower ≡ length s.cells = omega (arith, ap length at ∙ length-drop (length lower) s.cells) in
      never lower (sym none ∙ ap (λ b. cond b (Some lower) None) (refuted lower long all))
  tried (c ∷ cs) lower at le all none =
      let next = comes_next s c cs lower at in
      let n = takes c lower next.here all c.set_by next.set in
      let agrees : occurs s.parts (length lower) ≡ true → n.0 ≡ cell_in v (length lower) = λ o. elim n.2 [ inl is ↦ is | inr idle ↦ clash (sym idle.1 ∙ o) ] in
      tried cs (lower ++ n.0 ∷ []) (next.rest n.0) (next.short n.0) (each_more (λ i m. occurs s.parts i ≡ true → m ≡ cell_in v i) lower n.0 all agrees)
      (found_in_none s (λ m. tries_from s cs (lower ++ m ∷ [])) (numbers s c.set_by c lower) (sym (first_next s (tries_from s cs) c.set_by c lower) ∙ none) n.0 n.1)

pub none_found : (s : Condition) → Keeps s → (v : List ℤ) → Falsifies s v → first s (tries_from s s.cells []) ≡ None → ⊥
none_found s keeps v f e = tried s keeps v f s.cells [] refl (omega arith) (λ i lt. absurd (omega arith)) e

pub when_passed : (o : Option (List ℤ)) (b : Bool) → cond b (proposed o) unsure ≡ passed → o ≡ None
when_passed None b e = refl
when_passed (Some v) true e = absurd (let z : ◌≡◌ {A = ℕ} 0 1 = cc in omega arith)
when_passed (Some v) false e = absurd (let z : ◌≡◌ {A = ℕ} 0 1 = cc in omega arith)

pub trier_sound : Sound trier
trier_sound s keeps is v f = none_found s keeps v f (when_passed (first s (tries_from s s.cells [])) _ is)
