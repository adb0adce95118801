-- The trier's loop: what is left of the tries at each turn.
use Rattle.std.proofs.Common.{◌≡◌, ℕ, zero, suc, ◌+◌, ◌<◌, ◌≤◌, Bool, true, false, cond, ◌&&◌, List, [], ◌∷◌, length, get_or, ℤ, pos, ◌+ℤ◌, ◌≤ℤ◌, Some, None, Option, refl, sym, ap, ◌∙◌, subst, inl, inr, add-one, zero-add, arith}
use Rattle.std.specs.Prelude.{int_le, int_lt}
use Rattle.std.proofs.lemmas.Int.{ints}
use Rattle.std.proofs.lemmas.Bool.{and_parts, cases_lt}
use Rattle.std.proofs.lemmas.Option.{slice_get-get_or}
use Rattle.reckoning.specs.declared.mark.Mark.{Mark}
use Rattle.reckoning.specs.Comparing.{is_most}
use Rattle.sheets.specs.declared.cell.Cell.{Cell}
use Rattle.sheets.specs.Sheets.{Condition, is_bound, is_bounded, Keeps}
use Rattle.sheets.specs.Valuations.{Within, allows}
use Rattle.judges.specs.Tries.{occurs, top, range_of, ranges, Try, tries_from, first, is_refuted}
use Rattle.judges.specs.Walks.{no_range, later, left, turning, Turned, Followed}
use Rattle.judges.specs.Ranging.{no_cell}
use Rattle.judges.specs.Keeping.{at_each, within_at, within_length}
use Rattle.judges.proofs.Opening.{range_at}
use Rattle.judges.proofs.Following.{within_set}
use Rattle.judges.proofs.Walking.{completes, passed_by, turns}

-- the first of all is the first of those that are left, from the place that comes next
abbrev pub Going : Condition → Option ℕ → List ℤ → Type 0
Going s None v = first s (tries_from s s.cells []) ≡ None
Going s (Some from) v = (from ≤ length s.cells) × (first s (tries_from s s.cells []) ≡ first s (left s (ranges s.parts 0 s.cells) from v))

-- how many tries are left
abbrev pub to_go : Condition → Option ℕ → List ℤ → ℕ
to_go s None v = 0
to_go s (Some from) v = suc (length (left s (ranges s.parts 0 s.cells) from v))

module _ (s : Condition) (rs : List Mark) where
  none_turns : (i : ℕ) (v : List ℤ) → turning rs v i ≡ None → later s rs i v ≡ []
  none_turns zero v e = refl
  none_turns (suc i) v e = go (int_lt (get_or v i (pos 0)) (get_or rs i no_range).high) refl e (none_turns i v)
    where
      go : (b : Bool) → int_lt (get_or v i (pos 0)) (get_or rs i no_range).high ≡ b → cond b (Some i) (turning rs v i) ≡ None → (turning rs v i ≡ None → later s rs i v ≡ []) → later s rs (suc i) v ≡ []
      go true is e rest = absurd (let z : ◌≡◌ {A = ℕ} 0 1 = cc in omega arith)
      go false is e rest = ap (λ k. later s rs k v) (sym (add-one i)) ∙ passed_by s rs i v is ∙ rest e

  -- the cells above the one that turns are at the ends of their ranges
  one_turns : (i j : ℕ) (v : List ℤ) → turning rs v i ≡ Some j → (j < i) × (int_lt (get_or v j (pos 0)) (get_or rs j no_range).high ≡ true) × (later s rs i v ≡ later s rs (j + 1) v)
  one_turns zero j v e = absurd (let z : ◌≡◌ {A = ℕ} 0 1 = cc in omega arith)
  one_turns (suc i) j v e = go (int_lt (get_or v i (pos 0)) (get_or rs i no_range).high) refl e (one_turns i j v)
    where
      Found : ℕ → Type 0
      Found i = (j < i) × (int_lt (get_or v j (pos 0)) (get_or rs j no_range).high ≡ true) × (later s rs i v ≡ later s rs (j + 1) v)

      go : (b : Bool) → int_lt (get_or v i (pos 0)) (get_or rs i no_range).high ≡ b → cond b (Some i) (turning rs v i) ≡ Some j → (turning rs v i ≡ Some j → Found i) → Found (suc i)
      go true is e rest =
          let same : i ≡ j = cc in
          (omega arith, ap (λ k. int_lt (get_or v k (pos 0)) (get_or rs k no_range).high) (sym same) ∙ is, ap (λ k. later s rs k v) (sym (add-one i) ∙ ap (λ k. k + 1) same))
      go false is e rest = let r = rest e in (omega (arith, r.0), r.1, ap (λ k. later s rs k v) (sym (add-one i)) ∙ passed_by s rs i v is ∙ r.2)

module _ (s : Condition) (keeps : Keeps s) (v w : List ℤ) (from place : ℕ) (going : Going s (Some from) v) (followed : Followed s from v place w) (within : Within s.cells w) where
  abbrev rs : List Mark
  rs = ranges s.parts 0 s.cells

  long : length w ≡ length s.cells
  long = within_length s.cells w within

  -- the valuation that is refuted is the first
  pub found : place ≡ length s.cells → is_refuted w s.parts ≡ true → first s (tries_from s s.cells []) ≡ Some w
  found whole refuted =
      going.1 ∙ ap (first s) (sym followed.kept ∙ ap (λ k. left s rs k w) whole ∙ completes s rs w long) ∙ ap (λ b. cond b (Some w) (first s (later s rs (length s.cells) w))) refuted

  -- any other try is done, and what comes later is left
  abbrev Done : Type 0
  Done = (first s (left s rs from v) ≡ first s (later s rs place w)) × (length (left s rs from v) ≡ suc (length (later s rs place w)))

  by_try : (t : Try) → left s rs place w ≡ t ∷ later s rs place w → first s (t ∷ later s rs place w) ≡ first s (later s rs place w) → Done
  by_try t is none = let whole = sym followed.kept ∙ is in (ap (first s) whole ∙ none, ap length whole)

  done : (place ≡ length s.cells → is_refuted w s.parts ≡ false) → Done
  done fails =
      elim (cases_lt place (length s.cells)) [
        | inl less ↦ by_try None (followed.ended less) refl
        | inr more ↦
            let reached = followed.reached in
            let whole : place ≡ length s.cells = omega arith in
            by_try (Some w) (ap (λ k. left s rs k w) whole ∙ completes s rs w long ∙ ap (λ k. Some w ∷ later s rs k w) (sym whole))
            (ap (λ b. cond b (Some w) (first s (later s rs place w))) (fails whole))
      ]

  -- a turned number stays within its cell's bounds
  turned_inside : (j : ℕ) → j < length s.cells → int_lt (get_or w j (pos 0)) (get_or rs j no_range).high ≡ true → allows (get_or s.cells j no_cell) (get_or w j (pos 0) +ℤ pos 1) ≡ true
  turned_inside j lt less =
      let c = get_or s.cells j no_cell in
      let here : (int_le c.low (get_or w j (pos 0)) && int_le (get_or w j (pos 0)) c.high) ≡ true = within_at s.cells w within j c (slice_get-get_or s.cells j no_cell lt) in
      let up : int_le c.low c.high ≡ true = (and_parts (is_bound c.kind c.low && is_bound c.kind c.high) _ (at_each is_bounded s.cells j no_cell keeps.bounded lt)).1 in
      let range : get_or rs j no_range ≡ range_of (occurs s.parts j) c = range_at s.parts 0 s.cells j lt ∙ ap (λ i. range_of (occurs s.parts i) c) (zero-add j) in
      inside c (get_or w j (pos 0)) (top (occurs s.parts j) c.set_by c) (and_parts _ _ here).0 (ap (λ r. int_lt (get_or w j (pos 0)) r.high) (sym range) ∙ less) (to_top c up (occurs s.parts j) c.set_by)
    where
      inside : (c : Cell) (n high : ℤ) → int_le c.low n ≡ true → int_lt n high ≡ true → high ≤ℤ c.high → allows c (n +ℤ pos 1) ≡ true
      inside c n high low less most = grind (arith, ints)

      to_top : (c : Cell) → int_le c.low c.high ≡ true → (b : Bool) (o : Option ℕ) → top b o c ≤ℤ c.high
      to_top c up true None = omega (arith, ints)
      to_top c up false None = is_most _ _ up
      to_top c up b (Some p) = is_most _ _ up

  pub proceeds : (place ≡ length s.cells → is_refuted w s.parts ≡ false) → (next : Option ℕ) (after : List ℤ) → Turned (turning rs w place) w next after
      → Within s.cells after × Going s next after × (to_go s next after < to_go s (Some from) v)
  proceeds fails next after turned = go (turning rs w place) refl turned
    where
      d : Done
      d = done fails

      go : (o : Option ℕ) → turning rs w place ≡ o → Turned o w next after → Within s.cells after × Going s next after × (to_go s next after < to_go s (Some from) v)
      go None is t =
          let none : later s rs place w ≡ [] = none_turns s rs place w is in
          subst (λ n. Within s.cells after × Going s n after × (to_go s n after < to_go s (Some from) v)) (sym t.0)
          (subst (Within s.cells) (sym t.1) within, going.1 ∙ d.0 ∙ ap (first s) none, omega arith)
      go (Some j) is t =
          let r = one_turns s rs place j w is in
          let reached = followed.reached in
          let lt : j < length s.cells = omega (arith, r.0) in
          let next_left : left s rs (j + 1) after ≡ later s rs place w = ap (left s rs (j + 1)) t.1 ∙ turns s rs j w (omega (arith, long)) r.1 ∙ sym r.2 in
          subst (λ n. Within s.cells after × Going s n after × (to_go s n after < to_go s (Some from) v)) (sym t.0) (
            subst (Within s.cells) (sym t.1) (within_set s.cells w j (get_or w j (pos 0) +ℤ pos 1) within lt (turned_inside j lt r.1)),
            (omega arith, going.1 ∙ d.0 ∙ ap (first s) (sym next_left)),
            omega (arith, ap length next_left, d.1),
          )
