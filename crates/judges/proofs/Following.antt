-- A cell gets the number that it begins with, or its try ends.
use Rattle.std.proofs.Common.{◌≡◌, ℕ, zero, suc, ◌+◌, ◌<◌, Bool, true, false, cond, ◌&&◌, List, [], ◌∷◌, length, take, get_or, set, ℤ, pos, ◌≤ℤ◌, Some, None, Option, refl, sym, ap, ◌∙◌, subst, zero-add, arith}
use Rattle.std.specs.Prelude.{int_le}
use Rattle.std.proofs.lemmas.Int.{ints}
use Rattle.std.proofs.lemmas.List.{get_or-take}
use Rattle.std.proofs.lemmas.Bool.{and_parts, and_from, true≢false}
use Rattle.terms.specs.Terms.{value}
use Rattle.reckoning.specs.Comparing.{is_most}
use Rattle.reckoning.proofs.Mentioning.{value_agrees}
use Rattle.reckoning.specs.declared.mark.Mark.{Mark}
use Rattle.sheets.specs.declared.cell.Cell.{Cell}
use Rattle.sheets.specs.Sheets.{Condition, part, setting_term, set_by, is_bound, is_bounded, Keeps}
use Rattle.sheets.specs.Valuations.{cell_in, Within, allows}
use Rattle.judges.specs.Tries.{occurs, top, range_of, ranges}
use Rattle.judges.specs.Walks.{no_range, later, left, begun}
use Rattle.judges.specs.Ranging.{no_cell}
use Rattle.judges.specs.Keeping.{at_each, within_length}
use Rattle.judges.specs.Passing.{set_by_at}
use Rattle.judges.specs.Trying.{of_mentioned, below}
use Rattle.judges.proofs.Opening.{range_at}
use Rattle.judges.proofs.Walking.{begins, follows, ends}

clash : {X : Type 0} → false ≡ true → X
clash e = absurd (true≢false (sym e))

pub within_set : (cs : List Cell) (v : List ℤ) (i : ℕ) (n : ℤ) → Within cs v → i < length cs → allows (get_or cs i no_cell) n ≡ true → Within cs (set v i n)
within_set [] v i n h lt inside = absurd (omega arith)
within_set (c ∷ cs) [] i n h lt inside = clash h
within_set (c ∷ cs) (m ∷ v) zero n h lt inside = and_from _ _ inside (and_parts _ _ h).1
within_set (c ∷ cs) (m ∷ v) (suc i) n h lt inside = let t = and_parts _ _ h in and_from _ _ t.0 (within_set cs v i n t.1 (omega arith) inside)

module _ (s : Condition) (keeps : Keeps s) (v : List ℤ) (within : Within s.cells v) (i : ℕ) (lt : i < length s.cells) where
  abbrev c : Cell
  c = get_or s.cells i no_cell

  abbrev rs : List Mark
  rs = ranges s.parts 0 s.cells

  long : length v ≡ length s.cells
  long = within_length s.cells v within

  range : get_or rs i no_range ≡ range_of (occurs s.parts i) c
  range = range_at s.parts 0 s.cells i lt ∙ ap (λ j. range_of (occurs s.parts j) c) (zero-add i)

  up : int_le c.low c.high ≡ true
  up = (and_parts (is_bound c.kind c.low && is_bound c.kind c.high) _ (at_each is_bounded s.cells i no_cell keeps.bounded lt)).1

  is_set : set_by s.cells i ≡ c.set_by
  is_set = sym (set_by_at s.cells i no_cell lt)

  -- the lower cells tell the number of the term that a part sets the cell to
  by_lower : (p : ℕ) → set_by s.cells i ≡ Some p → value (cell_in v) (setting_term (part s p)) ≡ value (cell_in (take i v)) (setting_term (part s p))
  by_lower p is =
      let lower = (keeps.setting p i is).lower in
      value_agrees (cell_in v) (cell_in (take i v)) (setting_term (part s p)) (of_mentioned (λ j. cell_in v j ≡ cell_in (take i v) j) (setting_term (part s p)) (λ j m. sym (get_or-take i v j (pos 0) (below i j (setting_term (part s p)) lower m))))

  pub begins_with : (n : ℤ) → begun s (set_by s.cells i) c v ≡ Some n → Within s.cells (set v i n) × (left s rs (i + 1) (set v i n) ≡ left s rs i v)
  begins_with n = go (set_by s.cells i) refl
    where
      go : (o : Option ℕ) → set_by s.cells i ≡ o → begun s o c v ≡ Some n → Within s.cells (set v i n) × (left s rs (i + 1) (set v i n) ≡ left s rs i v)
      go None is e =
          let same : c.low ≡ n = cc in
          let none : c.set_by ≡ None = sym is_set ∙ is in
          let least : allows c c.low ≡ true = grind (arith, ints, up) in
          subst (λ m. Within s.cells (set v i m) × (left s rs (i + 1) (set v i m) ≡ left s rs i v)) same
          (within_set s.cells v i c.low within lt least, begins s rs i v lt long none (range ∙ ap (λ o. record { low = c.low; high = top (occurs s.parts i) o c }) none) (to_top (occurs s.parts i)))
        where
          to_top : (b : Bool) → c.low ≤ℤ top b None c
          to_top true = is_most _ _ up
          to_top false = omega (arith, ints)
      go (Some p) is e = at (allows c (value (cell_in v) (setting_term (part s p)))) refl e
        where
          at : (b : Bool) → allows c (value (cell_in v) (setting_term (part s p))) ≡ b → cond b (Some (value (cell_in v) (setting_term (part s p)))) None ≡ Some n → Within s.cells (set v i n) × (left s rs (i + 1) (set v i n) ≡ left s rs i v)
          at true inside e =
              let same : value (cell_in v) (setting_term (part s p)) ≡ n = cc in
              let set_it : c.set_by ≡ Some p = sym is_set ∙ is in
              let in_it : allows c n ≡ true = ap (allows c) (sym same) ∙ inside in
              (within_set s.cells v i n within lt in_it, follows s rs i v lt long p set_it (range ∙ ap (λ o. record { low = c.low; high = top (occurs s.parts i) o c }) set_it) n (sym same ∙ by_lower p is) in_it)
          at false inside e = absurd (let z : ◌≡◌ {A = ℕ} 0 1 = cc in omega arith)

  pub ends_here : begun s (set_by s.cells i) c v ≡ None → left s rs i v ≡ None ∷ later s rs i v
  ends_here = go (set_by s.cells i) refl
    where
      go : (o : Option ℕ) → set_by s.cells i ≡ o → begun s o c v ≡ None → left s rs i v ≡ None ∷ later s rs i v
      go None is e = absurd (let z : ◌≡◌ {A = ℕ} 0 1 = cc in omega arith)
      go (Some p) is e = at (allows c (value (cell_in v) (setting_term (part s p)))) refl e
        where
          at : (b : Bool) → allows c (value (cell_in v) (setting_term (part s p))) ≡ b → cond b (Some (value (cell_in v) (setting_term (part s p)))) None ≡ None → left s rs i v ≡ None ∷ later s rs i v
          at true inside e = absurd (let z : ◌≡◌ {A = ℕ} 0 1 = cc in omega arith)
          at false out e = ends s rs i v lt long p (sym is_set ∙ is) (value (cell_in v) (setting_term (part s p))) (by_lower p is) out
