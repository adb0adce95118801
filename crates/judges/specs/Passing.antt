-- The law of the pass, once for every reckoning.
use Rattle.std.specs.Prelude.{◌≡◌, ℕ, zero, suc, ◌+◌, ◌<◌, true, List, [], ◌∷◌, length, map, drop, ℤ, pos, Some, None, Option, slice_index_or, slice_set, refl}
use Rattle.std.specs.List.{slice_get, position}
use Rattle.std.proofs.lemmas.List.Quantifiers.{position-Some}
use Rattle.std.specs.Option.{option_map}
use Rattle.std.proofs.Common.{sym, ap, ◌∙◌, subst, arith}
use Rattle.std.proofs.lemmas.List.{drop_more, length-drop}
use Rattle.std.proofs.lemmas.Option.{slice_get-map}
use Rattle.std.proofs.lemmas.Bool.{and_parts, eqb-true}
use Rattle.terms.specs.declared.kind.Kind.{Kind}
use Rattle.terms.specs.declared.kind.Kind.TheVariants.{Truth}
use Rattle.terms.specs.Terms.{value}
use Rattle.reckoning.specs.declared.mark.Mark.{Mark}
use Rattle.reckoning.specs.declared.decision.Decision.{Decision}
use Rattle.reckoning.specs.declared.decision.Decision.TheVariants.{Yes, No, Unknown}
use Rattle.reckoning.specs.Reckonings.{Meaning, Lawful}
use Rattle.reckoning.specs.Kinds.{IsKinded}
use Rattle.reckoning.specs.Comparing.{is_most}
use Rattle.reckoning.specs.Evaluation.{Covered}
use Rattle.reckoning.proofs.Covering.{covering}
use Rattle.reckoning.proofs.Mentioning.{mentions_all}
use Rattle.sheets.specs.declared.cell.Cell.{Cell}
use Rattle.sheets.specs.Sheets.{CellTerm, Condition, part, cell_kind, set_by, is_some_of, is_set_by, cell_set, setting_term, Keeps}
use Rattle.sheets.specs.Valuations.{cell_in, GoalAloneFalse, Falsifies}
use Rattle.sheets.proofs.Spanning.{kindly, part_truth}
use Rattle.sheets.specs.Judges.{passed, Sound}
use Rattle.judges.specs.Passes.{bounds_mark, marked, unless_no, after_part, by_goal, pass_or, pass_from, pass}
use Rattle.judges.specs.Keeping.{within_at, setting_kind, set_value}

none : {X A : Type 0} (x : A) → None ≡ Some x → X
none x e = absurd (let z : ◌≡◌ {A = ℕ} 0 1 = cc in omega arith)

set_place : (p : ℕ) (o : Option ℕ) → is_some_of p o ≡ true → o ≡ Some p
set_place p None e = absurd (let z : ◌≡◌ {A = ℕ} 0 1 = cc in omega arith)
set_place p (Some q) e = ap Some (eqb-true q p e)

pub set_by_at : (cs : List Cell) (i : ℕ) (c : Cell) → i < length cs → (slice_index_or cs i c).set_by ≡ set_by cs i
set_by_at [] i c lt = absurd (omega arith)
set_by_at (d ∷ cs) zero c lt = refl
set_by_at (d ∷ cs) (suc i) c lt = set_by_at cs i c (omega arith)

-- the cell that a part sets says so
pub cell_is_set : (s : Condition) (p i : ℕ) → cell_set s p ≡ Some i → set_by s.cells i ≡ Some p
cell_is_set s p i e = at s.cells e
  where
    at : (cs : List Cell) → position (is_set_by p) cs ≡ Some i → set_by cs i ≡ Some p
    at [] e = none i e
    at (c ∷ cs) e = let found = position-Some (is_set_by p) (c ∷ cs) i c e in sym (set_by_at (c ∷ cs) i c found.0) ∙ set_place p _ found.1

-- what stands at a place after another is written
after_set : (xs : List Mark) (i j : ℕ) (m k : Mark) (P : ℕ → Mark → Type 0) → (j ≡ i → m ≡ k → P i m) → (slice_get xs j ≡ Some k → P j k) → slice_get (slice_set xs i m) j ≡ Some k → P j k
after_set [] i j m k P new old e = none k e
after_set (x ∷ xs) zero zero m k P new old e = let same : m ≡ k = cc in subst (P 0) same (new refl same)
after_set (x ∷ xs) zero (suc j) m k P new old e = old e
after_set (x ∷ xs) (suc i) zero m k P new old e = old e
after_set (x ∷ xs) (suc i) (suc j) m k P new old e = after_set xs i j m k (λ n. P (suc n)) (λ p. new (ap suc p)) old e

-- what stands at a place, and after it
pub at_place : {X : Type 0} (xs : List X) (p : ℕ) (x : X) (rest : List X) (d : X) → x ∷ rest ≡ drop p xs → (p < length xs) × (x ≡ slice_index_or xs p d) × (rest ≡ drop (p + 1) xs) × (length xs ≡ p + 1 + length rest)
at_place xs p x rest d at =
    let long = ap length at ∙ length-drop p xs in
    let lt : p < length xs = omega (arith, long) in
    let both = at ∙ drop_more xs p d lt in
    (lt, cc, cc, omega (arith, long))

module _ (covers : Mark → ℤ → Type 0) (r : Meaning) (laws : Lawful covers r) (s : Condition) (keeps : Keeps s) (v : List ℤ) (f : Falsifies s v) where
  -- the cells' marks cover their numbers
  abbrev Told : List Mark → Type 0
  Told marks = (i : ℕ) → Covered covers (slice_get marks) (cell_in v) i

  abbrev Left : Option (List Mark) → Type 0
  Left None = ⊥
  Left (Some marks) = Told marks

  covered : (marks : List Mark) → Told marks → (e : CellTerm) (k : Kind) → IsKinded (cell_kind s.cells) k e → covers (marked r marks e) (value (cell_in v) e)
  covered marks told e k is =
      covering covers r laws (slice_get marks) e (cell_kind s.cells) (cell_in v) k is (kindly s.cells v keeps.bounded f.0 e) (mentions_all (Covered covers (slice_get marks) (cell_in v)) told e)

  at_bounds : Told (map (bounds_mark r) s.cells)
  at_bounds i m is = go (slice_get s.cells i) refl (sym (slice_get-map (bounds_mark r) s.cells i) ∙ is)
    where
      go : (o : Option Cell) → slice_get s.cells i ≡ o → option_map (bounds_mark r) o ≡ Some m → covers m (cell_in v i)
      go None at e = none m e
      go (Some c) at e =
          let same : bounds_mark r c ≡ m = cc in
          let within = and_parts _ _ (within_at s.cells v f.0 i c at) in
          subst (λ k. covers k (cell_in v i)) same (laws.bounding c.low c.high (cell_in v i) (is_most _ _ within.0) (is_most _ _ within.1))

  after : (p : ℕ) → p + 1 < length s.parts → value (cell_in v) (part s p) ≡ pos 1 → (o : Option ℕ) → cell_set s p ≡ o → (marks : List Mark) → Told marks → Left (after_part r o (part s p) marks)
  after p lt holds None at marks told = go (r.decided (marked r marks (part s p))) refl
    where
      go : (d : Decision) → r.decided (marked r marks (part s p)) ≡ d → Left (unless_no d marks)
      go No is = laws.denied _ is (subst (covers (marked r marks (part s p))) holds (covered marks told (part s p) Truth (part_truth s keeps p (omega arith))))
      go Yes is = told
      go Unknown is = told
  after p lt holds (Some i) at marks told = go (r.met (slice_index_or marks i r.anything) (marked r marks term)) refl
    where
      term : CellTerm
      term = setting_term (part s p)

      here : covers (marked r marks term) (cell_in v i)
      here =
          let sets = keeps.setting p i (cell_is_set s p i at) in
          let kind = setting_kind s keeps p i sets in
          subst (covers (marked r marks term)) (set_value s p i sets (cell_in v) holds) (covered marks told term kind.0 kind.1)

      was : covers (slice_index_or marks i r.anything) (cell_in v i)
      was = covered_or marks i (told i)
        where
          covered_or : (marks : List Mark) (j : ℕ) → Covered covers (slice_get marks) (λ _. cell_in v i) j → covers (slice_index_or marks j r.anything) (cell_in v i)
          covered_or [] j h = laws.anything (cell_in v i)
          covered_or (m ∷ marks) zero h = h m refl
          covered_or (m ∷ marks) (suc j) h = covered_or marks j h

      go : (o : Option Mark) → r.met (slice_index_or marks i r.anything) (marked r marks term) ≡ o → Left (option_map (slice_set marks i) o)
      go None is = laws.apart _ _ (cell_in v i) is was here
      go (Some m) is = λ j k e. after_set marks i j m k (λ n l. covers l (cell_in v n)) (λ q same. laws.meeting _ _ m (cell_in v i) is was here) (told j k) e

  by_the_goal : (p : ℕ) → p < length s.parts → value (cell_in v) (part s p) ≡ pos 0 → (marks : List Mark) → Told marks → by_goal (r.decided (marked r marks (part s p))) ≡ passed → ⊥
  by_the_goal p lt fails marks told = go (r.decided (marked r marks (part s p))) refl
    where
      go : (d : Decision) → r.decided (marked r marks (part s p)) ≡ d → by_goal d ≡ passed → ⊥
      go Yes is e = laws.affirmed _ is (subst (covers (marked r marks (part s p))) fails (covered marks told (part s p) Truth (part_truth s keeps p lt)))
      go No is e = let z : ◌≡◌ {A = ℕ} 0 1 = cc in omega arith
      go Unknown is e = let z : ◌≡◌ {A = ℕ} 0 1 = cc in omega arith

  never_passed : (p : ℕ) (es : List CellTerm) → es ≡ drop p s.parts → GoalAloneFalse v es → (marks : List Mark) → Told marks → pass_from r s p es marks ≡ passed → ⊥
  never_passed p [] at h marks told is = h
  never_passed p (goal ∷ []) at h marks told is =
      let t = at_place s.parts p goal [] [] at in
      by_the_goal p t.0 (ap (value (cell_in v)) (sym t.1) ∙ h) marks told (ap (λ e. by_goal (r.decided (marked r marks e))) (sym t.1) ∙ is)
  never_passed p (e ∷ f ∷ es) at h marks told is =
      let t = at_place s.parts p e (f ∷ es) [] at in
      let lt : p + 1 < length s.parts = omega (arith, t.3) in
      go (after_part r (cell_set s p) e marks)
      (subst (λ t. Left (after_part r (cell_set s p) t marks)) (sym t.1) (after p lt (ap (value (cell_in v)) (sym t.1) ∙ h.0) (cell_set s p) refl marks told))
      is (never_passed (p + 1) (f ∷ es) t.2 h.1)
    where
      go : (o : Option (List Mark)) → Left o → pass_or o (pass_from r s (p + 1) (f ∷ es)) ≡ passed → ((marks : List Mark) → Told marks → pass_from r s (p + 1) (f ∷ es) marks ≡ passed → ⊥) → ⊥
      go None left is rest = left
      go (Some ms) left is rest = rest ms left is

pub pass_sound : (covers : Mark → ℤ → Type 0) (r : Meaning) → Lawful covers r → Sound (pass r)
pass_sound covers r laws s keeps is v f =
    never_passed covers r laws s keeps v f 0 s.parts refl f.1 (map (bounds_mark r) s.cells) (at_bounds covers r laws s keeps v f) is
