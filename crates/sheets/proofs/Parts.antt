-- The parts of a statement say what it asks.
use Rattle.std.proofs.Common.{◌≡◌, ◌↔◌, ℕ, ◌*◌, ◌<◌, Bool, true, false, List, [], ◌∷◌, length, get_or, ℤ, pos, refl, sym, ap, ◌∙◌, arith}
use Rattle.std.proofs.lemmas.Bool.{and_parts}
use Rattle.std.proofs.lemmas.Int.{ints}
use Rattle.terms.specs.Terms.{numbered, value}
use Rattle.terms.specs.Numbers.{truth, same_number}
use Rattle.jcode.specs.ReadTerms.{UnitRow}
use Rattle.jcode.specs.Sentences.{Sentence, Require, Proclaim, New, Assign, When}
use Rattle.checking.specs.Nesting.{writes_term}
use Rattle.checking.specs.Pieces.{is_term, is_list}
use Rattle.sheets.specs.Runs.{stored, read, number_in, listed, Demands, Admits}
use Rattle.sheets.specs.PathSheets.{Progress, cells_from, over, parts_of}
use Rattle.sheets.specs.Sheets.{CellTerm}
use Rattle.sheets.specs.Valuations.{cell_in}
use Rattle.sheets.specs.Matches.{terms_kept}
use Rattle.sheets.proofs.Storing.{length-stored, map-stored, looked, read_looked}
use Rattle.sheets.proofs.Substituting.{fold_mapped, mentions_weaker, mentions_declared}

abbrev pub AllTrue : List ℤ → List CellTerm → Type 0
AllTrue v [] = Unit {0}
AllTrue v (e ∷ es) = (value (cell_in v) e ≡ pos 1) × AllTrue v es

-- ---- `equal!`
truth_holds : (b : Bool) → truth b ≡ pos 1 → b ≡ true
truth_holds true e = refl
truth_holds false e = absurd (omega (arith, ints, e))

pub equals : (a b : ℤ) → truth (same_number a b) ≡ pos 1 → a ≡ b
equals a b e = let same = truth_holds (same_number a b) e in grind (arith, ints)

equals_back : (a b : ℤ) → a ≡ b → truth (same_number a b) ≡ pos 1
equals_back a b e = let same : same_number a b ≡ true = grind (arith, ints) in ap truth same

module _ (v : List ℤ) (k : ℕ) where
  abbrev store : List ℕ → List ℤ
  store cs = looked v (pos 0) cs

  -- a term over cells has the number that it has in the stores that the cells hold
  pub number_over : (vs before after : List ℕ) (e : List UnitRow) → length before ≡ 2 * k → length after ≡ 2 * k → is_term k vs e ≡ true → value (cell_in v) (over before after e) ≡ number_in (store before) (store after) e
  number_over vs before after e p q h =
      ap (λ st. get_or st 0 (pos 0)) (fold_mapped (numbered (cell_in v)) (read (pos 0) (store before) (store after)) (read 0 before after) e
      (mentions_weaker (λ m. m.variable < k) (λ m. cell_in v (read 0 before after m) ≡ read (pos 0) (store before) (store after) m) (read_looked v (pos 0) k before after p q) e
      (mentions_declared k vs e (and_parts (writes_term 32 e) _ h).1)))

  pub parts_say : {T : Type 0} (w : Progress) (st : Sentence T) → length w.current ≡ 2 * k → terms_kept k st ≡ true
      → AllTrue v (parts_of w st) ↔ (Admits st (store w.current) × Demands st (store w.current) (store (cells_from w.cells (listed st))))
  parts_say w (Require e t) l h = let q = number_over [] w.current w.current e l l h in (λ a. (tt, sym q ∙ a.0), λ d. (q ∙ d.1, tt))
  parts_say w (Proclaim e) l h = let q = number_over [] w.current w.current e l l h in (λ a. (tt, sym q ∙ a.0), λ d. (q ∙ d.1, tt))
  parts_say w (New vs e t) l h =
      let own = cells_from w.cells vs in
      let q = number_over vs w.current (stored vs own w.current) e l (length-stored vs own w.current ∙ l) (and_parts (is_list k vs) _ h).1
      ∙ ap (λ s. number_in (store w.current) s e) (map-stored (cell_in v) vs own w.current) in
      (λ a. (tt, sym q ∙ a.0), λ d. (q ∙ d.1, tt))
  parts_say w (Assign x e f) l h =
      let terms = and_parts (is_term k [] e) _ (and_parts _ _ h).1 in
      let p = number_over [] w.current w.current f l l terms.1 in
      let q = number_over [] w.current w.current e l l terms.0 in (
        λ a. let value_set = equals _ _ a.0 ∙ p in let shadow_set = equals _ _ a.1.0 ∙ q in (tt, λ i. value_set i ∷ shadow_set i ∷ []),
        λ d. (equals_back _ _ (ap (λ s. get_or s 0 (pos 0)) d.1 ∙ sym p), (equals_back _ _ (ap (λ s. get_or s 1 (pos 0)) d.1 ∙ sym q), tt)),
      )
  parts_say w (When e x) l h = let q = number_over [] w.current w.current e l l h in (λ a. (sym q ∙ a.0, tt), λ d. (q ∙ d.0, tt))
  parts_say w st l h = (λ a. (tt, tt), λ d. tt)
