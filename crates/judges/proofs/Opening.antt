-- The ranges of cells, once every row of a sheet has come.
use Rattle.std.proofs.Common.{◌≡◌, ◌≢◌, ℕ, zero, suc, ◌+◌, ◌<◌, Bool, true, false, ◌||◌, List, [], ◌∷◌, length, map, take, drop, get_or, set, refl, sym, ap, ap₂, ◌∙◌, inl, inr, add-zero, arith}
use Rattle.std.specs.List.{list_any}
use Rattle.std.proofs.lemmas.List.{length-set, length-map, get_or-map, get_or-set_same, get_or-set_other, take-append-drop, drop-drop, drop_all, ext_get_or}
use Rattle.std.proofs.lemmas.List.Folds.{list_any_more, list_any-append}
use Rattle.std.proofs.lemmas.Bool.{eq-eqb, ne_eqb, cases_eq, or_right}
use Rattle.terms.specs.declared.row.Row.{Row}
use Rattle.terms.specs.declared.row.Row.TheVariants.{Constant, Mention, Operator as Applied}
use Rattle.reckoning.specs.declared.mark.Mark.{Mark}
use Rattle.sheets.specs.declared.cell.Cell.{Cell}
use Rattle.sheets.specs.declared.part.Part.{Part}
use Rattle.sheets.specs.Sheets.{CellTerm, part_in, fills_from}
use Rattle.judges.specs.Tries.{mentions, occurs, range_of, ranges}
use Rattle.judges.specs.Ranging.{no_cell, opened}
use Rattle.judges.specs.Walks.{no_range}

-- each cell's range, where these rows mention cells
pub record Ranged (cs : List Cell) (rows : List (Row ℕ)) (rs : List Mark) : Type 0 where
  pub long : length rs ≡ length cs
  pub each : (i : ℕ) → i < length cs → get_or rs i no_range ≡ range_of (list_any (mentions i) rows) (get_or cs i no_cell)

pub ranged_start : (cs : List Cell) (rs : List Mark) → rs ≡ map (range_of false) cs → Ranged cs [] rs
ranged_start cs rs is = record {
  long = ap length is ∙ length-map cs (range_of false);
  each = λ i lt. ap (λ l. get_or l i no_range) is ∙ get_or-map (range_of false) cs i no_cell no_range lt;
}

module _ (cs : List Cell) (rows : List (Row ℕ)) (k : ℕ) (d : Row ℕ) (lt : k < length rows) (rs : List Mark) (so_far : Ranged cs (take k rows) rs) where
  grown : (i : ℕ) → list_any (mentions i) (take (k + 1) rows) ≡ (list_any (mentions i) (take k rows) || mentions i (get_or rows k d))
  grown i = list_any_more (mentions i) rows k d lt

  -- a row that does not mention the cell changes nothing
  missed : (i : ℕ) → mentions i (get_or rows k d) ≡ false → list_any (mentions i) (take (k + 1) rows) ≡ list_any (mentions i) (take k rows)
  missed i not = grown i ∙ ap (λ b. list_any (mentions i) (take k rows) || b) not ∙ or_false (list_any (mentions i) (take k rows))
    where
      or_false : (b : Bool) → (b || false) ≡ b
      or_false true = refl
      or_false false = refl

  none : (row : Row ℕ) → get_or rows k d ≡ row → ((i : ℕ) → mentions i row ≡ false) → Ranged cs (take (k + 1) rows) rs
  none row is not = record {
    long = so_far.long;
    each = λ i h. so_far.each i h ∙ ap (λ b. range_of b (get_or cs i no_cell)) (sym (missed i (ap (mentions i) is ∙ not i)));
  }

  pub ranged_more : Ranged cs (take (k + 1) rows) (opened cs (get_or rows k d) rs)
  ranged_more = go (get_or rows k d) refl
    where
      go : (row : Row ℕ) → get_or rows k d ≡ row → Ranged cs (take (k + 1) rows) (opened cs row rs)
      go (Constant z) is = none (Constant z) is (λ i. refl)
      go (Applied o) is = none (Applied o) is (λ i. refl)
      go (Mention j) is = record {
        long = length-set rs j (range_of true (get_or cs j no_cell)) ∙ so_far.long;
        each = λ i h. elim (cases_eq j i) [
          | inl same ↦
              let hit : list_any (mentions i) (take (k + 1) rows) ≡ true = grown i ∙ or_right _ _ (ap (mentions i) is ∙ eq-eqb j i same) in
              ap (λ n. get_or (set rs n (range_of true (get_or cs n no_cell))) i no_range) same ∙ get_or-set_same rs i (range_of true (get_or cs i no_cell)) no_range (omega (arith, so_far.long))
              ∙ ap (λ b. range_of b (get_or cs i no_cell)) (sym hit)
          | inr other ↦
              let apart : i ≢ j = λ e. other (sym e) in
              get_or-set_other rs j i (range_of true (get_or cs j no_cell)) no_range apart ∙ so_far.each i h ∙ ap (λ b. range_of b (get_or cs i no_cell)) (sym (missed i (ap (mentions i) is ∙ ne_eqb j i other)))
        ];
      }

-- the rows of the parts, one after another, are the rows
pub occurs_rows : (rows : List (Row ℕ)) (i used : ℕ) (ps : List Part) → fills_from (length rows) used ps → list_any (mentions i) (drop used rows) ≡ occurs (map (part_in rows) ps) i
occurs_rows rows i used [] is = ap (list_any (mentions i)) (drop_all used rows (omega arith))
occurs_rows rows i used (p ∷ ps) h =
    ap (list_any (mentions i)) (sym (take-append-drop p.rows (drop used rows))) ∙ list_any-append (mentions i) (take p.rows (drop used rows)) (drop p.rows (drop used rows))
    ∙ ap₂ ◌||◌ (ap (λ f. list_any (mentions i) (take p.rows (drop f rows))) (sym h.0)) (ap (list_any (mentions i)) (drop-drop p.rows used rows) ∙ occurs_rows rows i (used + p.rows) ps h.1)

module _ (parts : List CellTerm) where
  pub length-ranges : (at : ℕ) (cs : List Cell) → length (ranges parts at cs) ≡ length cs
  length-ranges at [] = refl
  length-ranges at (c ∷ cs) = ap suc (length-ranges (at + 1) cs)

  pub range_at : (at : ℕ) (cs : List Cell) (i : ℕ) → i < length cs → get_or (ranges parts at cs) i no_range ≡ range_of (occurs parts (at + i)) (get_or cs i no_cell)
  range_at at [] i lt = absurd (omega arith)
  range_at at (c ∷ cs) zero lt = ap (λ j. range_of (occurs parts j) c) (sym (add-zero at))
  range_at at (c ∷ cs) (suc i) lt =
      let shift : at + 1 + i ≡ at + suc i = omega arith in
      range_at (at + 1) cs i (omega arith) ∙ ap (λ j. range_of (occurs parts j) (get_or cs i no_cell)) shift

pub ranged_all : (cs : List Cell) (rows : List (Row ℕ)) (rs : List Mark) (parts : List CellTerm) → Ranged cs rows rs → ((i : ℕ) → list_any (mentions i) rows ≡ occurs parts i) → rs ≡ ranges parts 0 cs
ranged_all cs rows rs parts h all =
    ext_get_or no_range rs (ranges parts 0 cs) (h.long ∙ sym (length-ranges parts 0 cs))
    (λ i lt.
    let inside : i < length cs = omega (arith, h.long) in
    let here : i ≡ 0 + i = omega arith in
    h.each i inside ∙ ap (λ b. range_of b (get_or cs i no_cell)) (all i ∙ ap (occurs parts) here) ∙ sym (range_at parts 0 cs i inside))
