-- A cell that a part is said to set is set by it.
use Rattle.std.proofs.Common.{◌≡◌, ℕ, zero, suc, ◌+◌, ◌-◌, ◌*◌, ◌<◌, ◌≤◌, true, List, [], ◌∷◌, ◌++◌, map, length, get_or, Some, None, Option, is_some, refl, sym, ap, ◌∙◌, subst, ⊎_elim, arith, length-append}
use Rattle.std.proofs.lemmas.Bool.{and_parts, and_from, cases_lt, lt-ltb}
use Rattle.std.proofs.lemmas.List.{length-map, map-append, get_or_append_left, get_or-append_right, get_or-append-add}
use Rattle.std.proofs.ByRecursion.{All-get_or}
use Rattle.std.specs.List.{AllByRecursion as All, list_all}
use Rattle.terms.specs.declared.operator.Operator.TheVariants.{Equal}
use Rattle.terms.specs.declared.row.Row.{Row}
use Rattle.terms.specs.declared.row.Row.TheVariants.{Constant, Mention, Operator as Applied}
use Rattle.terms.specs.Terms.{map_mentions}
use Rattle.flow.specs.Steps.{is_require}
use Rattle.flow.specs.Paths.{required, Way}
use Rattle.flow.proofs.Leading.{never}
use Rattle.jcode.specs.declared.mention.Mention.{Mention as UnitMention}
use Rattle.jcode.specs.declared.mention.Stage.{Stage}
use Rattle.jcode.specs.declared.mention.Stage.TheVariants.{Current, New as Given}
use Rattle.jcode.specs.declared.variable.Domain.{Domain}
use Rattle.jcode.specs.declared.variable.Domain.TheVariants.{Integer, Boolean}
use Rattle.std.specs.Prelude.{nat_lt}
use Rattle.checking.specs.Types.{domains}
use Rattle.jcode.specs.ReadTerms.{UnitRow}
use Rattle.jcode.specs.Sentences.{Sentence, Require, New, Assign}
use Rattle.jcode.specs.Units.{JUnit}
use Rattle.reckoning.specs.Evaluation.{Mentions}
use Rattle.checking.specs.Breaks.{step_of, steps_of}
use Rattle.checking.specs.Nesting.{writes_term}
use Rattle.checking.specs.Pieces.{is_term}
use Rattle.sheets.specs.declared.cell.Cell.{Cell}
use Rattle.sheets.specs.Runs.{sentence, types_at, staged, entry_of, read, listed}
use Rattle.sheets.specs.Sheets.{CellTerm, is_below, setting_term, set_by}
use Rattle.sheets.specs.PathSheets.{Progress, cell_of, over, equated, parts_of, cells_of, onward, parts_along, cells_along}
use Rattle.sheets.specs.Matches.{Sensible, terms_kept}
use Rattle.sheets.proofs.Storing.{entry_below}
use Rattle.sheets.proofs.Substituting.{mentions_weaker, mentions_declared}
use Rattle.sheets.proofs.Typing.{unset, unset_cells_of, length-types_at}
use Rattle.sheets.proofs.Matching.{some_part, require_at}
use Rattle.sheets.proofs.Placing.{Placed, placed_next}

-- ---- terms over current cells mention lower ones
below_over : {M : Type 0} (i : ℕ) (f : M → ℕ) (e : List (Row M)) → Mentions (λ m. f m < i) e → list_all (is_below i) (map_mentions f e) ≡ true
below_over i f [] h = refl
below_over i f (Constant z ∷ e) h = below_over i f e h
below_over i f (Mention m ∷ e) h = and_from _ _ (lt-ltb (f m) i h.0) (below_over i f e h.1)
below_over i f (Applied o ∷ e) h = below_over i f e h

read_below : (k n : ℕ) (cs : List ℕ) → length cs ≡ 2 * k → All (λ c. c < n) cs → (m : UnitMention) → m.variable < k → read 0 cs cs m < n
read_below k n cs l b m h = go m.stage
  where
    at : get_or cs (entry_of m.aspect m.variable) 0 < n
    at = let inside = entry_below m.aspect m.variable k h in All-get_or (λ c. c < n) cs (entry_of m.aspect m.variable) 0 (omega arith) b

    go : (t : Stage) → get_or (staged t cs cs) (entry_of m.aspect m.variable) 0 < n
    go Current = at
    go Given = at

-- ---- which part sets a cell
-- with so many parts before these, part q of all is one of these, not the last, and sets cell i
pub record IsSet (parts : List CellTerm) (before q i : ℕ) : Type 0 where
  pub at : ℕ
  pub place : q ≡ before + at
  pub earlier : at + 1 < length parts
  pub shape : get_or parts at [] ≡ Applied Equal ∷ Mention i ∷ setting_term (get_or parts at [])
  pub lower : list_all (is_below i) (setting_term (get_or parts at [])) ≡ true

set_later : (es fs : List CellTerm) (before q i : ℕ) → IsSet fs (before + length es) q i → IsSet (es ++ fs) before q i
set_later es fs before q i s =
    let same = get_or-append-add es fs s.at [] in
    record {
      at = length es + s.at;
      place = omega (arith, s.place);
      earlier = omega (arith, s.earlier, length-append es fs);
      shape = subst (λ e. e ≡ Applied Equal ∷ Mention i ∷ setting_term e) (sym same) s.shape;
      lower = ap (λ e. list_all (is_below i) (setting_term e)) same ∙ s.lower;
    }

pub unset_by : (ds : List Domain) (k : ℕ) → set_by (map (cell_of None) ds) k ≡ None
unset_by [] k = refl
unset_by (d ∷ ds) zero = refl
unset_by (d ∷ ds) (suc k) = unset_by ds k

pub set_left : (cs ds : List Cell) (k : ℕ) → k < length cs → set_by (cs ++ ds) k ≡ set_by cs k
set_left cs ds k h =
    ap (λ l. get_or l k None) (map-append (λ c. c.set_by) cs ds) ∙ get_or_append_left (map (λ c. c.set_by) cs) (map (λ c. c.set_by) ds) None k (omega (arith, length-map cs (λ c. c.set_by)))

pub set_right : (cs ds : List Cell) (k : ℕ) → length cs ≤ k → set_by (cs ++ ds) k ≡ set_by ds (k - length cs)
set_right cs ds k h =
    ap (λ l. get_or l k None) (map-append (λ c. c.set_by) cs ds) ∙ get_or-append_right (map (λ c. c.set_by) cs) (map (λ c. c.set_by) ds) (length cs) k None (length-map cs (λ c. c.set_by)) h

pub length-cells_of : {T : Type 0} (u : JUnit) (w : Progress) (st : Sentence T) → length (cells_of u w st) ≡ 2 * length (listed st)
length-cells_of u w st = sym (length-map (cells_of u w st) unset) ∙ ap length (unset_cells_of u w st) ∙ length-map (types_at u (listed st)) (cell_of None) ∙ length-types_at u (listed st)

module _ (u : JUnit) (sensible : Sensible u) (held : List (Option Domain)) where
  abbrev count : ℕ
  count = length u.variables

  lower_over : (i : ℕ) (w : Progress) (e : List UnitRow) → w.cells ≤ i → length w.current ≡ 2 * count → All (λ c. c < w.cells) w.current → is_term count [] e ≡ true → list_all (is_below i) (over w.current w.current e) ≡ true
  lower_over i w e h l b t = below_over i (read 0 w.current w.current) e
      (mentions_weaker (λ m. m.variable < count) (λ m. read 0 w.current w.current m < i) (λ m lt. let r = read_below count w.cells w.current l b m lt in omega arith) e
      (mentions_declared count [] e (and_parts (writes_term 32 e) _ t).1))

  -- an ASSIGN sets its cells
  assigned : (w : Progress) (d : Domain) (e f : List UnitRow) (later : List CellTerm) → 0 < length later → length w.current ≡ 2 * count → All (λ c. c < w.cells) w.current → is_term count [] e ≡ true → is_term count [] f ≡ true
      → (q k : ℕ) → set_by (cell_of (Some w.parts) d ∷ cell_of (Some (w.parts + 1)) Boolean ∷ []) k ≡ Some q
      → IsSet (equated w.cells (over w.current w.current f) ∷ equated (w.cells + 1) (over w.current w.current e) ∷ later) w.parts q (w.cells + k)
  assigned w d e f later h l b te tf q zero is = record {
    at = 0;
    place = let same : w.parts ≡ q = cc in omega arith;
    earlier = omega arith;
    shape = ap (λ c. equated c (over w.current w.current f)) (let z : w.cells ≡ w.cells + 0 = omega arith in z);
    lower = lower_over (w.cells + 0) w f (omega arith) l b tf;
  }
  assigned w d e f later h l b te tf q (suc zero) is = record {
    at = 1;
    place = let same : w.parts + 1 ≡ q = cc in omega arith;
    earlier = omega arith;
    shape = refl;
    lower = lower_over (w.cells + 1) w e (omega arith) l b te;
  }
  assigned w d e f later h l b te tf q (suc (suc k)) is = never (ap is_some is)

  set_here : {T : Type 0} (w : Progress) (st : Sentence T) (later : List CellTerm) → 0 < length later → length w.current ≡ 2 * count → All (λ c. c < w.cells) w.current → terms_kept count st ≡ true
      → (q k : ℕ) → set_by (cells_of u w st) k ≡ Some q → IsSet (parts_of w st ++ later) w.parts q (w.cells + k)
  set_here w (New vs e t) later h l b m q k is = never (ap is_some (sym (unset_by (types_at u vs) k) ∙ is))
  set_here w (Assign v e f) later h l b m q k is =
      let terms = and_parts (is_term count [] e) _ (and_parts (nat_lt v count) _ m).1 in
      assigned w (get_or (domains u) v Integer) e f later h l b terms.0 terms.1 q k is
  set_here w st later h l b m q k is = never (ap is_some is)

  none_set : {T : Type 0} (w : Progress) (st : Sentence T) (k : ℕ) → is_require (step_of st) ≡ true → set_by (cells_of u w st ++ []) k ≡ None
  none_set w (Require e t) k h = refl
  none_set w st k h = never h

  pub set_along : (i : ℕ) (rest : List ℕ) (w : Progress) → Way (required (steps_of u)) (steps_of u) i rest → Placed u held w (i ∷ rest) → (q k : ℕ) → set_by (cells_along u w (i ∷ rest)) k ≡ Some q → IsSet (parts_along u w (i ∷ rest)) w.parts q (w.cells + k)
  set_along i [] w way placed q k is = never (ap is_some (sym (none_set w (sentence u i) k (require_at u i way)) ∙ is))
  set_along i (j ∷ rest) w way placed q k is =
      let st = sentence u i in
      let next = onward w st in
      let own = cells_of u w st in
      let more = cells_along u next (j ∷ rest) in
      let size = length-cells_of u w st in
      ⊎_elim
      (λ h. set_here w st (parts_along u next (j ∷ rest)) (some_part u next j rest way.2) placed.complete placed.below (sensible.terms i) q k (sym (set_left own more k h) ∙ is))
      (λ h.
      set_later (parts_of w st) (parts_along u next (j ∷ rest)) w.parts q (w.cells + k)
      (subst (IsSet (parts_along u next (j ∷ rest)) next.parts q) (let same : next.cells + (k - length own) ≡ w.cells + k = omega arith in same)
      (set_along j rest next way.2 (placed_next u held w i (j ∷ rest) placed) q (k - length own) (sym (set_right own more k h) ∙ is))))
      (cases_lt k (length own))
