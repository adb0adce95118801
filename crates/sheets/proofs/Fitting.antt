-- Every part of a path's sheet is a complete truth of the right kinds and ranges.
use Rattle.std.proofs.Common.{◌≡◌, ℕ, zero, suc, ◌+◌, ◌*◌, ◌<◌, Bool, true, false, cond, ◌&&◌, List, [], ◌∷◌, ◌++◌, map, length, get_or, drop, Some, None, Option, refl, sym, ap, ◌∙◌, arith}
use Rattle.std.proofs.lemmas.Bool.{and_parts, and_from, ltb-true}
use Rattle.std.proofs.lemmas.List.{length-map}
use Rattle.std.proofs.lemmas.List.Folds.{list_all-append}
use Rattle.std.proofs.lemmas.Option.{slice_get-get_or}
use Rattle.std.specs.List.{list_all}
use Rattle.std.specs.Option.{option_map, unwrap_or}
use Rattle.std.specs.Prelude.{int_le, nat_lt}
use Rattle.terms.specs.Numbers.{in_span}
use Rattle.terms.specs.Operators.{operands}
use Rattle.terms.specs.declared.kind.Kind.{Kind}
use Rattle.terms.specs.declared.kind.Kind.TheVariants.{Number, Truth}
use Rattle.terms.specs.declared.operator.Operator.TheVariants.{Equal}
use Rattle.reckoning.specs.declared.decision.Decision.{Decision}
use Rattle.reckoning.specs.declared.decision.Decision.TheVariants.{Yes, No, Unknown}
use Rattle.reckoning.specs.declared.mark.Mark.{Mark}
use Rattle.reckoning.specs.Evaluation.{Mentions, marks_by}
use Rattle.reckoning.specs.Kinds.{is_kind, kind_given, kinds, kind_of}
use Rattle.reckoning.proofs.Relating.{entry}
use Rattle.reckoning.specs.Ranges.{is_range, truth_range, range_fits, range_applied, ranges}
use Rattle.reckoning.specs.Certain.{certain_equal}
use Rattle.reckoning.specs.Spanning.{ranged_rows}
use Rattle.flow.proofs.Leading.{never}
use Rattle.jcode.specs.declared.variable.Domain.{Domain}
use Rattle.jcode.specs.declared.variable.Domain.TheVariants.{Integer, Boolean, Subrange}
use Rattle.jcode.specs.ReadTerms.{UnitRow}
use Rattle.jcode.specs.Sentences.{Sentence, Require, Proclaim, New, Assign, When}
use Rattle.jcode.specs.Units.{JUnit}
use Rattle.checking.specs.Nesting.{writes_term}
use Rattle.checking.specs.Pieces.{is_domain, is_term, is_list}
use Rattle.checking.specs.Rules.{is_truth, of_domain, stays_in, kinds_kept, span_kept}
use Rattle.checking.specs.Types.{domains, domain_kind, domain_bounds, mention_domain, mention_kind, mention_bounds}
use Rattle.sheets.specs.Runs.{sentence, types_at, read, listed}
use Rattle.sheets.specs.PathSheets.{Progress, moved, over, equated, parts_of, onward, parts_along, started, sheet_of}
use Rattle.sheets.specs.Sheets.{CellTerm, cell_kind, cell_bounds, is_true_term}
use Rattle.sheets.specs.Matches.{Sensible, terms_kept}
use Rattle.sheets.proofs.Storing.{at_drop, looked}
use Rattle.sheets.proofs.Substituting.{mentions_weaker, mentions_declared, writes_over, kind_over, ranged_over}
use Rattle.sheets.proofs.Deepening.{writes_deeper, writes_equated}
use Rattle.sheets.proofs.Placing.{types_along, held_types, kind_by_type, bounds_by_type, laid_types, Placed, placed_next, placed_start, mention_typed}

-- ---- `equal!` of two of a kind
equal_kind : (a : Kind) (b c : Option Kind) → is_kind b a ≡ true → is_kind (kind_given Equal (Some a) b c) Truth ≡ true
equal_kind Number None c h = never h
equal_kind Number (Some Number) c h = refl
equal_kind Number (Some Truth) c h = never h
equal_kind Truth None c h = never h
equal_kind Truth (Some Number) c h = never h
equal_kind Truth (Some Truth) c h = refl

truth_ranged : (d : Decision) → is_range (truth_range d) ≡ true
truth_ranged Yes = refl
truth_ranged No = refl
truth_ranged Unknown = refl

known_ranged : (known : Bool) (d : Decision) → is_range (cond known (truth_range d) (truth_range Unknown)) ≡ true
known_ranged true d = truth_ranged d
known_ranged false d = refl

equal_ranged : (a b c : Mark) → is_range (range_applied Equal a b c) ≡ true
equal_ranged a b c = known_ranged (operands range_fits Equal a b c) (certain_equal a b)

kind_equated : (at : ℕ → Option Kind) (c : ℕ) (k : Kind) (e : CellTerm) → at c ≡ Some k → is_kind (kind_of at e) k ≡ true → is_kind (kind_of at (equated c e)) Truth ≡ true
kind_equated at c k e is h =
    ap (λ o. is_kind (kind_given Equal o (entry (kinds at) e 0) (entry (kinds at) e 1)) Truth) is ∙ equal_kind k (entry (kinds at) e 0) (entry (kinds at) e 1) h

ranged_equated : (at : ℕ → Option Mark) (c : ℕ) (m : Mark) (e : CellTerm) → at c ≡ Some m → is_range m ≡ true → ranged_rows at e ≡ true → ranged_rows at (equated c e) ≡ true
ranged_equated at c m e is h r =
    let own = ap (λ o. is_range (unwrap_or o ranges.anything)) is ∙ h in
    and_from _ _ (equal_ranged (unwrap_or (at c) ranges.anything) (entry (marks_by ranges at) e 0) (entry (marks_by ranges at) e 1)) (and_from (is_range (unwrap_or (at c) ranges.anything)) (ranged_rows at e) own r)

domain_ranged : (d : Domain) → is_domain d ≡ true → is_range (domain_bounds d) ≡ true
domain_ranged Integer h = refl
domain_ranged Boolean h = refl
domain_ranged (Subrange low high) h = let p = and_parts (in_span low && in_span high) (int_le low high) h in and_from (int_le low high) (in_span low && in_span high) p.1 p.0

pub all_at : {X : Type 0} (test : X → Bool) (xs : List X) (i : ℕ) (d : X) → test d ≡ true → list_all test xs ≡ true → test (get_or xs i d) ≡ true
all_at test [] i d h k = h
all_at test (x ∷ xs) zero d h k = (and_parts _ _ k).0
all_at test (x ∷ xs) (suc i) d h k = all_at test xs i d h (and_parts (test x) _ k).1

module _ (u : JUnit) (sensible : Sensible u) (path : List ℕ) where
  abbrev count : ℕ
  count = length u.variables

  abbrev ds : List Domain
  ds = domains u

  abbrev held : List (Option Domain)
  held = held_types u path

  abbrev kind_at : ℕ → Option Kind
  kind_at = cell_kind (sheet_of u path).cells

  abbrev bounds_at : ℕ → Option Mark
  bounds_at = cell_bounds (sheet_of u path).cells

  -- a part keeps the rules
  pub fits : CellTerm → Bool
  fits e = writes_term 33 e && (is_true_term (sheet_of u path).cells e && ranged_rows bounds_at e)

  pub fits_parts : (e : CellTerm) → fits e ≡ true → (writes_term 33 e ≡ true) × (is_true_term (sheet_of u path).cells e ≡ true) × (ranged_rows bounds_at e ≡ true)
  unfolding fits
  fits_parts e h = let p = and_parts (writes_term 33 e) _ h in let q = and_parts (is_true_term (sheet_of u path).cells e) _ p.1 in (p.0, q.0, q.1)

  -- cells that have the types of a store's entries
  abbrev Typed : List ℕ → Type 0
  Typed cs = (length cs ≡ 2 * count) × (looked held None cs ≡ laid_types ds)

  module _ (before after : List ℕ) (b : Typed before) (a : Typed after) (vs : List ℕ) (e : List UnitRow) (term : is_term count vs e ≡ true) where
    mentions : Mentions (λ m. get_or held (read 0 before after m) None ≡ mention_domain ds m) e
    mentions = mentions_weaker (λ m. m.variable < count) (λ m. get_or held (read 0 before after m) None ≡ mention_domain ds m) (mention_typed u held before after b.0 a.0 b.1 a.1) e
        (mentions_declared count vs e (and_parts (writes_term 32 e) _ term).1)

    same_kind : kind_of kind_at (over before after e) ≡ kind_of (mention_kind ds) e
    same_kind = kind_over kind_at (mention_kind ds) (read 0 before after) e
        (mentions_weaker (λ m. get_or held (read 0 before after m) None ≡ mention_domain ds m) (λ m. kind_at (read 0 before after m) ≡ mention_kind ds m)
        (λ m is. kind_by_type u path (read 0 before after m) ∙ ap (option_map domain_kind) is) e mentions)

    same_ranges : ranged_rows bounds_at (over before after e) ≡ stays_in ds e
    same_ranges = ranged_over bounds_at (mention_bounds ds) (read 0 before after) e
        (mentions_weaker (λ m. get_or held (read 0 before after m) None ≡ mention_domain ds m) (λ m. bounds_at (read 0 before after m) ≡ mention_bounds ds m)
        (λ m is. bounds_by_type u path (read 0 before after m) ∙ ap (option_map domain_bounds) is) e mentions)

    written : writes_term 32 (over before after e) ≡ true
    written = writes_over 32 (read 0 before after) e ∙ (and_parts _ _ term).0

    truth_fits : is_truth ds e ≡ true → stays_in ds e ≡ true → fits (over before after e) ≡ true
    unfolding fits
    truth_fits t r = and_from _ _ (writes_deeper (over before after e) written) (and_from _ _ (ap (λ k. is_kind k Truth) same_kind ∙ t) (same_ranges ∙ r))

    set_fits : (c : ℕ) (d : Domain) → get_or held c None ≡ Some d → is_domain d ≡ true → is_kind (kind_of (mention_kind ds) e) (domain_kind d) ≡ true → stays_in ds e ≡ true → fits (equated c (over before after e)) ≡ true
    unfolding fits
    set_fits c d at bounded k r =
        and_from _ _ (writes_equated c (over before after e) written)
        (and_from _ _
        (kind_equated kind_at c (domain_kind d) (over before after e) (kind_by_type u path c ∙ ap (option_map domain_kind) at) (ap (λ k. is_kind k (domain_kind d)) same_kind ∙ k))
        (ranged_equated bounds_at c (domain_bounds d) (over before after e) (bounds_by_type u path c ∙ ap (option_map domain_bounds) at) (domain_ranged d bounded) (same_ranges ∙ r)))

  only : (e : CellTerm) → fits e ≡ true → list_all fits (e ∷ []) ≡ true
  only e h = and_from (fits e) true h refl

  -- the parts of a statement, whose own cells come next
  parts_fit : {T : Type 0} (w : Progress) (st : Sentence T) (later : List Domain) → Typed w.current → Typed (moved w st) → drop w.cells held ≡ map Some (types_at u (listed st) ++ later)
      → terms_kept count st ≡ true → kinds_kept ds st ≡ true → span_kept ds st ≡ true → list_all fits (parts_of w st) ≡ true
  parts_fit w (Require e t) later b a own m k r = only _ (truth_fits w.current w.current b b [] e m k r)
  parts_fit w (Proclaim e) later b a own m k r = only _ (truth_fits w.current w.current b b [] e m k r)
  parts_fit w (New vs e t) later b a own m k r = only _ (truth_fits w.current (moved w (New vs e t)) b a vs e (and_parts (is_list count vs) _ m).1 k r)
  parts_fit w (Assign v e f) later b a own m k r =
      let declared = and_parts (nat_lt v count) _ m in
      let terms = and_parts (is_term count [] e) _ declared.1 in
      let kinds = and_parts (is_truth ds e) _ k in
      let ranged = and_parts (stays_in ds e) _ r in
      let d = get_or ds v Integer in
      let inside : v < count = ltb-true v count declared.0 in
      let like = ap (λ o. of_domain o (kind_of (mention_kind ds) f)) (sym (slice_get-get_or ds v Integer (omega (arith, length-map u.variables (λ d. d.domain))))) ∙ kinds.1 in
      let first = ap (λ c. get_or held c None) (let z : w.cells ≡ w.cells + 0 = omega arith in z) ∙ at_drop held None w.cells 0 (map Some (d ∷ Boolean ∷ later)) own in
      and_from _ _ (set_fits w.current w.current b b [] f terms.1 w.cells d first (all_at is_domain ds v Integer refl sensible.types) like ranged.1)
      (only _ (set_fits w.current w.current b b [] e terms.0 (w.cells + 1) Boolean (at_drop held None w.cells 1 (map Some (d ∷ Boolean ∷ later)) own) refl kinds.0 ranged.0))
  parts_fit w (When e l) later b a own m k r = only _ (truth_fits w.current w.current b b [] e m k r)
  parts_fit w st later b a own m k r = refl

  each_fits : (w : Progress) (p : List ℕ) → Placed u held w p → list_all fits (parts_along u w p) ≡ true
  each_fits w [] placed = refl
  each_fits w (i ∷ p) placed =
      let st = sentence u i in
      let next = placed_next u held w i p placed in
      list_all-append fits (parts_of w st) (parts_along u (onward w st) p)
      ∙ and_from _ _ (parts_fit w st (types_along u p) (placed.complete, placed.typed) (next.complete, next.typed) placed.coming (sensible.terms i) (sensible.kinds i) (sensible.spans i)) (each_fits (onward w st) p next)

  pub all_fit : list_all fits (sheet_of u path).parts ≡ true
  all_fit = each_fits (started u) path (placed_start u path)
