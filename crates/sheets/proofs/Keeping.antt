-- The sheet of a path keeps the rules of sheets.
use Rattle.std.proofs.Common.{◌≡◌, ℕ, ◌-◌, ◌*◌, Bool, true, List, [], ◌∷◌, ◌++◌, map, length, get_or, Some, None, is_some, refl, sym, ap, ◌∙◌, subst, ⊎_elim, arith}
use Rattle.std.proofs.lemmas.Bool.{and_parts, and_from, cases_lt}
use Rattle.std.proofs.lemmas.List.Folds.{list_all-append, list_all-map}
use Rattle.std.specs.List.{list_all}
use Rattle.terms.specs.declared.operator.Operator.TheVariants.{Equal}
use Rattle.terms.specs.declared.row.Row.TheVariants.{Mention, Operator as Applied}
use Rattle.flow.specs.Paths.{Path}
use Rattle.flow.proofs.Leading.{never}
use Rattle.jcode.specs.declared.variable.Domain.{Domain}
use Rattle.jcode.specs.declared.variable.Domain.TheVariants.{Integer, Boolean, Subrange}
use Rattle.jcode.specs.Units.{JUnit}
use Rattle.reckoning.specs.Spanning.{ranged_rows}
use Rattle.checking.specs.Breaks.{steps_of}
use Rattle.checking.specs.Nesting.{writes_term}
use Rattle.checking.specs.Pieces.{is_domain}
use Rattle.checking.specs.Types.{domains}
use Rattle.checking.proofs.Spelling.{list_all-weaker}
use Rattle.sheets.specs.declared.cell.Cell.{Cell}
use Rattle.sheets.specs.Runs.{sentence, with_shadows, types_at, listed}
use Rattle.sheets.specs.PathSheets.{cell_of, cells_along, started, sheet_of}
use Rattle.sheets.specs.Sheets.{CellTerm, Condition, part, cell_bounds, set_by, is_bounded, is_below, setting_term, is_true_term, Sets, Keeps}
use Rattle.sheets.specs.Matches.{Sensible, SheetsKeep}
use Rattle.sheets.proofs.Typing.{unset}
use Rattle.sheets.proofs.Matching.{length-start, some_part}
use Rattle.sheets.proofs.Placing.{types_along, sheet_types, unset_sheet, held_types, placed_start}
use Rattle.sheets.proofs.Fitting.{all_at, fits, fits_parts, all_fit}
use Rattle.sheets.proofs.Equating.{IsSet, unset_by, set_left, set_right, set_along}

-- ---- bounds
domain_bounded : (d : Domain) → is_domain d ≡ true → is_bounded (cell_of None d) ≡ true
domain_bounded Integer h = refl
domain_bounded Boolean h = refl
domain_bounded (Subrange low high) h = h

shadows_bounded : (ds : List Domain) → list_all is_domain ds ≡ true → list_all is_domain (with_shadows ds) ≡ true
shadows_bounded [] h = refl
shadows_bounded (d ∷ ds) h = let p = and_parts (is_domain d) _ h in and_from _ _ p.0 (shadows_bounded ds p.1)

-- ---- setting parts
sets_from : (c : Condition) (q d e : ℕ) → IsSet c.parts 0 q d → d ≡ e → Sets c q e
sets_from c q d e s is =
    let same : s.at ≡ q = omega (arith, s.place) in
    subst (Sets c q) is (record {
      earlier = omega (arith, s.place, s.earlier);
      shape = subst (λ k. part c k ≡ Applied Equal ∷ Mention d ∷ setting_term (part c k)) same s.shape;
      lower = subst (λ k. list_all (is_below d) (setting_term (part c k)) ≡ true) same s.lower;
    })

module _ (u : JUnit) (sensible : Sensible u) where
  types_bounded : (vs : List ℕ) → list_all is_domain (map (λ v. get_or (domains u) v Integer) vs) ≡ true
  types_bounded [] = refl
  types_bounded (v ∷ vs) = and_from _ _ (all_at is_domain (domains u) v Integer refl sensible.types) (types_bounded vs)

  along_bounded : (p : List ℕ) → list_all is_domain (types_along u p) ≡ true
  along_bounded [] = refl
  along_bounded (i ∷ p) =
      list_all-append is_domain (types_at u (listed (sentence u i))) (types_along u p)
      ∙ and_from _ _ (shadows_bounded (map (λ v. get_or (domains u) v Integer) (listed (sentence u i))) (types_bounded (listed (sentence u i)))) (along_bounded p)

  all_bounded : (p : List ℕ) → list_all is_bounded (sheet_of u p).cells ≡ true
  all_bounded p =
      sym (list_all-map is_bounded unset (sheet_of u p).cells)
      ∙ ap (list_all is_bounded) (unset_sheet u p)
      ∙ list_all-map is_bounded (cell_of None) (sheet_types u p)
      ∙ list_all-weaker is_domain (λ d. is_bounded (cell_of None d)) domain_bounded (sheet_types u p)
      (list_all-append is_domain (with_shadows (domains u)) (types_along u p) ∙ and_from _ _ (shadows_bounded (domains u) sensible.types) (along_bounded p))

  module _ (i : ℕ) (rest : List ℕ) (path : Path (steps_of u) (i ∷ rest)) where
    abbrev p : List ℕ
    p = i ∷ rest

    each : (test : CellTerm → Bool) → ((e : CellTerm) → fits u sensible p e ≡ true → test e ≡ true) → list_all test (sheet_of u p).parts ≡ true
    each test f = list_all-weaker (fits u sensible p) test f (sheet_of u p).parts (all_fit u sensible p)

    abbrev first : List Cell
    first = map (cell_of None) (with_shadows (domains u))

    abbrev more : List Cell
    more = cells_along u (started u) p

    size : length first ≡ 2 * length u.variables
    size = length-start u

    sets : (q c : ℕ) → set_by (first ++ more) c ≡ Some q → Sets (sheet_of u p) q c
    sets q c is = ⊎_elim
        (λ h. never (ap is_some (sym (set_left first more c h ∙ unset_by (with_shadows (domains u)) c) ∙ is)))
        (λ h. sets_from (sheet_of u p) q _ c (set_along u sensible (held_types u p) i rest (started u) path.1 (placed_start u p) q (c - length first) (sym (set_right first more c h) ∙ is)) (omega (arith, size)))
        (cases_lt c (length first))

    keeps : Keeps (sheet_of u p)
    keeps = record {
      some = some_part u (started u) i rest path.1;
      complete = each (writes_term 33) (λ e h. (fits_parts u sensible p e h).0);
      truths = each (is_true_term (sheet_of u p).cells) (λ e h. (fits_parts u sensible p e h).1);
      bounded = all_bounded p;
      setting = sets;
      ranged = each (ranged_rows (cell_bounds (sheet_of u p).cells)) (λ e h. (fits_parts u sensible p e h).2);
    }

  pub keeps_rules : SheetsKeep u
  keeps_rules [] path = absurd path
  keeps_rules (i ∷ rest) path = keeps i rest path
