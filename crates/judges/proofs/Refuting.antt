-- Whether a valuation refutes a sheet, part by part.
use Rattle.std.proofs.Common.{◌≡◌, ℕ, ◌+◌, ◌-◌, ◌<◌, true, false, ◌&&◌, List, [], ◌∷◌, length, map, drop, get_or, ℤ, pos, sym, ap, ◌∙◌, arith, w64, SFits, of_z}
use Rattle.std.proofs.lemmas.Int.{ints}
use Rattle.std.proofs.lemmas.List.{drop_more, length-map, get_or-map}
use Rattle.terms.specs.declared.row.Row.{Row}
use Rattle.terms.specs.Numbers.{same_number}
use Rattle.terms.specs.Terms.{value}
use Rattle.sheets.specs.declared.part.Part.{Part}
use Rattle.sheets.specs.Sheets.{CellTerm, part_in}
use Rattle.sheets.specs.Valuations.{cell_in}
use Rattle.judges.specs.Tries.{is_refuted}

is_one : (n : ℤ) → SFits w64 n → of_z w64 n ≡ 1 → same_number n (pos 1) ≡ true
is_one n f e = grind (arith, ints)

not_one : (n : ℤ) → SFits w64 n → (of_z w64 n ≡ 1 → ⊥) → same_number n (pos 1) ≡ false
not_one n f h = grind (arith, ints)

opened : (v : List ℤ) (es : List CellTerm) (p : ℕ) → p + 1 < length es → is_refuted v (drop p es) ≡ (same_number (value (cell_in v) (get_or es p [])) (pos 1) && is_refuted v (drop (p + 1) es))
opened v es p lt =
    let next = drop_more es (p + 1) [] lt in
    ap (is_refuted v) (drop_more es p [] (omega arith) ∙ ap (λ ds. get_or es p [] ∷ ds) next) ∙ sym (ap (λ ds. same_number (value (cell_in v) (get_or es p [])) (pos 1) && is_refuted v ds) next)

-- a part that is no goal: the rest decides where it is true
module _ (v : List ℤ) (rows : List (Row ℕ)) (ps : List Part) (p : ℕ) (none : Part) (e : CellTerm) (n : ℤ) (lt : p < length ps) (more : p ≡ length ps - 1 → ⊥) (is : e ≡ part_in rows (get_or ps p none)) (told : n ≡ value (cell_in v) e) (fits : SFits w64 n) where
  abbrev es : List CellTerm
  es = map (part_in rows) ps

  here : is_refuted v (drop p es) ≡ (same_number n (pos 1) && is_refuted v (drop (p + 1) es))
  here =
      let long : length es ≡ length ps = length-map ps (part_in rows) in
      let said : n ≡ value (cell_in v) (get_or es p []) = told ∙ ap (value (cell_in v)) (is ∙ sym (get_or-map (part_in rows) ps p none [] lt)) in
      opened v es p (omega arith) ∙ ap (λ m. same_number m (pos 1) && is_refuted v (drop (p + 1) es)) (sym said)

  pub goes_on : of_z w64 n ≡ 1 → is_refuted v (drop (p + 1) es) ≡ is_refuted v (drop p es)
  goes_on one = sym (here ∙ ap (λ b. b && is_refuted v (drop (p + 1) es)) (is_one n fits one))

  pub fails : (of_z w64 n ≡ 1 → ⊥) → false ≡ is_refuted v (drop p es)
  fails other = sym (here ∙ ap (λ b. b && is_refuted v (drop (p + 1) es)) (not_one n fits other))
