-- The parts of a sheet, one after another.
use Rattle.std.proofs.Common.{◌≡◌, ℕ, ◌+◌, ◌<◌, true, false, List, [], ◌∷◌, length, map, drop, get_or, Some, None, Option, ◌-◌, refl, sym, ap, ap₂, ◌∙◌, subst, arith}
use Rattle.std.specs.Option.{is_some}
use Rattle.std.proofs.lemmas.List.{drop_more, drop_all, get_or-map, length-map}
use Rattle.std.proofs.lemmas.Bool.{true≢false}
use Rattle.reckoning.specs.declared.mark.Mark.{Mark}
use Rattle.reckoning.specs.Reckonings.{Meaning}
use Rattle.terms.specs.declared.row.Row.{Row}
use Rattle.sheets.specs.declared.part.Part.{Part}
use Rattle.sheets.specs.Sheets.{CellTerm, Condition, part_in, cell_set}
use Rattle.sheets.specs.declared.judge.Answer.TheVariants.{Pass}
use Rattle.sheets.specs.Judges.{Opinion, passed}
use Rattle.judges.specs.Passes.{marked, after_part, Left, by_goal, pass_or, pass_from, answer_of}

module _ (r : Meaning) (c : Condition) (es : List CellTerm) (p : ℕ) (marks : List Mark) where
  pub pass_more : p + 1 < length es → pass_from r c p (drop p es) marks ≡ pass_or (after_part r (cell_set c p) (get_or es p []) marks) (pass_from r c (p + 1) (drop (p + 1) es))
  pass_more lt =
      let here = drop_more es p [] (omega arith) in
      let next = drop_more es (p + 1) [] lt in
      ap (λ ds. pass_from r c p ds marks) (here ∙ ap (λ ds. get_or es p [] ∷ ds) next) ∙ sym (ap (λ ds. pass_or (after_part r (cell_set c p) (get_or es p []) marks) (pass_from r c (p + 1) ds)) next)

  pub pass_last : p + 1 ≡ length es → pass_from r c p (drop p es) marks ≡ by_goal (r.decided (marked r marks (get_or es p [])))
  pass_last is = ap (λ ds. pass_from r c p ds marks) (drop_more es p [] (omega arith) ∙ ap (λ ds. get_or es p [] ∷ ds) (drop_all (p + 1) es (omega arith)))

-- where a part leaves nothing the sheet passes, else it goes on with the marks that are left
abbrev Goes : Option (List Mark) → (List Mark → Opinion) → Option (Unit {0}) → List Mark → Type 0
Goes o go told left = (is_some told ≡ false → pass_or o go ≡ passed) × (is_some told ≡ true → go left ≡ pass_or o go)

goes : (o : Option (List Mark)) (go : List Mark → Opinion) (told : Option (Unit {0})) (left : List Mark) → Left o told left → Goes o go told left
goes None go None left h = (λ e. refl, λ e. absurd (true≢false (sym e)))
goes None go (Some u) left h = absurd (let z : ◌≡◌ {A = ℕ} 0 1 = cc in omega arith)
goes (Some marks) go None left h = absurd (let k = h.0 in let z : ◌≡◌ {A = ℕ} 0 1 = cc in omega arith)
goes (Some marks) go (Some u) left h = (λ e. absurd (true≢false e), λ e. ap go h.1)

module _ (r : Meaning) (c : Condition) (rows : List (Row ℕ)) (ps : List Part) (p : ℕ) (marks left : List Mark) (none : Part) (e : CellTerm) (set : Option ℕ) (told : Option (Unit {0})) where
  abbrev es : List CellTerm
  es = map (part_in rows) ps

  -- a part is taken in, where what is left from it on says so much
  pub step : (all : Opinion) → pass_from r c p (drop p es) marks ≡ all → p < length ps → (p ≡ length ps - 1 → ⊥) → e ≡ part_in rows (get_or ps p none) → set ≡ cell_set c p → Left (after_part r set e marks) told left
      → (is_some told ≡ false → Pass ≡ answer_of all) × (is_some told ≡ true → pass_from r c (p + 1) (drop (p + 1) es) left ≡ all)
  step all so_far lt more is sets h =
      let at : e ≡ get_or es p [] = is ∙ sym (get_or-map (part_in rows) ps p none [] lt) in
      let long : length es ≡ length ps = length-map ps (part_in rows) in
      let opened = pass_more r c es p marks (omega arith) in
      let same : after_part r set e marks ≡ after_part r (cell_set c p) (get_or es p []) marks = ap₂ (λ s t. after_part r s t marks) sets at in
      let g = goes (after_part r (cell_set c p) (get_or es p []) marks) (pass_from r c (p + 1) (drop (p + 1) es)) told left (subst (λ o. Left o told left) same h) in
      (λ f. ap answer_of (sym (g.0 f) ∙ sym opened ∙ so_far), λ t. g.1 t ∙ sym opened ∙ so_far)
