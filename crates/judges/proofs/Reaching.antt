-- The pass as its loop goes, and as it is told of parts and cells alone.
use Rattle.std.proofs.Common.{◌≡◌, ◌≢◌, ◌⊎◌, ℕ, zero, suc, ◌+◌, ◌<◌, ◌≤◌, true, List, [], ◌∷◌, length, drop, get_or, Some, None, Option, position, map, option_map, slice_get, slice_index_or, slice_set, refl, sym, ap, ◌∙◌, inl, inr, arith}
use Rattle.std.specs.List.{position_or_len}
use Rattle.std.proofs.lemmas.Bool.{true≢false, eq-eqb}
use Rattle.std.proofs.lemmas.Grind.{common_steps}
use Rattle.std.proofs.lemmas.List.{length-map, length-set}
use Rattle.std.proofs.lemmas.List.Sums.{fails_before_first}
use Rattle.std.proofs.lemmas.Option.{slice_get-get_or}
use Rattle.reckoning.specs.declared.mark.Mark.{Mark}
use Rattle.reckoning.specs.declared.decision.Decision.{Decision}
use Rattle.reckoning.specs.declared.decision.Decision.TheVariants.{Yes, No, Unknown}
use Rattle.reckoning.specs.Reckonings.{Meaning}
use Rattle.sheets.specs.declared.cell.Cell.{Cell}
use Rattle.sheets.specs.Sheets.{CellTerm, Condition, part, set_by, is_some_of, is_set_by, cell_set, setting_term, Keeps}
use Rattle.sheets.specs.Judges.{Opinion, passed, unsure}
use Rattle.judges.specs.Passes.{bounds_mark, marked, unless_no, after_part, by_goal, pass_or, pass_from, pass, Meets, Asks, Comes, begins, narrows, keeps, Passes, by_nothing, by_no, by_yes, PartByPart}
use Rattle.judges.specs.Passing.{cell_is_set, set_by_at, at_place}
use Rattle.judges.specs.Ranging.{no_cell}
use Rattle.judges.proofs.Parts.{pass_more, pass_last}

none : {X A : Type 0} {x : A} → None ≡ Some x → X
none e = absurd (let z : ◌≡◌ {A = ℕ} 0 1 = cc in omega arith)

clash : {X : Type 0} → unsure ≡ passed → X
clash e = absurd (let z : ◌≡◌ {A = ℕ} 0 1 = cc in omega arith)

-- a cell that is set is there
there : (cs : List Cell) (i p : ℕ) → set_by cs i ≡ Some p → i < length cs
there [] i p e = none e
there (c ∷ cs) zero p e = omega arith
there (c ∷ cs) (suc i) p e = let more = there cs i p e in omega arith

-- and a part that sets it is found to set some cell
none_sets : (cs : List Cell) (p : ℕ) → position (is_set_by p) cs ≡ None → (i : ℕ) → set_by cs i ≢ Some p
none_sets cs p e i is =
    let lt = there cs i p is in
    let far : length cs ≤ position_or_len (is_set_by p) cs = grind (arith, common_steps) in
    let unset = fails_before_first (is_set_by p) cs i no_cell (omega arith) in
    let set : is_set_by p (get_or cs i no_cell) ≡ true = ap (is_some_of p) (set_by_at cs i no_cell lt ∙ is) ∙ eq-eqb p p refl in
    true≢false (sym set ∙ unset)

module _ (r : Meaning) (c : Condition) (kept : Keeps c) where
  -- the one cell that a part sets
  the_cell : (p i : ℕ) → set_by c.cells i ≡ Some p → cell_set c p ≡ Some i
  the_cell p i is = go (cell_set c p) refl
    where
      go : (o : Option ℕ) → cell_set c p ≡ o → cell_set c p ≡ Some i
      go None e = absurd (none_sets c.cells p e i is)
      go (Some j) e =
          let this = (kept.setting p i is).shape in
          let that = (kept.setting p j (cell_is_set c p j e)).shape in
          let same : j ≡ i = cc in
          e ∙ ap Some same

  no_set : (p : ℕ) → Asks c p → cell_set c p ≡ None
  no_set p asks = go (cell_set c p) refl
    where
      go : (o : Option ℕ) → cell_set c p ≡ o → cell_set c p ≡ None
      go None e = e
      go (Some j) e = absurd (asks.1 j (cell_is_set c p j e))

  -- what a part leaves of the marks
  abbrev after : ℕ → List Mark → Option (List Mark)
  after p marks = after_part r (cell_set c p) (part c p) marks

  by_meet : (p i : ℕ) (marks : List Mark) (met : Option Mark) → Meets r c p i marks met → after p marks ≡ option_map (slice_set marks i) met
  by_meet p i marks met m =
      ap (λ o. after_part r o (part c p) marks) (the_cell p i m.sets)
      ∙ ap (λ k. option_map (slice_set marks i) (r.met k (marked r marks (setting_term (part c p))))) (at_mark marks i m.mark m.here)
      ∙ ap (option_map (slice_set marks i)) m.meet
    where
      at_mark : (ks : List Mark) (j : ℕ) (k : Mark) → slice_get ks j ≡ Some k → slice_index_or ks j r.anything ≡ k
      at_mark [] j k e = none e
      at_mark (x ∷ ks) zero k e = cc
      at_mark (x ∷ ks) (suc j) k e = at_mark ks j k e

  by_decision : (p : ℕ) (marks : List Mark) → Asks c p → after p marks ≡ unless_no (r.decided (marked r marks (part c p))) marks
  by_decision p marks asks = ap (λ o. after_part r o (part c p) marks) (no_set p asks)

  earlier : (p i : ℕ) (marks : List Mark) (met : Option Mark) → Meets r c p i marks met → p + 1 < length c.parts
  earlier p i marks met m = (kept.setting p i m.sets).earlier

  -- what the loop comes to from part p on with these marks
  abbrev onward : ℕ → List Mark → Opinion
  onward p marks = pass_from r c p (drop p c.parts) marks

  -- the loop comes to part p with these marks, or passes before
  abbrev Along : ℕ → List Mark → Type 0
  Along p marks = (pass r c ≡ passed) ⊎ (pass r c ≡ onward p marks)

  past : (p : ℕ) (marks : List Mark) (o : Option (List Mark)) → p + 1 < length c.parts → after p marks ≡ o → pass r c ≡ onward p marks → pass r c ≡ pass_or o (onward (p + 1))
  past p marks o lt is so = so ∙ pass_more r c c.parts p marks lt ∙ ap (λ q. pass_or q (onward (p + 1))) is

  goes_on : (p : ℕ) (marks left : List Mark) → p + 1 < length c.parts → after p marks ≡ Some left → Along p marks → Along (p + 1) left
  goes_on p marks left lt is along = elim along [ inl e ↦ inl e | inr so ↦ inr (past p marks (Some left) lt is so) ]

  ends : (p : ℕ) (marks : List Mark) → p + 1 < length c.parts → after p marks ≡ None → Along p marks → pass r c ≡ passed
  ends p marks lt is along = elim along [ inl e ↦ e | inr so ↦ past p marks None lt is so ]

  along : {p : ℕ} {marks : List Mark} → Comes r c p marks → Along p marks
  along begins = inr refl
  along (narrows {p} {i} {marks} {met} before m) = goes_on p marks (slice_set marks i met) (earlier p i marks (Some met) m) (by_meet p i marks (Some met) m) (along before)
  along (keeps {p} {marks} before asks) = go (r.decided (marked r marks (part c p))) refl (along before)
    where
      go : (d : Decision) → r.decided (marked r marks (part c p)) ≡ d → Along p marks → Along (p + 1) marks
      go No is so = inl (ends p marks asks.0 (by_decision p marks asks ∙ ap (λ d. unless_no d marks) is) so)
      go Yes is so = goes_on p marks marks asks.0 (by_decision p marks asks ∙ ap (λ d. unless_no d marks) is) so
      go Unknown is so = goes_on p marks marks asks.0 (by_decision p marks asks ∙ ap (λ d. unless_no d marks) is) so

  does_pass : Passes r c → pass r c ≡ passed
  does_pass (by_nothing {p} {i} {marks} comes m) = ends p marks (earlier p i marks None m) (by_meet p i marks None m) (along comes)
  does_pass (by_no {p} {marks} comes asks is) = ends p marks asks.0 (by_decision p marks asks ∙ ap (λ d. unless_no d marks) is) (along comes)
  does_pass (by_yes {p} {marks} comes last is) = elim (along comes) [ inl e ↦ e | inr so ↦ so ∙ pass_last r c c.parts p marks last ∙ ap by_goal is ]

  -- a part is past: the pass ended at it, or goes on
  part_past : (p : ℕ) (marks : List Mark) (go : List Mark → Opinion) → p + 1 < length c.parts → length marks ≡ length c.cells → Comes r c p marks → pass_or (after p marks) go ≡ passed
      → ((left : List Mark) → length left ≡ length c.cells → Comes r c (p + 1) left → go left ≡ passed → Passes r c) → Passes r c
  part_past p marks go lt long comes is rest = by_set (cell_set c p) refl
    where
      decided : Asks c p → (d : Decision) → r.decided (marked r marks (part c p)) ≡ d → Passes r c
      decided asks No e = by_no comes asks e
      decided asks Yes e = rest marks long (keeps comes asks) (ap (λ o. pass_or o go) (sym (by_decision p marks asks ∙ ap (λ d. unless_no d marks) e)) ∙ is)
      decided asks Unknown e = rest marks long (keeps comes asks) (ap (λ o. pass_or o go) (sym (by_decision p marks asks ∙ ap (λ d. unless_no d marks) e)) ∙ is)

      met : (i : ℕ) (o : Option Mark) → Meets r c p i marks o → Passes r c
      met i None m = by_nothing comes m
      met i (Some k) m = rest (slice_set marks i k) (length-set marks i k ∙ long) (narrows comes m) (ap (λ o. pass_or o go) (sym (by_meet p i marks (Some k) m)) ∙ is)

      by_set : (o : Option ℕ) → cell_set c p ≡ o → Passes r c
      by_set None e = decided (lt, none_sets c.cells p e) (r.decided (marked r marks (part c p))) refl
      by_set (Some i) e =
          let sets = cell_is_set c p i e in
          let k = slice_index_or marks i r.anything in
          let here : slice_get marks i ≡ Some k = slice_get-get_or marks i r.anything (let lt = there c.cells i p sets in omega arith) in
          met i (r.met k (marked r marks (setting_term (part c p)))) (record { sets = sets; mark = k; here = here; meet = refl })

  passes_from : (p : ℕ) (es : List CellTerm) → es ≡ drop p c.parts → (marks : List Mark) → length marks ≡ length c.cells → Comes r c p marks → pass_from r c p es marks ≡ passed → Passes r c
  passes_from p [] at marks long comes is = clash is
  passes_from p (goal ∷ []) at marks long comes is =
      let t = at_place c.parts p goal [] [] at in
      go (r.decided (marked r marks (part c p))) refl (ap (λ e. by_goal (r.decided (marked r marks e))) (sym t.1) ∙ is)
      (let last = t.3 in omega arith)
    where
      go : (d : Decision) → r.decided (marked r marks (part c p)) ≡ d → by_goal (r.decided (marked r marks (part c p))) ≡ passed → p + 1 ≡ length c.parts → Passes r c
      go Yes is e last = by_yes comes last is
      go No is e last = clash (ap by_goal (sym is) ∙ e)
      go Unknown is e last = clash (ap by_goal (sym is) ∙ e)
  passes_from p (e ∷ f ∷ es) at marks long comes is =
      let t = at_place c.parts p e (f ∷ es) [] at in
      part_past p marks (pass_from r c (p + 1) (f ∷ es)) (let more = t.3 in omega arith) long comes
      (ap (λ t. pass_or (after_part r (cell_set c p) t marks) (pass_from r c (p + 1) (f ∷ es))) (sym t.1) ∙ is) (passes_from (p + 1) (f ∷ es) t.2)

  is_passed : pass r c ≡ passed → Passes r c
  is_passed = passes_from 0 c.parts refl (map (λ cell. r.bounded cell.low cell.high) c.cells) (length-map c.cells (λ cell. r.bounded cell.low cell.high)) begins

-- a pass that does not pass is unsure
passed_or_unsure : (r : Meaning) (c : Condition) → (pass r c ≡ passed) ⊎ (pass r c ≡ unsure)
passed_or_unsure r c = from 0 c.parts (map (bounds_mark r) c.cells)
  where
    from : (p : ℕ) (es : List CellTerm) (marks : List Mark) → (pass_from r c p es marks ≡ passed) ⊎ (pass_from r c p es marks ≡ unsure)
    from p [] marks = inr refl
    from p (goal ∷ []) marks = go (r.decided (marked r marks goal))
      where
        go : (d : Decision) → (by_goal d ≡ passed) ⊎ (by_goal d ≡ unsure)
        go Yes = inl refl
        go No = inr refl
        go Unknown = inr refl
    from p (e ∷ f ∷ es) marks = go (after_part r (cell_set c p) e marks) (from (p + 1) (f ∷ es))
      where
        go : (o : Option (List Mark)) → ((ms : List Mark) → (pass_from r c (p + 1) (f ∷ es) ms ≡ passed) ⊎ (pass_from r c (p + 1) (f ∷ es) ms ≡ unsure)) → (pass_or o (pass_from r c (p + 1) (f ∷ es)) ≡ passed) ⊎ (pass_or o (pass_from r c (p + 1) (f ∷ es)) ≡ unsure)
        go None rest = inl refl
        go (Some ms) rest = rest ms

pub part_by_part : (r : Meaning) → PartByPart r (pass r)
part_by_part r = record {
  passes = λ c kept. (is_passed r c kept, does_pass r c kept);
  others = λ c kept not. elim (passed_or_unsure r c) [ inl e ↦ absurd (not (is_passed r c kept e)) | inr e ↦ e ];
}
