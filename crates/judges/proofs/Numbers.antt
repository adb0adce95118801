-- The rows of a term read as numbers, from the last on.
use Rattle.std.proofs.Common.{◌≡◌, ℕ, zero, suc, ◌+◌, ◌-◌, ◌<◌, ◌≤◌, min, true, List, [], ◌∷◌, length, drop, get_or, set, ℤ, pos, refl, sym, ap, ap₂, ◌∙◌, arith}
use Rattle.std.proofs.lemmas.List.{length-drop, drop-set, drop-drop, drop_min, drop-map, drop_more}
use Rattle.terms.specs.declared.row.Row.{Row}
use Rattle.terms.specs.declared.row.Row.TheVariants.{Constant, Mention, Operator as Applied}
use Rattle.terms.specs.Numbers.{in_span}
use Rattle.terms.specs.Terms.{onto, fold, numbered, value}
use Rattle.reckoning.specs.declared.mark.Mark.{Mark}
use Rattle.reckoning.specs.Exactness.{Spans}
use Rattle.judges.specs.Numbering.{lows, after_row, newest, takes, Read}

-- what a row comes to stands before what it does not take
onto_is : (env : ℕ → ℤ) (row : Row ℕ) (stack : List Mark) → after_row env row stack ≡ newest env row stack ∷ drop (takes row) (lows stack)
onto_is env (Constant z) stack = refl
onto_is env (Mention i) stack = refl
onto_is env (Applied o) stack = refl

module _ (env : ℕ → ℤ) (row : Row ℕ) (before numbers : List Mark) (top k : ℕ) (mark : Mark) (some : 0 < top) (in_it : top ≤ length before) (same : numbers ≡ drop top before) (taken : k ≡ min (takes row) (length numbers)) where
  few : k ≡ min (takes row) (length (drop top before))
  few = taken ∙ ap (λ ns. min (takes row) (length ns)) same

  rest : lows (drop (top + k) before) ≡ drop (takes row) (lows (drop top before))
  rest =
      ap lows (sym (drop-drop k top before) ∙ ap (λ n. drop n (drop top before)) few ∙ drop_min (takes row) (drop top before))
      ∙ sym (drop-map (λ (m : Mark). m.low) (takes row) (drop top before))

  pub read_is : (in_span (newest env row numbers) ≡ true → mark.low ≡ newest env row numbers) → Read env row before top (top + k - 1) (set before (top + k - 1) mark)
  read_is told =
      let long = length-drop top before in
      let count = few in
      let place : top + k - 1 < length before = omega (arith, long) in
      let next : top + k - 1 + 1 ≡ top + k = omega arith in
      record {
        near = omega arith;
        inside = place;
        folded = λ spans.
            ap lows (drop-set before (top + k - 1) mark place) ∙ ap (λ n. mark.low ∷ lows (drop n before)) next ∙ ap₂ (λ n ns. n ∷ ns) (told (ap (λ ns. in_span (newest env row ns)) same ∙ spans) ∙ ap (newest env row) same) rest
            ∙ sym (onto_is env row (drop top before));
      }

spans_at : (env : ℕ → ℤ) (rows : List (Row ℕ)) (i : ℕ) → Spans env rows → i < length rows → in_span (value env (drop i rows)) ≡ true
spans_at env [] i h lt = absurd (omega arith)
spans_at env (r ∷ rows) zero h lt = h.0
spans_at env (r ∷ rows) (suc i) h lt = spans_at env rows i h.1 (omega arith)

-- the numbers of the rows from i on stand on the stack
pub record Folded (env : ℕ → ℤ) (rows : List (Row ℕ)) (i : ℕ) (stack : List Mark) (top : ℕ) : Type 0 where
  pub in_it : top ≤ length stack
  pub room : length stack + i ≤ top + length rows
  pub folded : lows (drop top stack) ≡ fold (numbered env) (drop i rows)

pub folded_more : (env : ℕ → ℤ) (rows : List (Row ℕ)) (i : ℕ) (none : Row ℕ) (before after : List Mark) (top next : ℕ) → Spans env rows → 0 < i → i ≤ length rows → length after ≡ length before
    → Folded env rows i before top → Read env (get_or rows (i - 1) none) before top next after → Folded env rows (i - 1) after next
folded_more env rows i none before after top next spans some le same so_far read =
    let back : i - 1 + 1 ≡ i = omega arith in
    let row = get_or rows (i - 1) none in
    let opened : drop (i - 1) rows ≡ row ∷ drop i rows = drop_more rows (i - 1) none (omega arith) ∙ ap (λ k. row ∷ drop k rows) back in
    let whole : after_row env row (drop top before) ≡ fold (numbered env) (drop (i - 1) rows) = ap (onto (numbered env) row) so_far.folded ∙ sym (ap (fold (numbered env)) opened) in
    let near = read.near in
    let inside = read.inside in
    let room = so_far.room in
    record {
      in_it = omega arith;
      room = omega arith;
      folded = read.folded (ap (λ ns. in_span (get_or ns 0 (pos 0))) whole ∙ spans_at env rows (i - 1) spans (omega arith)) ∙ whole;
    }
