-- The sheet of a path is laid out statement by statement.
use Rattle.std.proofs.Common.{◌≡◌, ℕ, zero, suc, ◌+◌, ◌*◌, ◌<◌, List, [], ◌∷◌, ◌++◌, map, length, get_or, None, refl, sym, ap, ◌∙◌, subst, arith, zero-add, length-append}
use Rattle.std.proofs.lemmas.List.{length-map, get_or-map, get_or_append_left, get_or-append-add}
use Rattle.jcode.specs.declared.variable.Domain.{Domain}
use Rattle.jcode.specs.declared.variable.Domain.TheVariants.{Integer, Boolean}
use Rattle.jcode.specs.Sentences.{Sentence, Require, Proclaim, New, Assign, When}
use Rattle.jcode.specs.Units.{JUnit}
use Rattle.checking.specs.Types.{domains}
use Rattle.sheets.specs.declared.cell.Cell.{Cell}
use Rattle.sheets.specs.Layouts.{part_count, parts_given, cells_given, Gives, LaidOut}
use Rattle.sheets.specs.PathSheets.{Progress, cell_of, moved, over, parts_of, cells_of, onward, parts_along, cells_along, started, sheet_of}
use Rattle.sheets.specs.Runs.{sentence, with_shadows, types_at, read, listed}
use Rattle.sheets.specs.Sheets.{Condition, part}
use Rattle.sheets.proofs.Equating.{length-cells_of}
use Rattle.sheets.proofs.Matching.{length-start}
use Rattle.sheets.proofs.Typing.{length-domains}

-- ---- how much there is
length-parts_of : {T : Type 0} (w : Progress) (st : Sentence T) → length (parts_of w st) ≡ part_count st
length-parts_of w (Assign v e f) = refl
length-parts_of w st = refl

length-parts_along : (u : JUnit) (w : Progress) (p : List ℕ) → length (parts_along u w p) ≡ parts_given u p
length-parts_along u w [] = refl
length-parts_along u w (i ∷ p) =
    omega (arith, length-append (parts_of w (sentence u i)) (parts_along u (onward w (sentence u i)) p), length-parts_of w (sentence u i), length-parts_along u (onward w (sentence u i)) p)

length-cells_along : (u : JUnit) (w : Progress) (p : List ℕ) → length (cells_along u w p) ≡ cells_given u p
length-cells_along u w [] = refl
length-cells_along u w (i ∷ p) =
    omega (arith, length-append (cells_of u w (sentence u i)) (cells_along u (onward w (sentence u i)) p), length-cells_of u w (sentence u i), length-cells_along u (onward w (sentence u i)) p)

-- ---- how far the writing has come after some places, and what comes next
abbrev after : JUnit → Progress → List ℕ → Progress
after u w [] = w
after u w (i ∷ q) = after u (onward w (sentence u i)) q

cells_after : (u : JUnit) (w : Progress) (q : List ℕ) → (after u w q).cells ≡ w.cells + cells_given u q
cells_after u w [] = omega arith
cells_after u w (i ∷ q) = omega (arith, cells_after u (onward w (sentence u i)) q)

parts_after : (u : JUnit) (w : Progress) (q : List ℕ) → (after u w q).parts ≡ w.parts + parts_given u q
parts_after u w [] = omega arith
parts_after u w (i ∷ q) = omega (arith, parts_after u (onward w (sentence u i)) q, length-parts_of w (sentence u i))

module _ (u : JUnit) (i : ℕ) (later : List ℕ) where
  next_part : (w : Progress) (q : List ℕ) (k : ℕ) → k < part_count (sentence u i) → get_or (parts_along u w (q ++ i ∷ later)) (parts_given u q + k) [] ≡ get_or (parts_of (after u w q) (sentence u i)) k []
  next_part w [] k h = rw zero-add (get_or_append_left (parts_of w (sentence u i)) _ [] k (omega (arith, length-parts_of w (sentence u i))))
  next_part w (j ∷ q) k h =
      let here = parts_of w (sentence u j) in
      let more = parts_along u (onward w (sentence u j)) (q ++ i ∷ later) in
      let n : part_count (sentence u j) + parts_given u q + k ≡ length here + (parts_given u q + k) = omega (arith, length-parts_of w (sentence u j)) in
      ap (λ n. get_or (here ++ more) n []) n ∙ get_or-append-add here more (parts_given u q + k) [] ∙ next_part (onward w (sentence u j)) q k h

  next_cell : (w : Progress) (q : List ℕ) (k : ℕ) (d : Cell) → k < 2 * length (listed (sentence u i)) → get_or (cells_along u w (q ++ i ∷ later)) (cells_given u q + k) d ≡ get_or (cells_of u (after u w q) (sentence u i)) k d
  next_cell w [] k d h = rw zero-add (get_or_append_left (cells_of u w (sentence u i)) _ d k (omega (arith, length-cells_of u w (sentence u i))))
  next_cell w (j ∷ q) k d h =
      let here = cells_of u w (sentence u j) in
      let more = cells_along u (onward w (sentence u j)) (q ++ i ∷ later) in
      let n : 2 * length (listed (sentence u j)) + cells_given u q + k ≡ length here + (cells_given u q + k) = omega (arith, length-cells_of u w (sentence u j)) in
      ap (λ n. get_or (here ++ more) n d) n ∙ get_or-append-add here more (cells_given u q + k) d ∙ next_cell (onward w (sentence u j)) q k d h

-- ---- two cells for each variable
two_cells : (ds : List Domain) (v : ℕ) (d : Cell) → v < length ds
    → (get_or (map (cell_of None) (with_shadows ds)) (2 * v) d ≡ cell_of None (get_or ds v Integer)) × (get_or (map (cell_of None) (with_shadows ds)) (2 * v + 1) d ≡ cell_of None Boolean)
two_cells [] v d h = absurd (omega arith)
two_cells (e ∷ ds) zero d h = (refl, refl)
two_cells (e ∷ ds) (suc v) d h =
    let even : 2 * suc v ≡ suc (suc (2 * v)) = omega arith in
    let odd : 2 * suc v + 1 ≡ suc (suc (2 * v + 1)) = omega arith in
    let cells = map (cell_of None) (with_shadows (e ∷ ds)) in
    let rest = two_cells ds v d (omega arith) in
    (ap (λ k. get_or cells k d) even ∙ rest.0, ap (λ k. get_or cells k d) odd ∙ rest.1)

two_listed : (u : JUnit) (vs : List ℕ) (j : ℕ) (d : Cell) → j < length vs
    → (get_or (map (cell_of None) (types_at u vs)) (2 * j) d ≡ cell_of None (get_or (domains u) (get_or vs j 0) Integer)) × (get_or (map (cell_of None) (types_at u vs)) (2 * j + 1) d ≡ cell_of None Boolean)
two_listed u vs j d h =
    let two = two_cells (map (λ v. get_or (domains u) v Integer) vs) j d (omega (arith, length-map vs (λ v. get_or (domains u) v Integer))) in
    (two.0 ∙ ap (cell_of None) (get_or-map (λ v. get_or (domains u) v Integer) vs j 0 Integer h), two.1)

-- ---- what a statement gives stands there
module _ (u : JUnit) (c : Condition) (w : Progress) where
  gives_here : {T : Type 0} (st : Sentence T) → ((k n : ℕ) → n ≡ w.parts + k → k < part_count st → part c n ≡ get_or (parts_of w st) k [])
      → ((k n : ℕ) (d : Cell) → n ≡ w.cells + k → k < 2 * length (listed st) → get_or c.cells n d ≡ get_or (cells_of u w st) k d) → Gives u c w.parts w.cells st
  gives_here (Require e x) parts cells = (read 0 w.current w.current, parts 0 w.parts (omega arith) (omega arith))
  gives_here (Proclaim e) parts cells = (read 0 w.current w.current, parts 0 w.parts (omega arith) (omega arith))
  gives_here (When e l) parts cells = (read 0 w.current w.current, parts 0 w.parts (omega arith) (omega arith))
  gives_here (New vs e x) parts cells = (
    (read 0 w.current (moved w (New vs e x)), parts 0 w.parts (omega arith) (omega arith)),
    λ j h d. let two = two_listed u vs j d h in (cells (2 * j) (w.cells + 2 * j) d refl (omega arith) ∙ two.0, cells (2 * j + 1) (w.cells + 2 * j + 1) d (omega arith) (omega arith) ∙ two.1),
  )
  gives_here (Assign v e f) parts cells = (
    (over w.current w.current f, (read 0 w.current w.current, refl), parts 0 w.parts (omega arith) (omega arith)),
    (over w.current w.current e, (read 0 w.current w.current, refl), parts 1 (w.parts + 1) refl (omega arith)),
    λ d. (cells 0 w.cells d (omega arith) (omega arith), cells 1 (w.cells + 1) d refl (omega arith)),
  )
  gives_here st parts cells = tt

abbrev at_first : JUnit → List Cell
at_first u = map (cell_of None) (with_shadows (domains u))

pub laid_out : (u : JUnit) (p : List ℕ) → LaidOut u p
laid_out u p = record {
  parts = length-parts_along u (started u) p;
  cells = length-append (at_first u) (cells_along u (started u) p) ∙ λ k. length-start u k + length-cells_along u (started u) p k;
  at_start = λ v h d.
      let inside : v < length (domains u) = omega (arith, length-domains u) in
      let two = two_cells (domains u) v d inside in (
        get_or_append_left (at_first u) _ d (2 * v) (omega (arith, length-start u)) ∙ two.0,
        get_or_append_left (at_first u) _ d (2 * v + 1) (omega (arith, length-start u)) ∙ two.1,
      );
  each = λ q i later e. subst (λ p. Gives u (sheet_of u p) (parts_given u q) (2 * length u.variables + cells_given u q) (sentence u i)) (sym e) (at_place q i later);
}
  where
    at_place : (q : List ℕ) (i : ℕ) (later : List ℕ) → Gives u (sheet_of u (q ++ i ∷ later)) (parts_given u q) (2 * length u.variables + cells_given u q) (sentence u i)
    at_place q i later =
        let w = after u (started u) q in
        let more = cells_along u (started u) (q ++ i ∷ later) in
        let a : w.parts ≡ parts_given u q = omega (arith, parts_after u (started u) q) in
        let b : w.cells ≡ 2 * length u.variables + cells_given u q = cells_after u (started u) q in
        let G = λ (m n : ℕ). Gives u (sheet_of u (q ++ i ∷ later)) m n (sentence u i) in
        subst (λ m. G m (2 * length u.variables + cells_given u q)) a
        (subst (G w.parts) b
        (gives_here u (sheet_of u (q ++ i ∷ later)) w (sentence u i)
        (λ k n s h.
        let place : n ≡ parts_given u q + k = omega arith in
        ap (λ n. get_or (parts_along u (started u) (q ++ i ∷ later)) n []) place ∙ next_part u i later (started u) q k h)
        (λ k n d s h.
        let place : n ≡ length (at_first u) + (cells_given u q + k) = omega (arith, length-start u) in
        ap (λ n. get_or (at_first u ++ more) n d) place ∙ get_or-append-add (at_first u) more (cells_given u q + k) d ∙ next_cell u i later (started u) q k d h)))
