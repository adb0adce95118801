-- How long the sheet of a path can be.
use Rattle.std.proofs.Common.{◌≡◌, ℕ, ◌+◌, ◌*◌, ◌≤◌, true, List, [], ◌∷◌, ◌++◌, length, drop, get_or, sym, refl, ap, ◌∙◌, subst, length-append, arith, nat_le}
use Rattle.std.proofs.lemmas.Bool.{and_parts, leb-true}
use Rattle.std.proofs.lemmas.List.{length-map, length-take, length-drop}
use Rattle.terms.specs.declared.operator.Operator.TheVariants.{Equal}
use Rattle.terms.specs.declared.row.Row.TheVariants.{Mention, Operator as Applied}
use Rattle.terms.specs.Terms.{renamed}
use Rattle.jcode.specs.declared.statement.Statement.{Statement}
use Rattle.jcode.specs.declared.statement.Statement.TheVariants as stands
use Rattle.jcode.specs.declared.statement.Term.{Term}
use Rattle.jcode.specs.ReadTerms.{UnitRow}
use Rattle.jcode.specs.Sentences.{Sentence, Hang, Break, Require, Proclaim, New, Assign, Split, When, Branch, Join}
use Rattle.jcode.specs.Units.{JUnit, sentence_in, term_in}
use Rattle.checking.specs.declared.unit.CheckedUnit.{CheckedUnit}
use Rattle.checking.specs.CheckedUnits.{said}
use Rattle.checking.specs.Held.{held}
use Rattle.checking.specs.Pieces.{is_list}
use Rattle.sheets.specs.Matches.{terms_kept}
use Rattle.sheets.specs.PathSheets.{Progress, cells_of, parts_of, moved, onward, over, rows_of, parts_along, cells_along}
use Rattle.sheets.specs.Runs.{listed, read, sentence}
use Rattle.sheets.proofs.Equating.{length-cells_of}
use Rattle.sheets.proofs.Sensing.{reads, sensible}
use Rattle.sheets.proofs.Saying.{told_parts}
use Rattle.sheets.proofs.Joining.{rows_append}

module _ (rows : List UnitRow) (few : length rows ≤ 2000) where
  short : (b a : List ℕ) (e : Term) → length (over b a (term_in rows e)) ≤ 2000
  short b a e =
      let m = length-map (term_in rows e) (renamed (read 0 b a)) in
      let t = length-take e.rows (drop e.first rows) in
      let d = length-drop e.first rows in
      omega (arith, few, m, t, d)

  one : (b a : List ℕ) (e : Term) → length (rows_of (over b a (term_in rows e) ∷ [])) ≤ 4004
  one b a e = let s = short b a e in let n = length-append (over b a (term_in rows e)) [] in omega (arith, s, n)

  rows_bound : (w : Progress) (s : Statement) → length (rows_of (parts_of w (sentence_in rows s))) ≤ 4004
  rows_bound w stands.Hang = omega arith
  rows_bound w (stands.Break t) = omega arith
  rows_bound w (stands.Require e t) = one w.current w.current e
  rows_bound w (stands.Proclaim e) = one w.current w.current e
  rows_bound w (stands.New vs e t) = one w.current (moved w (sentence_in rows (stands.New vs e t))) e
  rows_bound w (stands.Assign v e f) =
      let x = short w.current w.current f in
      let y = short w.current w.current e in
      let n = length-append (over w.current w.current (term_in rows f)) (Applied Equal ∷ Mention (w.cells + 1) ∷ over w.current w.current (term_in rows e) ++ []) in
      let m = length-append (over w.current w.current (term_in rows e)) [] in
      omega (arith, x, y, n, m)
  rows_bound w (stands.Split l) = omega arith
  rows_bound w (stands.When e l) = one w.current w.current e
  rows_bound w (stands.Branch t l) = omega arith
  rows_bound w (stands.Join l) = omega arith

parts_bound : {T : Type 0} (w : Progress) (st : Sentence T) → length (parts_of w st) ≤ 2
parts_bound w Hang = omega arith
parts_bound w (Break t) = omega arith
parts_bound w (Require e t) = omega arith
parts_bound w (Proclaim e) = omega arith
parts_bound w (New vs e t) = omega arith
parts_bound w (Assign v e f) = omega arith
parts_bound w (Split l) = omega arith
parts_bound w (When e l) = omega arith
parts_bound w (Branch t l) = omega arith
parts_bound w (Join l) = omega arith

listed_bound : {T : Type 0} (n : ℕ) (st : Sentence T) → terms_kept n st ≡ true → length (listed st) ≤ 8
listed_bound n Hang kept = omega arith
listed_bound n (Break t) kept = omega arith
listed_bound n (Require e t) kept = omega arith
listed_bound n (Proclaim e) kept = omega arith
listed_bound n (New vs e t) kept = leb-true (length vs) 8 (and_parts (nat_le (length vs) 8) _ (and_parts (is_list n vs) _ kept).0).0
listed_bound n (Assign v e f) kept = omega arith
listed_bound n (Split l) kept = omega arith
listed_bound n (When e l) kept = omega arith
listed_bound n (Branch t l) kept = omega arith
listed_bound n (Join l) kept = omega arith

-- along so many places
pub record Bounded (u : JUnit) (w : Progress) (p : List ℕ) : Type 0 where
  pub rows : length (rows_of (parts_along u w p)) ≤ 4004 * length p
  pub parts : length (parts_along u w p) ≤ 2 * length p
  pub cells : length (cells_along u w p) ≤ 16 * length p

module _ (u : CheckedUnit) where
  few_rows : length u.tables.rows.now ≤ 2000
  few_rows = (reads u.tables.bytes.now u.tables.name (held u.tables) u.unbroken).few_rows

  here_rows : (w : Progress) (i : ℕ) → length (rows_of (parts_of w (sentence (said u) i))) ≤ 4004
  here_rows w i = subst (λ es. length (rows_of es) ≤ 4004) (sym (told_parts u i _ refl w)) (rows_bound u.tables.rows.now few_rows w (get_or u.tables.statements.now i stands.Hang))

  here_cells : (w : Progress) (i : ℕ) → length (cells_of (said u) w (sentence (said u) i)) ≤ 16
  here_cells w i =
      let few = listed_bound (length (said u).variables) (sentence (said u) i) ((sensible u.tables.bytes.now u.tables.name (held u.tables) u.unbroken).terms i) in
      let n = length-cells_of (said u) w (sentence (said u) i) in
      omega (arith, few, n)

  pub bounded : (w : Progress) (p : List ℕ) → Bounded (said u) w p
  bounded w [] = record { rows = omega arith; parts = omega arith; cells = omega arith }
  bounded w (i ∷ p) =
      let st = sentence (said u) i in
      let rest = bounded (onward w st) p in
      let r = here_rows w i in
      let q = parts_bound w st in
      let c = here_cells w i in
      let rs = ap length (rows_append (parts_of w st) (parts_along (said u) (onward w st) p)) ∙ length-append (rows_of (parts_of w st)) (rows_of (parts_along (said u) (onward w st) p)) in
      let qs = length-append (parts_of w st) (parts_along (said u) (onward w st) p) in
      let cs = length-append (cells_of (said u) w st) (cells_along (said u) (onward w st) p) in
      record { rows = omega (arith, r, rs, rest.rows); parts = omega (arith, q, qs, rest.parts); cells = omega (arith, c, cs, rest.cells) }
