-- What a statement adds, whether it is told by the tables or by the unit that they hold.
use Rattle.std.proofs.Common.{◌≡◌, ℕ, ◌*◌, ◌+◌, true, ltb, nat_le, nat_lt, List, [], ◌∷◌, length, get_or, sym, refl, ap, ◌∙◌, subst, arith}
use Rattle.std.proofs.lemmas.Bool.{and_parts, and_from, ltb-true, lt-ltb}
use Rattle.std.specs.List.{list_all}
use Rattle.jcode.specs.declared.statement.Statement.{Statement}
use Rattle.jcode.specs.declared.statement.Statement.TheVariants as stands
use Rattle.jcode.specs.declared.span.Span.{Span}
use Rattle.jcode.specs.Bytes.{slice}
use Rattle.jcode.specs.Sentences.{Sentence, Hang, Break, Require, Proclaim, New, Assign, Split, When, Branch, Join}
use Rattle.jcode.specs.Units.{retold, sentence_in}
use Rattle.checking.specs.declared.unit.CheckedUnit.{CheckedUnit}
use Rattle.sheets.specs.declared.writer.Writer.{Writer}
use Rattle.checking.specs.CheckedUnits.{said}
use Rattle.checking.specs.Held.{held}
use Rattle.checking.specs.Pieces.{is_list}
use Rattle.sheets.specs.Matches.{terms_kept}
use Rattle.sheets.specs.PathSheets.{Progress, cells_from, parts_of, cells_of, moved}
use Rattle.sheets.specs.Runs.{sentence, listed, stored}
use Rattle.sheets.specs.Writings.{Writes, CountsAll, progress}
use Rattle.sheets.proofs.Sensing.{sensible}
use Rattle.sheets.proofs.Telling.{text_listed, text_parts, text_cells, sentence_of}

-- the variables that a statement of a sensible unit lists are the unit's
below_twice : (n m : ℕ) (vs : List ℕ) → m ≡ 2 * n → list_all (λ v. ltb v n) vs ≡ true → list_all (λ v. nat_lt (2 * v + 1) m) vs ≡ true
below_twice n m [] e all = refl
below_twice n m (v ∷ vs) e all =
    let p = and_parts (ltb v n) _ all in
    let h = ltb-true v n p.0 in
    and_from (ltb (2 * v + 1) m) _ (lt-ltb _ _ (omega (arith, h, e))) (below_twice n m vs e p.1)

pub listed_below : {T : Type 0} (n m : ℕ) (st : Sentence T) → m ≡ 2 * n → terms_kept n st ≡ true → list_all (λ v. nat_lt (2 * v + 1) m) (listed st) ≡ true
listed_below n m Hang e kept = refl
listed_below n m (Break t) e kept = refl
listed_below n m (Require x t) e kept = refl
listed_below n m (Proclaim x) e kept = refl
listed_below n m (New vs x t) e kept = below_twice n m vs e (and_parts (list_all (λ v. ltb v n) vs) _ (and_parts (nat_le (length vs) 8) _ (and_parts (is_list n vs) _ kept).0).1).0
listed_below n m (Assign v x y) e kept = below_twice n m (v ∷ []) e (and_from (ltb v n) true (and_parts (nat_lt v n) _ kept).0 refl)
listed_below n m (Split l) e kept = refl
listed_below n m (When x l) e kept = refl
listed_below n m (Branch t l) e kept = refl
listed_below n m (Join l) e kept = refl

-- and so is what the statement adds
module _ (u : CheckedUnit) (i : ℕ) (s : Statement) (is : s ≡ get_or u.tables.statements.now i stands.Hang) where
  abbrev st : Sentence Span
  st = sentence_in u.tables.rows.now s

  told : sentence (said u) i ≡ retold (slice u.tables.bytes.now) st
  told = sentence_of u.tables.bytes.now u.tables.name (held u.tables) i ∙ ap (λ s. retold (slice u.tables.bytes.now) (sentence_in u.tables.rows.now s)) (sym is)

  pub told_parts : (w : Progress) → parts_of w (sentence (said u) i) ≡ parts_of w st
  told_parts w = ap (parts_of w) told ∙ text_parts (slice u.tables.bytes.now) w st

  pub told_cells : (w : Progress) → cells_of (said u) w (sentence (said u) i) ≡ cells_of (said u) w st
  told_cells w = ap (cells_of (said u) w) told ∙ text_cells (slice u.tables.bytes.now) (said u) w st

  pub told_moved : (w : Progress) → moved w (sentence (said u) i) ≡ moved w st
  told_moved w = ap (λ vs. stored vs (cells_from w.cells vs) w.current) (ap listed told ∙ text_listed (slice u.tables.bytes.now) st)

  pub told_below : (m : ℕ) → m ≡ 2 * length (said u).variables → list_all (λ v. nat_lt (2 * v + 1) m) (listed st) ≡ true
  told_below m e =
      let kept = (sensible u.tables.bytes.now u.tables.name (held u.tables) u.unbroken).terms i in
      subst (λ vs. list_all (λ v. nat_lt (2 * v + 1) m) vs ≡ true) (ap listed told ∙ text_listed (slice u.tables.bytes.now) st) (listed_below (length (said u).variables) m (sentence (said u) i) e kept)

  module _ (w : Writer) where
    abbrev at : Progress
    at = progress w

    pub told_counts : CountsAll w (parts_of at (sentence (said u) i)) (cells_of (said u) at (sentence (said u) i)) → CountsAll w (parts_of at st) (cells_of (said u) at st)
    told_counts n = subst (λ cs. CountsAll w (parts_of at st) cs) (told_cells at) (subst (λ es. CountsAll w es (cells_of (said u) at (sentence (said u) i))) (told_parts at) n)

    pub told_writes : (end : Writer) → Writes w (parts_of at st) (cells_of (said u) at st) (moved at st) end → Writes w (parts_of at (sentence (said u) i)) (cells_of (said u) at (sentence (said u) i)) (moved at (sentence (said u) i)) end
    told_writes end p =
        subst (λ now. Writes w (parts_of at (sentence (said u) i)) (cells_of (said u) at (sentence (said u) i)) now end) (sym (told_moved at))
        (subst (λ cs. Writes w (parts_of at (sentence (said u) i)) cs (moved at st) end) (sym (told_cells at)) (subst (λ es. Writes w es (cells_of (said u) at st) (moved at st) end) (sym (told_parts at)) p))
