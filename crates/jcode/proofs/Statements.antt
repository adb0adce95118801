-- Statements, one more at a time.
use Rattle.std.proofs.Common.{◌≡◌, ℕ, suc, ◌+◌, ◌-◌, ◌<◌, ◌≤◌, min, Bool, true, false, leb, List, [], ◌∷◌, ◌++◌, length, set, Ok, Err, Result, sym, refl, ap, ◌∙◌, arith, length-append}
use Rattle.std.proofs.lemmas.List.{append_assoc, append-nil, length_push}
use Rattle.jcode.specs.declared.cursor.Cursor.{Cursor}
use Rattle.jcode.specs.declared.refusal.ReadFault.{ReadFault}
use Rattle.jcode.specs.declared.span.Span.{Span}
use Rattle.jcode.specs.declared.statement.Statement.{Statement}
use Rattle.jcode.specs.declared.table.Table.{Table}
use Rattle.jcode.specs.Pieces.{Answer, got, refused, Reader, and_then, ◌giving◌, Reads}
use Rattle.jcode.specs.Scopes.{Scope}
use Rattle.jcode.specs.Tables.{put, full_by}
use Rattle.jcode.specs.ReadTerms.{held, held_with, leaves}
use Rattle.jcode.specs.Sentences.{Sentence, rows_of, laid, rows_all}
use Rattle.jcode.specs.ReadStatements.{Lays}
use Rattle.jcode.specs.ReadUnits.{goes_on, read_sentence, laid_in, laid_all, read_finish, read_statements}
use Rattle.jcode.specs.Rows.{UnitRow}
use Rattle.jcode.proofs.Chains.{off, told_in, leaves_of, made_of, refused_of, assoc}
use Rattle.jcode.proofs.Repeats.{step_refused, step_read, all_done}
use Rattle.jcode.proofs.Stores.{put_append, length_put}

-- what was read and laid out so far
pub record SoFar (sc : Scope) (start : Cursor) (statements : Table Statement) (rows : Table UnitRow) (place : Cursor) (laid_out : Table Statement) (written : Table UnitRow) : Type 0 where
  pub seen : List (Sentence Span)
  pub same : place.bytes.now ≡ start.bytes.now
  pub statements_lent : laid_out.records.ghost_name ≡ statements.records.ghost_name
  pub rows_lent : written.records.ghost_name ≡ rows.records.ghost_name
  pub count : laid_out.count ≡ length seen
  pub few : laid_out.count ≤ min (length statements.records.now) 200
  pub statement_table : laid_out.records.now ≡ put statements.records.now 0 (laid_all 0 seen)
  pub row_table : held written ≡ (length (rows_all seen), put rows.records.now 0 (rows_all seen))
  pub goal :
      read_statements sc (length rows.records.now) (length statements.records.now) (min (length statements.records.now) 200 - laid_out.count) seen start.bytes.now place.at
      ≡ read_statements sc (length rows.records.now) (length statements.records.now) (min (length statements.records.now) 200) [] start.bytes.now start.at

-- nothing yet
pub nothing : (sc : Scope) (start : Cursor) (statements : Table Statement) (rows : Table UnitRow) → (statements.count ≡ 0) × (rows.count ≡ 0) → SoFar sc start statements rows start statements rows
nothing sc start statements rows none = record {
  seen = [];
  same = refl;
  statements_lent = refl;
  rows_lent = refl;
  count = none.0;
  few = omega (arith, none.0);
  statement_table = refl;
  row_table = λ k. (none.1 k, rows.records.now);
  goal =
      let room : min (length statements.records.now) 200 - statements.count ≡ min (length statements.records.now) 200 = omega (arith, none.0) in
      ap (λ n. read_statements sc (length rows.records.now) (length statements.records.now) n [] start.bytes.now start.at) room;
}

pub rows_push : {T : Type 0} (ss : List (Sentence T)) (s : Sentence T) → rows_all (ss ++ s ∷ []) ≡ rows_all ss ++ rows_of s
rows_push [] s = append-nil (rows_of s)
rows_push (t ∷ ss) s = ap (λ rs. rows_of t ++ rs) (rows_push ss s) ∙ sym (append_assoc (rows_of t) (rows_all ss) (rows_of s))

laid_push : (used : ℕ) (ss : List (Sentence Span)) (s : Sentence Span) → laid_all used (ss ++ s ∷ []) ≡ laid_all used ss ++ laid (used + length (rows_all ss)) s ∷ []
laid_push used [] s = let e : used ≡ used + 0 = omega arith in ap (λ n. laid n s ∷ []) e
laid_push used (t ∷ ss) s =
    let e : (used + length (rows_of t)) + length (rows_all ss) ≡ used + length (rows_of t ++ rows_all ss) = simp length-append (omega arith) in
    ap (λ r. laid used t ∷ r) (laid_push (used + length (rows_of t)) ss s ∙ ap (λ n. laid_all (used + length (rows_of t)) ss ++ laid n s ∷ []) e)

pub length_laid : (used : ℕ) (ss : List (Sentence Span)) → length (laid_all used ss) ≡ length ss
length_laid used [] = refl
length_laid used (s ∷ ss) = ap suc (length_laid (used + length (rows_of s)) ss)

module _ (sc : Scope) (start : Cursor) (statements : Table Statement) (rows : Table UnitRow) (place : Cursor) (laid_out : Table Statement) (written : Table UnitRow) (so_far : SoFar sc start statements rows place laid_out written) where
  abbrev bytes : List ℕ
  bytes = start.bytes.now

  abbrev table : ℕ
  table = length statements.records.now

  abbrev room : ℕ
  room = length rows.records.now

  abbrev limit : ℕ
  limit = min table 200

  abbrev step : Bool → List (Sentence Span) → Reader (Sentence Span)
  step full seen = read_sentence sc room (full_by table 200) full (length (rows_all seen))

  abbrev done : List (Sentence Span) → Reader (List (Sentence Span))
  done seen = read_finish giving (λ _. seen)

  abbrev whole : Answer (List (Sentence Span))
  whole = read_statements sc room table limit [] bytes start.at

  abbrev told : List (Sentence Span) → ℕ → Answer ((ℕ × List Statement) × (ℕ × List UnitRow))
  told ss j = got (laid_in statements.records.now rows.records.now ss) j

  used : written.count ≡ length (rows_all so_far.seen)
  used = ap (λ p. p.0) so_far.row_table

  pub tables : length laid_out.records.now ≡ table
  tables = ap length so_far.statement_table ∙ length_put statements.records.now 0 (laid_all 0 so_far.seen)

  rooms : length written.records.now ≡ room
  rooms = ap (λ p. length p.1) so_far.row_table ∙ length_put rows.records.now 0 (rows_all so_far.seen)

  module _ (more : goes_on bytes place.at ≡ true) (d : Cursor) (after : Table UnitRow) where
    abbrev Laid : Result Statement ReadFault → Type 0
    Laid x = Lays (read_sentence sc (length written.records.now) (full_by (length laid_out.records.now) 200) (leb (min (length laid_out.records.now) 200) laid_out.count) written.count) place written x d after

    here : read_sentence sc (length written.records.now) (full_by (length laid_out.records.now) 200) (leb (min (length laid_out.records.now) 200) laid_out.count) written.count place.bytes.now place.at ≡ step (leb limit laid_out.count) so_far.seen bytes place.at
    here = λ k. read_sentence sc (rooms k) (full_by (tables k) 200) (leb (min (tables k) 200) laid_out.count) (used k) (so_far.same k) place.at

    pub statement_refused : {y : ReadFault} → Laid (Err y) → refused y ≡ and_then whole told
    statement_refused h = off told (step_refused goes_on step done limit laid_out.count so_far.seen bytes place.at whole so_far.goal more (refused_of (λ s. (laid written.count s, held_with written (rows_of s))) _ h.value ∙ here))

    -- one statement more
    pub one_more : (st : Statement) (h : Laid (Ok st)) (pushed : Table Statement) → pushed.records.ghost_name ≡ laid_out.records.ghost_name → pushed.records.now ≡ set laid_out.records.now laid_out.count st → pushed.count ≡ laid_out.count + 1 → laid_out.count < limit → SoFar sc start statements rows d pushed after
    one_more st h pushed lent records one fits = record {
      seen = seen ++ s ∷ [];
      same = h.same ∙ so_far.same;
      statements_lent = lent ∙ so_far.statements_lent;
      rows_lent = h.lent ∙ so_far.rows_lent;
      count = one ∙ ap (λ n. n + 1) so_far.count ∙ sym (length_push seen s);
      few = omega (arith, one);
      statement_table =
          records
          ∙ (λ k. set (so_far.statement_table k) (n k) ((read.2 ∙ ap (λ u. laid u s) used) k))
          ∙ sym (put_append statements.records.now 0 (laid_all 0 seen) (laid (length (rows_all seen)) s ∷ []))
          ∙ ap (put statements.records.now 0) (ap (λ u. laid_all 0 seen ++ laid u s ∷ []) z ∙ sym (laid_push 0 seen s));
      row_table =
          read.3
          ∙ ap (λ p. (p.0 + length (rows_of s), put p.1 p.0 (rows_of s))) so_far.row_table
          ∙ (λ k. (sym (length-append (rows_all seen) (rows_of s)) k, put (put rows.records.now 0 (rows_all seen)) (z k) (rows_of s)))
          ∙ (λ k. (length (rows_all seen ++ rows_of s), sym (put_append rows.records.now 0 (rows_all seen) (rows_of s)) k))
          ∙ ap (λ rs. (length rs, put rows.records.now 0 rs)) (sym (rows_push seen s));
      goal =
          ap (λ n. read_statements sc room table (limit - n) (seen ++ s ∷ []) bytes d.at) one
          ∙ step_read goes_on step done limit laid_out.count seen bytes place.at whole so_far.goal more fits s d.at read.1;
    }
      where
        seen : List (Sentence Span)
        seen = so_far.seen

        read : (s : Sentence Span) × (got s d.at ≡ step (leb limit laid_out.count) so_far.seen bytes place.at) × (st ≡ laid written.count s) × (held after ≡ held_with written (rows_of s))
        read =
            let m = made_of (λ s. (laid written.count s, held_with written (rows_of s))) _ h.value in
            (m.0, m.1 ∙ here, ap (λ p. p.0) m.2, ap (λ p. p.1) m.2)

        s : Sentence Span
        s = read.0

        z : length (rows_all seen) ≡ 0 + length (rows_all seen)
        z = omega arith

        n : laid_out.count ≡ 0 + length (laid_all 0 seen)
        n = omega (arith, so_far.count, length_laid 0 seen)

  -- no statement more
  module _ (none : goes_on bytes place.at ≡ false) where
    pub finished : (d : Cursor) (x : Result (Unit {0}) ReadFault) → Reads read_finish place x d → leaves x (held laid_out, held written) d.at ≡ and_then whole told
    finished d x h =
        leaves_of x (held laid_out, held written) d.at
        ∙ (λ k. and_then (told_in so_far.same h k) (λ _ j. got ((so_far.count k, so_far.statement_table k), so_far.row_table k) j))
        ∙ assoc (read_finish bytes place.at) (λ _ j. got so_far.seen j) told
        ∙ ap (λ a. and_then a told) (all_done goes_on step done limit laid_out.count so_far.seen bytes place.at whole so_far.goal none)
