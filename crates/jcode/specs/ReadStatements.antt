-- Statements: how they are read.
use Rattle.std.specs.Prelude.{◌≡◌, ℕ, ◌+◌, Bool, cond, not, List, [], ◌∷◌, length, Result, codes, ◌==◌}
use Rattle.jcode.specs.declared.cursor.Cursor.{Cursor}
use Rattle.jcode.specs.declared.refusal.ReadFault.{ReadFault}
use Rattle.jcode.specs.declared.refusal.Refusal.TheVariants.{Limit, Name}
use Rattle.jcode.specs.declared.span.Span.{Span}
use Rattle.jcode.specs.declared.statement.Listing.{Listing}
use Rattle.jcode.specs.declared.statement.Statement.{Statement}
use Rattle.jcode.specs.declared.statement.Term.{Term}
use Rattle.jcode.specs.declared.table.Table.{Table}
use Rattle.jcode.specs.declared.statement_reader.Verb.{Verb}
use Rattle.jcode.specs.declared.statement_reader.Verb.TheVariants as verb
use Rattle.jcode.specs.Bytes.{stands}
use Rattle.jcode.specs.Pieces.{Answer, got, Reader, refuse, and_then, ◌▷◌, ◌◁◌, ◌⊗◌, ◌giving◌, repeated, past_gap, read_mark, read_gap, read_end, read_may_gap, read_name, read_label, read_text}
use Rattle.jcode.specs.Rows.{UnitRow}
use Rattle.jcode.specs.Scopes.{Scope, member, listing}
use Rattle.jcode.specs.ReadTerms.{held, held_with, told_with, read_variable, read_close, read_term}
use Rattle.jcode.specs.Sentences.{Sentence, Hang, Break, Require, Proclaim, New, Assign, Split, When, Branch, Join, rows_of, listing_of, term_at, laid}

abbrev pub nesting : ℕ
nesting = 32

-- an expression, after so many rows
abbrev pub read_expression : Scope → ℕ → ℕ → Reader (List UnitRow)
read_expression sc room used = read_term sc room nesting used

abbrev pub read_bracketed : {A : Type 0} → Reader A → Reader A
read_bracketed r = read_mark (codes "(") ▷ (read_may_gap ▷ (r ◁ read_close))

-- a name in brackets
unfoldable pub read_single : Scope → Reader ℕ
read_single sc = read_bracketed (read_variable sc)

-- the name of this variable once more
unfoldable pub read_again : Scope → ℕ → Reader (Unit {0})
read_again sc v bytes at = and_then (read_variable sc bytes at) (λ u j. cond (u == v) (got tt j) (refuse Name at))

unfoldable pub read_repeated : Scope → ℕ → Reader (Unit {0})
read_repeated sc v = read_may_gap ▷ (read_mark (codes "(") ▷ (read_may_gap ▷ (read_again sc v ▷ read_close)))

-- ASSIGN's variable, listed and repeated
abbrev pub read_target : Scope → Reader ℕ
read_target sc = (read_single sc ⊗ read_repeated sc) giving (λ p. p.0)

-- whether no closing bracket stands here, perhaps after a gap
abbrev pub goes_on : List ℕ → ℕ → Bool
goes_on bytes at = not (stands 41 bytes (past_gap bytes at))

-- a variable for a list that may be full, and holds those seen
unfoldable pub read_unseen : Scope → Bool → List ℕ → Reader ℕ
read_unseen sc full seen bytes at =
    cond full
    (and_then (read_name bytes at) (λ s j. refuse Limit at))
    (and_then (read_variable sc bytes at) (λ v j. cond (member v seen) (refuse Name at) (got v j)))

-- what follows the names seen, up to the closing bracket, where there may be so many more
abbrev pub read_more : Scope → ℕ → List ℕ → Reader (List ℕ)
read_more sc = repeated goes_on (λ full seen. read_gap ▷ read_unseen sc full seen) (λ seen. read_close giving (λ _. seen))

unfoldable pub read_names : Scope → Reader (List ℕ)
read_names sc bytes at =
    cond (stands 41 bytes at)
    (got [] (at + 1))
    (and_then (read_variable sc bytes at) (λ v j. read_more sc 7 (v ∷ []) bytes j))

-- names in brackets, at most 8, none twice
unfoldable pub read_listing : Scope → Reader (List ℕ)
read_listing sc = read_mark (codes "(") ▷ (read_may_gap ▷ read_names sc)

-- the listed names as their record: after the first, from the first on, and from the opening bracket on
abbrev pub read_more_listed : Scope → ℕ → Reader Listing
read_more_listed sc first = read_more sc 7 (first ∷ []) giving listing_of

abbrev pub read_names_listed : Scope → Reader Listing
read_names_listed sc = read_names sc giving listing_of

abbrev pub read_listed : Scope → Reader Listing
read_listed sc = read_listing sc giving listing_of

unfoldable pub read_text_end : Reader Span
read_text_end = read_may_gap ▷ (read_text ◁ read_end)

unfoldable pub read_label_end : Reader ℕ
read_label_end = read_may_gap ▷ (read_label ◁ read_end)

unfoldable pub read_gap_label : Reader ℕ
read_gap_label = read_gap ▷ (read_label ◁ read_end)

-- what follows a statement's word, after so many rows, where the row table has this room
abbrev pub by_verb : Scope → ℕ → ℕ → Verb → Reader (Sentence Span)
by_verb sc room used verb.Break = read_text_end giving Break
by_verb sc room used verb.Require =
    (read_gap ▷ (read_expression sc room used ⊗ λ _. read_text_end)) giving (λ p. Require p.0 p.1)
by_verb sc room used verb.Proclaim = (read_gap ▷ (read_expression sc room used ◁ read_end)) giving Proclaim
by_verb sc room used verb.New =
    (read_gap ▷ (read_listing sc ⊗ λ vs. read_may_gap ▷ (read_expression (listing sc vs) room used ⊗ λ _. read_text_end)))
    giving (λ p. New p.0 p.1.0 p.1.1)
by_verb sc room used verb.Assign =
    (read_gap ▷ (read_target sc ⊗ λ _. read_may_gap ▷ (read_expression sc room used ⊗ λ e. read_may_gap ▷ (read_expression sc room (used + length e) ◁ read_end))))
    giving (λ p. Assign p.0 p.1.0 p.1.1)
by_verb sc room used verb.Split = read_gap_label giving Split
by_verb sc room used verb.When = (read_gap ▷ (read_expression sc room used ⊗ λ _. read_label_end)) giving (λ p. When p.0 p.1)
by_verb sc room used verb.Branch = (read_gap ▷ (read_text ⊗ λ _. read_label_end)) giving (λ p. Branch p.0 p.1)
by_verb sc room used verb.Join = read_gap_label giving Join
by_verb sc room used verb.Hang = read_end giving (λ _. Hang)

-- a call on a cursor reads an expression into the row table
pub record ReadsTerm (reader : Reader (List UnitRow)) (before : Cursor) (rows : Table UnitRow) (result : Result Term ReadFault) (after : Cursor) (left : Table UnitRow) : Type 0 where
  pub value : told_with result (held left) after.at ≡ and_then (reader before.bytes.now before.at) (λ e j. got (term_at rows.count e, held_with rows e) j)
  pub same : after.bytes.now ≡ before.bytes.now
  pub lent : left.records.ghost_name ≡ rows.records.ghost_name

-- a statement that is read goes into the tables: its record, and its rows after those that are used
abbrev pub laid_out : Table UnitRow → Answer (Sentence Span) → Answer (Statement × (ℕ × List UnitRow))
laid_out rows a = and_then a (λ s j. got (laid rows.count s, held_with rows (rows_of s)) j)

-- a call on a cursor reads a statement and lays out its rows
pub record Lays (reader : Reader (Sentence Span)) (before : Cursor) (rows : Table UnitRow) (result : Result Statement ReadFault) (after : Cursor) (left : Table UnitRow) : Type 0 where
  pub value : told_with result (held left) after.at ≡ laid_out rows (reader before.bytes.now before.at)
  pub same : after.bytes.now ≡ before.bytes.now
  pub lent : left.records.ghost_name ≡ rows.records.ghost_name
