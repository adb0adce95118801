-- Declarations and units: how they are read.
use Rattle.std.specs.Prelude.{◌≡◌, ℕ, ◌+◌, min, Bool, false, cond, not, List, [], ◌∷◌, ◌++◌, map, length, drop, replicate, ℤ, pos, Some, None, Ok, Err, codes, Option, Result, int_le}
use Rattle.std.specs.List.{list_any}
use Rattle.terms.specs.declared.row.Row.TheVariants.{Constant}
use Rattle.terms.specs.Words.{same_word, first_with}
use Rattle.jcode.specs.declared.declaration_reader.DomainWord.{DomainWord}
use Rattle.jcode.specs.declared.declaration_reader.DomainWord.TheVariants as word
use Rattle.jcode.specs.declared.cursor.Cursor.{Cursor}
use Rattle.jcode.specs.declared.reader.Outline.{Outline}
use Rattle.jcode.specs.declared.refusal.ReadFault.{ReadFault}
use Rattle.jcode.specs.declared.refusal.Refusal.{Refusal}
use Rattle.jcode.specs.declared.refusal.Refusal.TheVariants.{Missing, Number, Name}
use Rattle.jcode.specs.declared.span.Span.{Span}
use Rattle.jcode.specs.declared.statement.Statement.{Statement}
use Rattle.jcode.specs.declared.statement.Statement.TheVariants as stands
use Rattle.jcode.specs.declared.statement_reader.Verb.{Verb}
use Rattle.jcode.specs.declared.table.Table.{Table}
use Rattle.jcode.specs.declared.variable.Domain.{Domain}
use Rattle.jcode.specs.declared.variable.Domain.TheVariants as domain
use Rattle.jcode.specs.declared.variable.Variable.{Variable}
use Rattle.jcode.specs.Bytes.{slice, stands}
use Rattle.jcode.specs.Pieces.{Answer, got, refused, Reader, refuse, and_then, ◌▷◌, ◌◁◌, ◌⊗◌, ◌giving◌, repeated, past_gap, read_mark, read_gap, read_end, read_may_gap, read_word, read_name, read_keyword, read_number}
use Rattle.jcode.specs.Scopes.{Scope, name_in}
use Rattle.jcode.specs.Tables.{put, full_by}
use Rattle.jcode.specs.Rows.{UnitRow}
use Rattle.jcode.specs.ReadTerms.{held, leaves, read_close}
pub use Rattle.jcode.specs.Sentences.{rows_all}
use Rattle.jcode.specs.Sentences.{Sentence, rows_of, laid, verb_of}
use Rattle.jcode.specs.ReadStatements.{by_verb}

abbrev pub domain_word : DomainWord → List ℕ
domain_word word.Integer = codes "integer"
domain_word word.Boolean = codes "boolean"
domain_word word.Subrange = codes "subrange"

abbrev pub domain_of : List ℕ → Option DomainWord
domain_of w = first_with domain_word w (word.Integer ∷ word.Boolean ∷ word.Subrange ∷ [])

-- a high bound, not below the low one
unfoldable pub read_high : ℤ → Reader Domain
read_high low bytes at = and_then (read_number bytes at) (λ high j. cond (int_le low high) (got (domain.Subrange low high) j) (refuse Number at))

unfoldable pub read_bounds : Reader Domain
read_bounds bytes at = and_then ((read_gap ▷ read_number) bytes at) (λ low i. (read_gap ▷ read_high low) bytes i)

abbrev pub by_domain : ℕ → Option DomainWord → Reader Domain
by_domain at (Some word.Integer) bytes i = got domain.Integer i
by_domain at (Some word.Boolean) bytes i = got domain.Boolean i
by_domain at (Some word.Subrange) bytes i = read_bounds bytes i
by_domain at None bytes i = refuse Missing at

unfoldable pub read_domain : Reader Domain
read_domain bytes at = and_then (read_word bytes at) (λ s j. by_domain at (domain_of (slice bytes s)) bytes j)

-- `: (variable (`
unfoldable pub read_colon : Reader (Unit {0})
read_colon = read_may_gap ▷ (read_mark (codes ":") ▷ (read_may_gap ▷ read_mark (codes "(")))

unfoldable pub read_class : Reader (Unit {0})
read_class = read_may_gap ▷ (read_keyword (codes "variable") ▷ (read_may_gap ▷ (read_mark (codes "(") ▷ read_may_gap)))

-- `))` and the end
unfoldable pub read_closing : Reader (Unit {0})
read_closing = read_close ▷ (read_close ▷ read_end)

-- what follows a declaration's name
unfoldable pub read_declared : Reader Domain
read_declared = read_colon ▷ (read_class ▷ (read_domain ◁ read_closing))

-- whether a word stands here that a colon follows, perhaps after a gap
abbrev pub colon_after : List ℕ → Answer Span → Bool
colon_after bytes (got s j) = stands 58 bytes (past_gap bytes j)
colon_after bytes (refused f) = false

abbrev pub opens_declaration : List ℕ → ℕ → Bool
opens_declaration bytes at = colon_after bytes (read_word bytes at)

-- a name that none of these variables has
unfoldable pub read_fresh : List Variable → Reader Span
read_fresh seen bytes at = and_then (read_name bytes at) (λ s j. cond (list_any (λ v. same_word (slice bytes s) (name_in bytes v)) seen) (refuse Name at) (got s j))

abbrev pub read_declaration : List Variable → Reader Variable
read_declaration seen = (read_fresh seen ⊗ λ _. read_declared) giving (λ p. record { name = p.0; domain = p.1 })

-- a declaration, where the table may be full
unfoldable pub read_entry : Refusal → Bool → List Variable → Reader Variable
read_entry r full seen bytes at = cond full (and_then (read_name bytes at) (λ s j. refuse r at)) (read_declaration seen bytes at)

abbrev pub variable_limit : ℕ
variable_limit = 32

abbrev pub read_declarations : ℕ → ℕ → List Variable → Reader (List Variable)
read_declarations table = repeated opens_declaration (read_entry (full_by table variable_limit)) (λ seen bytes at. got seen at)

-- a call on a cursor reads records into the front of a table
pub record Fills {X : Type 0} (reader : Reader (List X)) (before : Cursor) (table : Table X) (result : Result (Unit {0}) ReadFault) (after : Cursor) (left : Table X) : Type 0 where
  pub value : leaves result (held left) after.at ≡ and_then (reader before.bytes.now before.at) (λ xs j. got (length xs, put table.records.now 0 xs) j)
  pub same : after.bytes.now ≡ before.bytes.now
  pub lent : left.records.ghost_name ≡ table.records.ghost_name

abbrev pub is_word : List ℕ → List ℕ → Answer Span → Bool
is_word bytes w (got s j) = same_word (slice bytes s) w
is_word bytes w (refused f) = false

-- whether the unit does not end here
abbrev pub goes_on : List ℕ → ℕ → Bool
goes_on bytes at = not (is_word bytes (codes "END") (read_word bytes at))

abbrev pub by_found : Scope → ℕ → ℕ → Refusal → Bool → ℕ → Option Verb → Reader (Sentence Span)
by_found sc room used r full at None bytes i = refuse Missing at
by_found sc room used r full at (Some v) bytes i = cond full (refuse r at) (by_verb sc room used v bytes i)

-- a statement, where the table may be full
unfoldable pub read_sentence : Scope → ℕ → Refusal → Bool → ℕ → Reader (Sentence Span)
read_sentence sc room r full used bytes at = and_then (read_word bytes at) (λ s j. by_found sc room used r full at (verb_of (slice bytes s)) bytes j)

-- the records of statements, where their rows stand one after another from a place on
abbrev pub laid_all : ℕ → List (Sentence Span) → List Statement
laid_all used [] = []
laid_all used (s ∷ ss) = laid used s ∷ laid_all (used + length (rows_of s)) ss

abbrev pub statement_limit : ℕ
statement_limit = 200

unfoldable pub read_finish : Reader (Unit {0})
read_finish = read_keyword (codes "END") ▷ read_end

-- statements up to `END`, with a statement table of this length and a row table with this room
abbrev pub read_statements : Scope → ℕ → ℕ → ℕ → List (Sentence Span) → Reader (List (Sentence Span))
read_statements sc room table =
    repeated goes_on (λ full seen. read_sentence sc room (full_by table statement_limit) full (length (rows_all seen))) (λ seen. read_finish giving (λ _. seen))

-- what statements leave in both tables: how many records there are, and the slice
abbrev pub laid_in : List Statement → List UnitRow → List (Sentence Span) → (ℕ × List Statement) × (ℕ × List UnitRow)
laid_in statements rows ss = ((length ss, put statements 0 (laid_all 0 ss)), (length (rows_all ss), put rows 0 (rows_all ss)))

-- a call on a cursor reads statements into the front of their table, and their rows into the front of the row table
pub record LaysAll (sc : Scope) (before : Cursor) (statements : Table Statement) (rows : Table UnitRow) (result : Result (Unit {0}) ReadFault) (after : Cursor) (statements_left : Table Statement) (rows_left : Table UnitRow) : Type 0 where
  pub value :
      leaves result (held statements_left, held rows_left) after.at
      ≡ and_then (read_statements sc (length rows.records.now) (length statements.records.now) (min (length statements.records.now) statement_limit) [] before.bytes.now before.at) (λ ss j. got (laid_in statements.records.now rows.records.now ss) j)
  pub same : after.bytes.now ≡ before.bytes.now
  pub statements_lent : statements_left.records.ghost_name ≡ statements.records.ghost_name
  pub rows_lent : rows_left.records.ghost_name ≡ rows.records.ghost_name

-- a unit as it is read, with names and texts where they stand in the bytes
pub record Located : Type 0 where
  pub name : Span
  pub variables : List Variable
  pub sentences : List (Sentence Span)

-- the three tables
pub record Tables : Type 0 where
  pub variables : List Variable
  pub statements : List Statement
  pub rows : List UnitRow

abbrev pub tables : List Variable → List Statement → List UnitRow → Tables
tables vs ss rs = record { variables = vs; statements = ss; rows = rs }

unfoldable pub read_heading : Reader Span
read_heading = read_keyword (codes "BEGIN") ▷ (read_gap ▷ (read_name ◁ read_end))

abbrev pub scope_in : List ℕ → List Variable → Scope
scope_in bytes vs = record { names = map (name_in bytes) vs; listed = None }

-- the statements of a unit with these variables
abbrev pub read_body : Tables → List Variable → Reader (List (Sentence Span))
read_body t vs bytes at =
    read_statements (scope_in bytes vs) (length t.rows) (length t.statements) (min (length t.statements) statement_limit) [] bytes at

-- what follows the heading
abbrev pub read_rest : Tables → Reader (List Variable × List (Sentence Span))
read_rest t = read_declarations (length t.variables) (min (length t.variables) variable_limit) [] ⊗ read_body t

abbrev pub located : Span × (List Variable × List (Sentence Span)) → Located
located p = record { name = p.0; variables = p.1.0; sentences = p.1.1 }

-- a unit, for tables of these lengths
abbrev pub read_unit : Tables → Reader Located
read_unit t = (read_heading ⊗ λ _. read_rest t) giving located

-- a table with these records at its front and its old rest
abbrev pub over : {X : Type 0} → List X → List X → List X
over xs table = xs ++ drop (length xs) table

-- the tables with the unit at their front
abbrev pub written : Located → Tables → Tables
written u t = record {
  variables = over u.variables t.variables;
  statements = over (laid_all 0 u.sentences) t.statements;
  rows = over (rows_all u.sentences) t.rows;
}

-- the tables with every record blank, which is the first case of its type with fields 0
abbrev pub blanked : Tables → Tables
blanked t = record {
  variables = replicate (length t.variables) (record { name = record { start = 0; length = 0 }; domain = domain.Integer });
  statements = replicate (length t.statements) stands.Hang;
  rows = replicate (length t.rows) (Constant (pos 0));
}

-- what is told of a unit that was read, up to the byte after it
abbrev pub outline : Located → ℕ → Outline
outline u next = record {
  name = u.name;
  variables = length u.variables;
  statements = length u.sentences;
  rows = length (rows_all u.sentences);
  next = next;
}

-- a reading's answer, and the tables that it leaves
abbrev pub answered : Answer Located → Result Outline ReadFault
answered (got u j) = Ok (outline u j)
answered (refused f) = Err f

abbrev pub left_by : Tables → Answer Located → Tables
left_by t (got u j) = written u t
left_by t (refused f) = blanked t

-- what is told of an attempt: the tables only where it succeeds
abbrev pub attempted : Result Outline ReadFault → Tables → Result (Outline × Tables) ReadFault
attempted (Ok o) t = Ok (o, t)
attempted (Err f) t = Err f

abbrev pub achieved : Tables → Answer Located → Result (Outline × Tables) ReadFault
achieved t (got u j) = Ok (outline u j, written u t)
achieved t (refused f) = Err f
