-- Terms: how they are read.
use Rattle.std.specs.Prelude.{◌≡◌, ℕ, zero, suc, ◌+◌, Bool, true, false, cond, List, [], ◌∷◌, ◌++◌, length, Some, None, Ok, Err, codes, Option, Result, ◌==◌, nat_le}
use Rattle.std.specs.Option.{is_some}
use Rattle.terms.specs.declared.operator.Operator.{Operator}
use Rattle.terms.specs.declared.row.Row.TheVariants.{Constant, Mention as Mentioned, Operator as Applied}
use Rattle.terms.specs.Words.{same_word}
use Rattle.terms.specs.Operators.{operator_of}
use Rattle.jcode.specs.declared.cursor.Cursor.{Cursor}
use Rattle.jcode.specs.declared.mention.Aspect.{Aspect}
use Rattle.jcode.specs.declared.mention.Aspect.TheVariants.{Value, Shadow}
use Rattle.jcode.specs.declared.mention.Stage.{Stage}
use Rattle.jcode.specs.declared.mention.Stage.TheVariants.{Current, New}
use Rattle.jcode.specs.declared.refusal.ReadFault.{ReadFault}
use Rattle.jcode.specs.declared.refusal.Refusal.TheVariants.{Limit, Table, Name}
use Rattle.jcode.specs.declared.span.Span.{Span}
use Rattle.jcode.specs.declared.table.Table.{Table as CodeTable}
use Rattle.jcode.specs.declared.term_reader.Head.{Head}
use Rattle.jcode.specs.declared.term_reader.Head.TheVariants.{Constant as ConstantHead, Defined, New as NewHead, Operator as OperatorHead}
use Rattle.jcode.specs.Bytes.{slice, stands}
use Rattle.jcode.specs.Pieces.{Answer, got, refused, Reader, refuse, and_then, ◌▷◌, ◌giving◌, starts_with, short, read_mark, read_gap, read_may_gap, read_word, read_name, read_number}
pub use Rattle.jcode.specs.Rows.{UnitRow}
use Rattle.jcode.specs.Rows.{operands_after}
use Rattle.jcode.specs.Scopes.{Scope, index_of, renewed}
use Rattle.jcode.specs.Tables.{put}

-- a word with `!` after it: what it opens
abbrev pub operator_head : Option Operator → Option Head
operator_head (Some o) = Some (OperatorHead o)
operator_head None = None

abbrev pub head_of : List ℕ → Option Head
head_of w =
    cond (same_word w (codes "consti")) (Some ConstantHead)
    (cond (same_word w (codes "defined")) (Some Defined)
    (cond (same_word w (codes "new")) (Some NewHead) (operator_head (operator_of w))))

abbrev pub found : ℕ → Option ℕ → ℕ → Answer ℕ
found at (Some v) j = got v j
found at None j = refuse Name at

-- the variable that a word names
abbrev pub known : Scope → List ℕ → Span → ℕ → Answer ℕ
known sc bytes w j = and_then (short w j) (λ s k. found s.start (index_of (slice bytes s) sc.names) k)

abbrev pub read_variable : Scope → Reader ℕ
read_variable sc bytes at = and_then (read_word bytes at) (known sc bytes)

-- a name that NEW lists; ahead of another it is `new!`, at its own place, that is refused
abbrev pub read_listed : Scope → ℕ → Reader ℕ
read_listed sc place bytes at = and_then (read_name bytes at) (λ s j. found place (renewed sc (slice bytes s)) j)

-- what follows `new!`, which stands at a place: outside of NEW it is refused at once
abbrev pub read_renewed : Scope → ℕ → Reader ℕ
read_renewed sc place bytes at = cond (is_some sc.listed) ((read_gap ▷ read_listed sc place) bytes at) (refuse Name place)

abbrev pub mention : Aspect → Stage → ℕ → UnitRow
mention a s v = Mentioned (record { variable = v; aspect = a; stage = s })

-- what follows `defined!`: `new!` and a listed variable, or a variable
abbrev pub read_defined : Scope → Reader UnitRow
read_defined sc bytes at =
    cond (starts_with (codes "new!") bytes at)
    ((read_renewed sc at giving mention Shadow New) bytes (at + 4))
    ((read_variable sc giving mention Shadow Current) bytes at)

-- what follows a word, which stands at a place, and its `!`, up to the operands
abbrev pub by_head : Scope → ℕ → Head → Reader UnitRow
by_head sc place ConstantHead = read_gap ▷ (read_number giving Constant)
by_head sc place Defined = read_gap ▷ read_defined sc
by_head sc place NewHead = read_renewed sc place giving mention Value New
by_head sc place (OperatorHead o) = λ bytes i. got (Applied o) i

abbrev pub by_head_found : Scope → ℕ → Option Head → Reader UnitRow
by_head_found sc place (Some h) bytes i = by_head sc place h bytes i
by_head_found sc place None bytes i = refuse Name place

-- the row that a term begins with: a word with `!` after it, and what that opens, or a variable
abbrev pub read_row : Scope → Reader UnitRow
read_row sc bytes at =
    and_then (read_word bytes at) (λ s j.
    cond (stands 33 bytes j)
    (by_head_found sc at (head_of (slice bytes s)) bytes (j + 1))
    (and_then (known sc bytes s j) (λ v k. got (mention Value Current v) k)))

abbrev pub row_limit : ℕ
row_limit = 2000

-- a term's opening bracket, with the limits that its row can pass: so much nesting is left, so many rows stand before it, the table has this room
abbrev pub read_open : ℕ → ℕ → ℕ → Reader (Unit {0})
read_open left room used bytes at =
    and_then (read_mark (codes "(") bytes at) (λ _ i.
    cond (left == 0) (refuse Limit at) (cond (nat_le row_limit used) (refuse Limit at) (cond (nat_le room used) (refuse Table at) (got tt i))))

-- a term up to its operands
unfoldable pub read_begin : Scope → ℕ → ℕ → ℕ → Reader UnitRow
read_begin sc left room used = read_open left room used ▷ (read_may_gap ▷ read_row sc)

-- a closing bracket, perhaps after a gap
unfoldable pub read_close : Reader (Unit {0})
read_close = read_may_gap ▷ read_mark (codes ")")

-- a gap that must stand, or one that may
abbrev pub read_lead : Bool → Reader (Unit {0})
read_lead true = read_gap
read_lead false = read_may_gap

-- so many terms, the first after a gap and the others perhaps after one
abbrev pub read_operands : (ℕ → Reader (List UnitRow)) → ℕ → Bool → ℕ → Reader (List UnitRow)
read_operands term zero first used bytes at = got [] at
read_operands term (suc n) first used bytes at =
    and_then ((read_lead first ▷ term used) bytes at) (λ rs i.
    and_then (read_operands term n false (used + length rs) bytes i) (λ rest j. got (rs ++ rest) j))

-- a row, its operands and the closing bracket
abbrev pub read_whole : Reader UnitRow → (ℕ → Reader (List UnitRow)) → ℕ → Reader (List UnitRow)
read_whole begin term used bytes at =
    and_then (begin bytes at) (λ r i.
    and_then (read_operands term (operands_after r) true (used + 1) bytes i) (λ rs j.
    and_then (read_close bytes j) (λ _ k. got (r ∷ rs) k)))

-- a term, with so much nesting left; where none is left, its beginning is refused
abbrev pub read_term : Scope → ℕ → ℕ → ℕ → Reader (List UnitRow)
read_term sc room zero used = read_begin sc zero room used giving (λ r. r ∷ [])
read_term sc room (suc k) used = read_whole (read_begin sc (suc k) room used) (read_term sc room k) used

-- how many records a table has, and its slice
abbrev pub held : {X : Type 0} → CodeTable X → ℕ × List X
held t = (t.count, t.records.now)

-- the same with these records after its own
abbrev pub held_with : {X : Type 0} → CodeTable X → List X → ℕ × List X
held_with t xs = (t.count + length xs, put t.records.now t.count xs)

-- what a call that writes a table tells, with what it leaves there, and what it leaves alone
abbrev pub told_with : {A X : Type 0} → Result A ReadFault → X → ℕ → Answer (A × X)
told_with (Ok a) left j = got (a, left) j
told_with (Err f) left j = refused f

abbrev pub leaves : {A X : Type 0} → Result A ReadFault → X → ℕ → Answer X
leaves (Ok a) left j = got left j
leaves (Err f) left j = refused f

-- rows that are read go into the table, after those that are used
abbrev pub stored : List UnitRow → ℕ → Answer (List UnitRow) → Answer (ℕ × List UnitRow)
stored rows used a = and_then a (λ rs j. got (used + length rs, put rows used rs) j)

-- a call on a cursor reads rows into the table
pub record ReadsRows (reader : Reader (List UnitRow)) (before : Cursor) (rows : CodeTable UnitRow) (result : Result (Unit {0}) ReadFault) (after : Cursor) (left : CodeTable UnitRow) : Type 0 where
  pub value : leaves result (held left) after.at ≡ stored rows.records.now rows.count (reader before.bytes.now before.at)
  pub same : after.bytes.now ≡ before.bytes.now
  pub lent : left.records.ghost_name ≡ rows.records.ghost_name
