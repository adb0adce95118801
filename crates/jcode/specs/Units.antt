-- Units as what they say: names and texts as bytes, terms as lists of rows.
use Rattle.std.specs.Prelude.{ℕ, List, map, take, drop}
use Rattle.jcode.specs.declared.span.Span.{Span}
use Rattle.jcode.specs.declared.statement.Statement.{Statement}
use Rattle.jcode.specs.declared.statement.Statement.TheVariants as stands
use Rattle.jcode.specs.declared.statement.Term.{Term}
use Rattle.jcode.specs.declared.variable.Domain.{Domain}
use Rattle.jcode.specs.declared.variable.Variable.{Variable}
use Rattle.jcode.specs.Bytes.{slice}
use Rattle.jcode.specs.ReadUnits.{Located, Tables}
use Rattle.jcode.specs.Scopes.{listed_in}
use Rattle.jcode.specs.Sentences.{Sentence, Hang, Break, Require, Proclaim, New, Assign, Split, When, Branch, Join}
use Rattle.jcode.specs.Rows.{UnitRow}

-- a variable, with its type as declared
pub record Declared : Type 0 where
  pub name : List ℕ
  pub domain : Domain

pub record JUnit : Type 0 where
  pub name : List ℕ
  pub variables : List Declared
  pub statements : List (Sentence (List ℕ))

-- a statement with each text turned into something else
abbrev pub retold : {S T : Type 0} → (S → T) → Sentence S → Sentence T
retold f Hang = Hang
retold f (Break t) = Break (f t)
retold f (Require e t) = Require e (f t)
retold f (Proclaim e) = Proclaim e
retold f (New vs e t) = New vs e (f t)
retold f (Assign v e g) = Assign v e g
retold f (Split l) = Split l
retold f (When e l) = When e l
retold f (Branch t l) = Branch (f t) l
retold f (Join l) = Join l

abbrev pub declared_in : List ℕ → Variable → Declared
declared_in bytes v = record { name = slice bytes v.name; domain = v.domain }

-- what is told of a unit that stands in the bytes
abbrev pub unit_in : List ℕ → Located → JUnit
unit_in bytes u = record {
  name = slice bytes u.name;
  variables = map (declared_in bytes) u.variables;
  statements = map (retold (slice bytes)) u.sentences;
}

-- the rows of a term in the row table
abbrev pub term_in : List UnitRow → Term → List UnitRow
term_in rows t = take t.rows (drop t.first rows)

-- a record of the statement table, with its terms as their rows
abbrev pub sentence_in : List UnitRow → Statement → Sentence Span
sentence_in rows stands.Hang = Hang
sentence_in rows (stands.Break t) = Break t
sentence_in rows (stands.Require e t) = Require (term_in rows e) t
sentence_in rows (stands.Proclaim e) = Proclaim (term_in rows e)
sentence_in rows (stands.New vs e t) = New (listed_in vs) (term_in rows e) t
sentence_in rows (stands.Assign v e f) = Assign v (term_in rows e) (term_in rows f)
sentence_in rows (stands.Split l) = Split l
sentence_in rows (stands.When e l) = When (term_in rows e) l
sentence_in rows (stands.Branch t l) = Branch t l
sentence_in rows (stands.Join l) = Join l

-- the unit whose name, tables and bytes these are
abbrev pub located_by : Span → Tables → Located
located_by name t = record { name = name; variables = t.variables; sentences = map (sentence_in t.rows) t.statements }

abbrev pub unit_of : List ℕ → Span → Tables → JUnit
unit_of bytes name t = unit_in bytes (located_by name t)
