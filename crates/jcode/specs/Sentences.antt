-- Statements as they are written, each with its terms as lists of rows, and how they stand in the tables.
use Rattle.std.specs.Prelude.{ℕ, ◌+◌, ◌-◌, List, [], ◌∷◌, ◌++◌, length, replicate, codes, Option}
use Rattle.terms.specs.Words.{first_with}
use Rattle.jcode.specs.declared.span.Span.{Span}
use Rattle.jcode.specs.declared.statement.Listing.{Listing}
use Rattle.jcode.specs.declared.statement.Statement.{Statement}
use Rattle.jcode.specs.declared.statement.Statement.TheVariants as stands
use Rattle.jcode.specs.declared.statement.Term.{Term}
use Rattle.jcode.specs.declared.statement_reader.Verb.{Verb}
use Rattle.jcode.specs.declared.statement_reader.Verb.TheVariants as verb
use Rattle.jcode.specs.Rows.{UnitRow}

-- a statement with its texts as T: where they stand while it is read, their bytes in the unit that it belongs to
pub data Sentence (T : Type 0) : Type 0 where
  Hang : Sentence T
  Break : T → Sentence T
  Require : List UnitRow → T → Sentence T
  Proclaim : List UnitRow → Sentence T
  New : List ℕ → List UnitRow → T → Sentence T
  Assign : ℕ → List UnitRow → List UnitRow → Sentence T
  Split : ℕ → Sentence T
  When : List UnitRow → ℕ → Sentence T
  Branch : T → ℕ → Sentence T
  Join : ℕ → Sentence T

-- the rows of its terms, in written order
abbrev pub rows_of : {T : Type 0} → Sentence T → List UnitRow
rows_of Hang = []
rows_of (Break t) = []
rows_of (Require e t) = e
rows_of (Proclaim e) = e
rows_of (New vs e t) = e
rows_of (Assign v e f) = e ++ f
rows_of (Split l) = []
rows_of (When e l) = e
rows_of (Branch t l) = []
rows_of (Join l) = []

-- the rows of statements one after another
abbrev pub rows_all : {T : Type 0} → List (Sentence T) → List UnitRow
rows_all [] = []
rows_all (s ∷ ss) = rows_of s ++ rows_all ss

-- listed variables in their record: past the count they are 0
abbrev pub listing_of : List ℕ → Listing
listing_of vs = record { variables = vs ++ replicate (8 - length vs) 0; count = length vs }

-- a term whose rows stand from a place of the row table on
abbrev pub term_at : ℕ → List UnitRow → Term
term_at first e = record { first = first; rows = length e }

-- its record, where its rows stand from a place of the row table on
abbrev pub laid : ℕ → Sentence Span → Statement
laid used Hang = stands.Hang
laid used (Break t) = stands.Break t
laid used (Require e t) = stands.Require (term_at used e) t
laid used (Proclaim e) = stands.Proclaim (term_at used e)
laid used (New vs e t) = stands.New (listing_of vs) (term_at used e) t
laid used (Assign v e f) = stands.Assign v (term_at used e) (term_at (used + length e) f)
laid used (Split l) = stands.Split l
laid used (When e l) = stands.When (term_at used e) l
laid used (Branch t l) = stands.Branch t l
laid used (Join l) = stands.Join l

abbrev pub verb_word : Verb → List ℕ
verb_word verb.Break = codes "BREAK"
verb_word verb.Require = codes "REQUIRE"
verb_word verb.Proclaim = codes "PROCLAIM"
verb_word verb.New = codes "NEW"
verb_word verb.Assign = codes "ASSIGN"
verb_word verb.Split = codes "SPLIT"
verb_word verb.When = codes "WHEN"
verb_word verb.Branch = codes "BRANCH"
verb_word verb.Join = codes "JOIN"
verb_word verb.Hang = codes "HANG"

abbrev pub verbs : List Verb
verbs = verb.Break ∷ verb.Require ∷ verb.Proclaim ∷ verb.New ∷ verb.Assign ∷ verb.Split ∷ verb.When ∷ verb.Branch ∷ verb.Join ∷ verb.Hang ∷ []

-- the statement that a word opens
abbrev pub verb_of : List ℕ → Option Verb
verb_of w = first_with verb_word w verbs
