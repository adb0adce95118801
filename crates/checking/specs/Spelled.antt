-- Tables that keep the rules of reading, and units that bytes spell.
use Rattle.std.specs.Prelude.{◌≡◌, ℕ, ◌+◌, Bool, true, List, length, nat_le}
use Rattle.std.specs.List.{list_all}
use Rattle.jcode.specs.declared.span.Span.{Span}
use Rattle.jcode.specs.ReadUnits.{Tables, laid_all, rows_all}
use Rattle.jcode.specs.Sentences.{Sentence, Hang, Break, Require, Proclaim, New, Assign, Split, When, Branch, Join}
use Rattle.jcode.specs.Spelling.{Spells, Within, limits}
use Rattle.jcode.specs.Units.{unit_of}
use Rattle.checking.specs.Readable.{Readable, sentences_in}

-- a span lies within the bytes
abbrev pub lies_in : List ℕ → Span → Bool
lies_in bytes s = nat_le (s.start + s.length) (length bytes)

-- its text lies within the bytes, where it has one
abbrev pub text_fits : List ℕ → Sentence Span → Bool
text_fits bytes Hang = true
text_fits bytes (Break t) = lies_in bytes t
text_fits bytes (Require e t) = lies_in bytes t
text_fits bytes (Proclaim e) = true
text_fits bytes (New vs e t) = lies_in bytes t
text_fits bytes (Assign v e f) = true
text_fits bytes (Split l) = true
text_fits bytes (When e l) = true
text_fits bytes (Branch t l) = lies_in bytes t
text_fits bytes (Join l) = true

-- what a spelling cannot show of a unit's tables
pub record Laid (bytes : List ℕ) (name : Span) (t : Tables) : Type 0 where
  -- each record is what reading makes of its statement, and the row table holds the statements' rows and nothing else
  pub laid : t.statements ≡ laid_all 0 (sentences_in t)
  pub filled : t.rows ≡ rows_all (sentences_in t)
  -- the unit keeps the notation's limits
  pub limited : Within limits (unit_of bytes name t)
  -- names and texts lie within the bytes
  pub named : lies_in bytes name ≡ true
  pub declared : list_all (λ v. lies_in bytes v.name) t.variables ≡ true
  pub told : list_all (text_fits bytes) (sentences_in t) ≡ true

-- the tables hold a unit that the notation allows
abbrev pub HoldsUnit : List ℕ → Span → Tables → Type 0
HoldsUnit bytes name t = Laid bytes name t × ((w : List ℕ) × Spells (unit_of bytes name t) w)

-- tables that keep the rules of reading hold such a unit
abbrev pub ReadableIsSpelled : Type 0
ReadableIsSpelled = (bytes : List ℕ) (name : Span) (t : Tables) → Readable bytes name t → HoldsUnit bytes name t

-- tables that hold such a unit keep the rules of reading
abbrev pub SpelledIsReadable : Type 0
SpelledIsReadable = (bytes : List ℕ) (name : Span) (t : Tables) → HoldsUnit bytes name t → Readable bytes name t

-- both: the rules of reading are the notation's
pub record ReadingIsTheNotation : Type 0 where
  pub spelled : ReadableIsSpelled
  pub readable : SpelledIsReadable
