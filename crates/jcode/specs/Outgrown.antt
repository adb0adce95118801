-- What it means that tables are too short for a unit, as far as it was read.
use Rattle.std.specs.Prelude.{◌≡◌, ℕ, zero, suc, ◌+◌, ◌<◌, Bool, true, false, ◌⊎◌, List, [], length, codes}
use Rattle.jcode.specs.declared.statement_reader.Verb.{Verb}
use Rattle.jcode.specs.Bytes.{name_byte, passes}
use Rattle.jcode.specs.Language.{Language, ◌⊙◌, Many, Just, Gap, MayGap, Name, Spelt}
use Rattle.jcode.specs.Spelling.{Sizes, Variable, Leader, Lead, Term, Expression, Bracketed, Listing, Says, Declarations, scope_with, Heading}
use Rattle.jcode.specs.Scopes.{Scope, listing}
use Rattle.jcode.specs.Sentences.{Sentence, verb_word, rows_all}
use Rattle.jcode.specs.Units.{Declared}
use Rattle.jcode.specs.Rows.{UnitRow, operands_after}

-- operands up to the place where a term is due, with so many rows before it
abbrev pub OperandsPartway : (List UnitRow → Language) → (ℕ → Language) → ℕ → Bool → ℕ → Language
OperandsPartway term partway zero first n w = ⊥
OperandsPartway term partway (suc m) first n w =
    (Lead first ⊙ partway n) w
    ⊎ ((rs : List UnitRow) × (k : ℕ) × (n ≡ length rs + k) × (Lead first ⊙ term rs ⊙ OperandsPartway term partway m false k) w)

-- a term of at most this nesting, likewise
abbrev pub Partway : Scope → ℕ → ℕ → Language
Partway sc zero n w = ⊥
Partway sc (suc k) n w =
    ((n ≡ 0) × (w ≡ []))
    ⊎ ((r : UnitRow) × (m : ℕ) × (n ≡ m + 1) × (Just (codes "(") ⊙ MayGap ⊙ Leader sc r ⊙ OperandsPartway (Term sc k) (Partway sc k) (operands_after r) true m) w)

-- a statement, likewise
pub data Interrupted (sc : Scope) (n : ℕ) (w : List ℕ) : Type 0 where
  in_require : (Just (codes "REQUIRE") ⊙ Gap ⊙ Partway sc 32 n) w → Interrupted sc n w
  in_proclaim : (Just (codes "PROCLAIM") ⊙ Gap ⊙ Partway sc 32 n) w → Interrupted sc n w
  in_new : (vs : List ℕ) → (Just (codes "NEW") ⊙ Gap ⊙ Listing sc vs ⊙ MayGap ⊙ Partway (listing sc vs) 32 n) w → Interrupted sc n w
  in_shadow : (v : ℕ) → (Just (codes "ASSIGN") ⊙ Gap ⊙ Bracketed (Variable sc v) ⊙ MayGap ⊙ Bracketed (Variable sc v) ⊙ MayGap ⊙ Partway sc 32 n) w → Interrupted sc n w
  in_value : (v : ℕ) (e : List UnitRow) (k : ℕ) → n ≡ length e + k → (Just (codes "ASSIGN") ⊙ Gap ⊙ Bracketed (Variable sc v) ⊙ MayGap ⊙ Bracketed (Variable sc v) ⊙ MayGap ⊙ Expression sc e ⊙ MayGap ⊙ Partway sc 32 k) w → Interrupted sc n w
  in_when : (Just (codes "WHEN") ⊙ Gap ⊙ Partway sc 32 n) w → Interrupted sc n w

-- a unit's heading, its declarations and some statements
abbrev pub Front : List ℕ → List Declared → List (Sentence (List ℕ)) → Language
Front name ds ss = Heading name ⊙ Declarations ds ⊙ Many (Says (scope_with ds)) (Just []) ss

-- something of the language stands at a place
abbrev pub Begins : Language → List ℕ → ℕ → Type 0
Begins P bytes place = (next : ℕ) × Spelt P bytes place next

-- a name with a colon after it, which opens a declaration
abbrev pub Opening : Language
Opening w = (n : List ℕ) × (Name n ⊙ MayGap ⊙ Just (codes ":")) w

-- one of the ten words stands at a place, and is no longer: it opens a statement
pub record OpensStatement (bytes : List ℕ) (place : ℕ) : Type 0 where
  pub verb : Verb
  pub next : ℕ
  pub spelt : Spelt (Just (verb_word verb)) bytes place next
  pub whole : passes name_byte bytes next ≡ false

-- what stands before a place fills a table and falls short of the notation's limit, and one record more begins there
pub data IsOutgrown (most : Sizes) (bytes : List ℕ) (start place : ℕ) : Type 0 where
  by_variables : (name : List ℕ) (ds : List Declared) → Spelt (Front name ds []) bytes start place → length ds ≡ most.variables → length ds < 32 → Begins Opening bytes place → IsOutgrown most bytes start place
  by_statements : (name : List ℕ) (ds : List Declared) (ss : List (Sentence (List ℕ))) → Spelt (Front name ds ss) bytes start place → length ss ≡ most.statements → length ss < 200 → OpensStatement bytes place → IsOutgrown most bytes start place
  by_rows : (name : List ℕ) (ds : List Declared) (ss : List (Sentence (List ℕ))) (next n : ℕ) → Spelt (Front name ds ss) bytes start next → Spelt (Interrupted (scope_with ds) n) bytes next place → length (rows_all ss) + n ≡ most.rows → length (rows_all ss) + n < 2000 → Begins (Just (codes "(")) bytes place → IsOutgrown most bytes start place
