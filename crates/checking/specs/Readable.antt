-- Tables that keep the rules of reading.
use Rattle.std.specs.Prelude.{◌≡◌, ℕ, ◌≤◌, Bool, true, ◌&&◌, List, map, length, Some, nat_le}
use Rattle.jcode.specs.declared.span.Span.{Span}
use Rattle.jcode.specs.ReadTerms.{row_limit}
use Rattle.jcode.specs.ReadUnits.{Tables, laid_all, rows_all, variable_limit, statement_limit}
use Rattle.jcode.specs.Sentences.{Sentence}
use Rattle.jcode.specs.Units.{sentence_in}
use Rattle.checking.specs.Layouts.{fills_from}
use Rattle.checking.specs.Pieces.{is_name, is_declaration, same_name}
use Rattle.checking.specs.Sentences.{keeps}
use Rattle.std.specs.List.{list_all}
use Rattle.checking.specs.Tests.{apart}

-- the statements that the tables hold
abbrev pub sentences_in : Tables → List (Sentence Span)
sentences_in t = map (sentence_in t.rows) t.statements

-- the tables hold a unit with this name, whose names and texts stand in these bytes, and it keeps the rules of reading
pub record Readable (bytes : List ℕ) (name : Span) (t : Tables) : Type 0 where
  -- each record is what reading makes of its statement, and the row table holds the statements' rows and nothing else
  pub laid : t.statements ≡ laid_all 0 (sentences_in t)
  pub filled : t.rows ≡ rows_all (sentences_in t)
  -- the limits
  pub few_variables : length t.variables ≤ variable_limit
  pub few_statements : length t.statements ≤ statement_limit
  pub few_rows : length t.rows ≤ row_limit
  -- names, types and statements keep their rules, and no name is declared twice
  pub named : is_name bytes name ≡ true
  pub declared : list_all (is_declaration bytes) t.variables ≡ true
  pub once : apart (same_name bytes) t.variables ≡ true
  pub kept : list_all (keeps bytes (length t.variables)) (sentences_in t) ≡ true

-- the same, decided
abbrev pub few_enough : Tables → Bool
few_enough t = nat_le (length t.variables) variable_limit && (nat_le (length t.statements) statement_limit && nat_le (length t.rows) row_limit)

abbrev pub well_named : List ℕ → Span → Tables → Bool
well_named bytes name t = is_name bytes name && (list_all (is_declaration bytes) t.variables && apart (same_name bytes) t.variables)

abbrev pub well_laid : List ℕ → Tables → Bool
well_laid bytes t = fills_from (length t.rows) (Some 0) t.statements && list_all (keeps bytes (length t.variables)) (sentences_in t)

abbrev pub readable : List ℕ → Span → Tables → Bool
readable bytes name t = few_enough t && (well_named bytes name t && well_laid bytes t)
