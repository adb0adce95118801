-- The pieces of a unit's tables: which keep the rules of reading.
use Rattle.std.specs.Prelude.{ℕ, ◌+◌, Bool, true, ◌&&◌, ltb, List, length, int_le, nat_eq, nat_le, nat_lt}
use Rattle.terms.specs.declared.row.Row.TheVariants.{Constant, Mention as Mentioned, Operator as Applied}
use Rattle.terms.specs.Numbers.{in_span}
use Rattle.terms.specs.Words.{same_word}
use Rattle.jcode.specs.declared.mention.Stage.{Stage}
use Rattle.jcode.specs.declared.mention.Stage.TheVariants.{Current, New}
use Rattle.jcode.specs.declared.span.Span.{Span}
use Rattle.jcode.specs.declared.variable.Domain.{Domain}
use Rattle.jcode.specs.declared.variable.Domain.TheVariants.{Integer, Boolean, Subrange}
use Rattle.jcode.specs.declared.variable.Variable.{Variable}
use Rattle.jcode.specs.Bytes.{slice, is_word, is_text as plain}
use Rattle.jcode.specs.ReadStatements.{nesting}
use Rattle.jcode.specs.ReadTerms.{UnitRow}
use Rattle.jcode.specs.Scopes.{member, name_in}
use Rattle.checking.specs.Nesting.{writes_term}
use Rattle.std.specs.List.{list_all}
use Rattle.checking.specs.Tests.{apart}

-- a span lies within the bytes
abbrev pub fits : List ℕ → Span → Bool
fits bytes s = nat_le (s.start + s.length) (length bytes)

-- a letter and up to 31 letters, digits, `.`, `_` or `~`
abbrev pub is_name : List ℕ → Span → Bool
is_name bytes s = fits bytes s && (nat_le s.length 32 && is_word (slice bytes s))

-- at most 80 bytes of a text
abbrev pub is_text : List ℕ → Span → Bool
is_text bytes s = fits bytes s && (nat_le s.length 80 && plain (slice bytes s))

abbrev pub is_label : ℕ → Bool
is_label l = nat_le 1 l && nat_le l 9999

-- bounds lie in the span, and low is not above high
abbrev pub is_domain : Domain → Bool
is_domain Integer = true
is_domain Boolean = true
is_domain (Subrange low high) = (in_span low && in_span high) && int_le low high

abbrev pub is_declaration : List ℕ → Variable → Bool
is_declaration bytes v = is_name bytes v.name && is_domain v.domain

abbrev pub same_name : List ℕ → Variable → Variable → Bool
same_name bytes v w = same_word (name_in bytes v) (name_in bytes w)

-- `new!` is for variables that NEW lists
abbrev pub stage_known : List ℕ → ℕ → Stage → Bool
stage_known listed v Current = true
stage_known listed v New = member v listed

-- a constant lies in the span, and a mention is of one of so many variables
abbrev pub row_known : ℕ → List ℕ → UnitRow → Bool
row_known count listed (Constant z) = in_span z
row_known count listed (Mentioned m) = nat_lt m.variable count && stage_known listed m.variable m.stage
row_known count listed (Applied o) = true

-- rows that write one term, where NEW lists these variables
abbrev pub is_term : ℕ → List ℕ → List UnitRow → Bool
is_term count listed e = writes_term nesting e && list_all (row_known count listed) e

-- at most 8 variables, none twice
abbrev pub is_list : ℕ → List ℕ → Bool
is_list count vs = nat_le (length vs) 8 && (list_all (λ v. ltb v count) vs && apart nat_eq vs)
