-- What spells a unit, production by production.
use Rattle.std.specs.Prelude.{◌≡◌, ℕ, zero, suc, ◌≤◌, ◌≤ℤ◌, Bool, true, false, List, [], ◌∷◌, ◌++◌, length, map, Some, None, codes, nat_eq, slice_get}
use Rattle.std.specs.List.{IsDistinct}
use Rattle.terms.specs.declared.row.Row.TheVariants.{Constant, Mention as Mentioned, Operator as Applied}
use Rattle.terms.specs.Operators.{word_of}
use Rattle.terms.specs.Words.{same_word}
use Rattle.jcode.specs.declared.mention.Aspect.{Aspect}
use Rattle.jcode.specs.declared.mention.Aspect.TheVariants.{Value, Shadow}
use Rattle.jcode.specs.declared.mention.Stage.{Stage}
use Rattle.jcode.specs.declared.mention.Stage.TheVariants.{Current, New as Renewed}
use Rattle.jcode.specs.declared.variable.Domain.{Domain}
use Rattle.jcode.specs.declared.variable.Domain.TheVariants.{Integer, Boolean, Subrange}
use Rattle.jcode.specs.Language.{Language, ◌⊙◌, Many, Just, Gap, MayGap, End, IsName, Name, Number, Label, Text}
use Rattle.jcode.specs.Scopes.{Scope, renews, listing}
use Rattle.jcode.specs.Sentences.{Sentence, Hang, Break, Require, Proclaim, New, Assign, Split, When, Branch, Join, rows_all}
use Rattle.jcode.specs.Units.{Declared, JUnit}
use Rattle.jcode.specs.Rows.{UnitRow, operands_after}

abbrev pub Variable : Scope → ℕ → Language
Variable sc v w = (slice_get sc.names v ≡ Some w) × IsName w

-- a variable that NEW lists
abbrev pub Listed : Scope → ℕ → Language
Listed sc v w = (renews sc v ≡ true) × Variable sc v w

abbrev pub Mention : Scope → Aspect → Stage → ℕ → Language
Mention sc Value Current v = Variable sc v
Mention sc Shadow Current v = Just (codes "defined!") ⊙ Gap ⊙ Variable sc v
Mention sc Value Renewed v = Just (codes "new!") ⊙ Gap ⊙ Listed sc v
Mention sc Shadow Renewed v = Just (codes "defined!") ⊙ Gap ⊙ Just (codes "new!") ⊙ Gap ⊙ Listed sc v

-- what a term's row stands as, up to its operands
abbrev pub Leader : Scope → UnitRow → Language
Leader sc (Constant z) = Just (codes "consti!") ⊙ Gap ⊙ Number z
Leader sc (Mentioned m) = Mention sc m.aspect m.stage m.variable
Leader sc (Applied o) = Just (word_of o ++ codes "!")

-- a closing bracket, perhaps after a gap
abbrev pub Close : Language
Close = MayGap ⊙ Just (codes ")")

-- a gap that must stand, or one that may
abbrev pub Lead : Bool → Language
Lead true = Gap
Lead false = MayGap

-- so many terms, the first after a gap and the others perhaps after one
abbrev pub Operands : (List UnitRow → Language) → ℕ → Bool → List UnitRow → Language
Operands term zero first rs w = (rs ≡ []) × (w ≡ [])
Operands term (suc n) first rs w =
    (r₁ : List UnitRow) × (r₂ : List UnitRow) × (rs ≡ r₁ ++ r₂) × (Lead first ⊙ term r₁ ⊙ Operands term n false r₂) w

-- a term of at most this nesting
abbrev pub Term : Scope → ℕ → List UnitRow → Language
Term sc zero rows w = ⊥
Term sc (suc k) [] w = ⊥
Term sc (suc k) (r ∷ rs) w =
    (Just (codes "(") ⊙ MayGap ⊙ Leader sc r ⊙ Operands (Term sc k) (operands_after r) true rs ⊙ Close) w

abbrev pub Expression : Scope → List UnitRow → Language
Expression sc = Term sc 32

abbrev pub Bracketed : Language → Language
Bracketed P = Just (codes "(") ⊙ MayGap ⊙ P ⊙ Close

-- further names of a list, and its closing bracket
abbrev pub MoreNames : Scope → List ℕ → Language
MoreNames sc = Many (λ v. Gap ⊙ Variable sc v) Close

abbrev pub Names : Scope → List ℕ → Language
Names sc [] = Just (codes ")")
Names sc (v ∷ vs) = Variable sc v ⊙ MoreNames sc vs

-- names in brackets, at most 8, none twice
abbrev pub Listing : Scope → List ℕ → Language
Listing sc vs w = (length vs ≤ 8) × IsDistinct nat_eq vs × (Just (codes "(") ⊙ MayGap ⊙ Names sc vs) w

-- a statement, from its word to its end
abbrev pub Says : Scope → Sentence (List ℕ) → Language
Says sc (Break t) = Just (codes "BREAK") ⊙ MayGap ⊙ Text t ⊙ End
Says sc (Require e t) = Just (codes "REQUIRE") ⊙ Gap ⊙ Expression sc e ⊙ MayGap ⊙ Text t ⊙ End
Says sc (Proclaim e) = Just (codes "PROCLAIM") ⊙ Gap ⊙ Expression sc e ⊙ End
Says sc (New vs e t) = Just (codes "NEW") ⊙ Gap ⊙ Listing sc vs ⊙ MayGap ⊙ Expression (listing sc vs) e ⊙ MayGap ⊙ Text t ⊙ End
Says sc (Assign v e f) = Just (codes "ASSIGN") ⊙ Gap ⊙ Bracketed (Variable sc v) ⊙ MayGap ⊙ Bracketed (Variable sc v) ⊙ MayGap ⊙ Expression sc e ⊙ MayGap ⊙ Expression sc f ⊙ End
Says sc (Split l) = Just (codes "SPLIT") ⊙ Gap ⊙ Label l ⊙ End
Says sc (When e l) = Just (codes "WHEN") ⊙ Gap ⊙ Expression sc e ⊙ MayGap ⊙ Label l ⊙ End
Says sc (Branch t l) = Just (codes "BRANCH") ⊙ Gap ⊙ Text t ⊙ MayGap ⊙ Label l ⊙ End
Says sc (Join l) = Just (codes "JOIN") ⊙ Gap ⊙ Label l ⊙ End
Says sc Hang = Just (codes "HANG") ⊙ End

-- statements, and `END`
abbrev pub Statements : Scope → List (Sentence (List ℕ)) → Language
Statements sc = Many (Says sc) (Just (codes "END") ⊙ End)

abbrev pub InDomain : Domain → Language
InDomain Integer w = Just (codes "integer") w
InDomain Boolean w = Just (codes "boolean") w
InDomain (Subrange low high) w = (low ≤ℤ high) × (Just (codes "subrange") ⊙ Gap ⊙ Number low ⊙ Gap ⊙ Number high) w

-- a declaration, after its name
abbrev pub HasDomain : Domain → Language
HasDomain d = MayGap ⊙ Just (codes ":") ⊙ MayGap ⊙ Bracketed (Just (codes "variable") ⊙ MayGap ⊙ Bracketed (InDomain d)) ⊙ End

abbrev pub Declares : Declared → Language
Declares d = Name d.name ⊙ HasDomain d.domain

abbrev pub Declarations : List Declared → Language
Declarations = Many Declares (Just [])

abbrev pub names_of : List Declared → List (List ℕ)
names_of ds = map (λ d. d.name) ds

abbrev pub scope_with : List Declared → Scope
scope_with ds = record { names = names_of ds; listed = None }

abbrev pub Heading : List ℕ → Language
Heading name = Just (codes "BEGIN") ⊙ Gap ⊙ Name name ⊙ End

-- a unit: no name is declared twice
abbrev pub Spells : JUnit → Language
Spells u w =
    IsDistinct same_word (names_of u.variables)
    × (Heading u.name ⊙ Declarations u.variables ⊙ Statements (scope_with u.variables) u.statements) w

-- how many records of each kind there are, or may be
pub record Sizes : Type 0 where
  pub variables : ℕ
  pub statements : ℕ
  pub rows : ℕ

pub record Within (most : Sizes) (u : JUnit) : Type 0 where
  pub variables : length u.variables ≤ most.variables
  pub statements : length u.statements ≤ most.statements
  pub rows : length (rows_all u.statements) ≤ most.rows

-- the notation's own limits
abbrev pub limits : Sizes
limits = record { variables = 32; statements = 200; rows = 2000 }
