-- Worked examples of sheets and runs, and what false readings would make of them.
use Rattle.std.specs.Prelude.{◌≡◌, ℕ, List, [], ◌∷◌, length, replicate, codes, ℤ, pos, Some, None, Option}
use Rattle.terms.specs.declared.kind.Kind.TheVariants.{Number, Truth}
use Rattle.terms.specs.declared.operator.Operator.TheVariants.{Addi, Gei, Lei, Lti, True, False, And, Implies, Equal}
use Rattle.terms.specs.declared.row.Row.{Row}
use Rattle.terms.specs.declared.row.Row.TheVariants.{Constant, Mention as Mentioned, Operator}
use Rattle.flow.specs.Numbers.{paths}
use Rattle.flow.specs.Paths.{Path}
use Rattle.jcode.specs.declared.mention.Aspect.TheVariants.{Value, Shadow}
use Rattle.jcode.specs.declared.mention.Mention.{Mention}
use Rattle.jcode.specs.declared.mention.Stage.TheVariants.{Current, New as Given}
use Rattle.jcode.specs.declared.variable.Domain.TheVariants.{Integer, Boolean, Subrange}
use Rattle.jcode.specs.Sentences.{Sentence, Hang, Break, Require, Proclaim, New, Assign, Split, When}
use Rattle.jcode.specs.Units.{Declared, JUnit, unit_in}
use Rattle.jcode.specs.Pieces.{Answer, got, refused}
use Rattle.jcode.specs.ReadUnits.{Located, Tables, read_unit}
use Rattle.jcode.specs.declared.statement.Statement.TheVariants as stands
use Rattle.checking.specs.Breaks.{steps_of}
use Rattle.sheets.specs.declared.cell.Cell.{Cell}
use Rattle.sheets.specs.declared.part.Part.{Part}
use Rattle.sheets.specs.Sheets.{Condition}
use Rattle.sheets.specs.Valuations.{Falsifies}
use Rattle.sheets.specs.Runs.{Fails}
use Rattle.sheets.specs.PathSheets.{sheet_of, laid_from}

-- one variable p, from 0 to 9
abbrev pub digit : Declared
digit = record { name = codes "p"; domain = Subrange (pos 0) (pos 9) }

abbrev pub unit_with : List (Sentence (List ℕ)) → JUnit
unit_with ss = record { name = codes "Limit"; variables = digit ∷ []; statements = ss }

-- (p), (defined! p) and (new! p)
abbrev pub p : Row Mention
p = Mentioned (record { variable = 0; aspect = Value; stage = Current })

abbrev pub defined_p : Row Mention
defined_p = Mentioned (record { variable = 0; aspect = Shadow; stage = Current })

abbrev pub new_p : Row Mention
new_p = Mentioned (record { variable = 0; aspect = Value; stage = Given })

abbrev pub is_true : {M : Type 0} → List (Row M)
is_true = Operator True ∷ []

abbrev pub is_false : {M : Type 0} → List (Row M)
is_false = Operator False ∷ []

abbrev pub limit : JUnit
limit = unit_with (
    Break (codes "entry")
    ∷ Require (Operator Gei ∷ p ∷ Constant (pos 0) ∷ []) (codes "low")
    ∷ Proclaim (Operator Lei ∷ p ∷ Constant (pos 7) ∷ [])
    ∷ Assign 0 is_true (Operator Addi ∷ p ∷ Constant (pos 1) ∷ [])
    ∷ Require (Operator Lti ∷ p ∷ Constant (pos 8) ∷ []) (codes "high")
    ∷ Hang
    ∷ [])

-- as it is written, and tables that just hold it
abbrev pub limit_text : List ℕ
limit_text =
    codes "BEGIN Limit\np : (variable (subrange 0 9))\nBREAK (/entry/)\nREQUIRE (gei! (p) (consti! 0)) (/low/)\nPROCLAIM (lei! (p) (consti! 7))\nASSIGN (p) (p) (true!) (addi! (p) (consti! 1))\nREQUIRE (lti! (p) (consti! 8)) (/high/)\nHANG\nEND\n"

abbrev pub room_for : ℕ → ℕ → ℕ → Tables
room_for variables statements rows = record {
  variables = replicate variables (record { name = record { start = 0; length = 0 }; domain = Integer });
  statements = replicate statements stands.Hang;
  rows = replicate rows (Constant (pos 0));
}

abbrev pub room : Tables
room = room_for 1 6 13

-- what is read from the bytes is this unit, and nothing is left of them
abbrev pub Tells : List ℕ → Answer Located → JUnit → Type 0
Tells bytes (got l next) u = (unit_in bytes l ≡ u) × (next ≡ length bytes)
Tells bytes (refused f) u = ⊥

abbrev pub second : List ℕ
second = 0 ∷ 1 ∷ 2 ∷ 3 ∷ 4 ∷ []

-- cells for p and for its shadow
abbrev pub p_cell : Option ℕ → Cell
p_cell by = record { kind = Number; low = pos 0; high = pos 9; set_by = by }

abbrev pub shadow_cell : Option ℕ → Cell
shadow_cell by = record { kind = Truth; low = pos 0; high = pos 1; set_by = by }

-- one for the value of a truth
abbrev pub truth_cell : Cell
truth_cell = shadow_cell None

abbrev pub second_sheet : Condition
second_sheet = record {
  parts =
      (Operator Gei ∷ Mentioned 0 ∷ Constant (pos 0) ∷ [])
      ∷ (Operator Lei ∷ Mentioned 0 ∷ Constant (pos 7) ∷ [])
      ∷ (Operator Equal ∷ Mentioned 2 ∷ Operator Addi ∷ Mentioned 0 ∷ Constant (pos 1) ∷ [])
      ∷ (Operator Equal ∷ Mentioned 3 ∷ is_true)
      ∷ (Operator Lti ∷ Mentioned 2 ∷ Constant (pos 8) ∷ [])
      ∷ [];
  cells = p_cell None ∷ shadow_cell None ∷ p_cell (Some 2) ∷ shadow_cell (Some 3) ∷ [];
}

abbrev pub pair : ℕ → ℕ → Part
pair first rows = record { first = first; rows = rows }

-- p is raised, and then what is required hangs on whether its new value is defined
abbrev pub raised : JUnit
raised = unit_with (
    Break (codes "entry")
    ∷ New (0 ∷ []) (Operator Lei ∷ p ∷ new_p ∷ []) (codes "raised")
    ∷ Split 1
    ∷ When (defined_p ∷ []) 1
    ∷ Require (Operator Gei ∷ p ∷ Constant (pos 5) ∷ []) (codes "high")
    ∷ Hang
    ∷ When is_true 1
    ∷ Hang
    ∷ [])

abbrev pub raised_path : List ℕ
raised_path = 0 ∷ 1 ∷ 2 ∷ 3 ∷ 4 ∷ []

abbrev pub raised_sheet : Condition
raised_sheet = record {
  parts =
      (Operator Lei ∷ Mentioned 0 ∷ Mentioned 2 ∷ [])
      ∷ (Mentioned 3 ∷ [])
      ∷ (Operator Gei ∷ Mentioned 2 ∷ Constant (pos 5) ∷ [])
      ∷ [];
  cells = p_cell None ∷ shadow_cell None ∷ p_cell None ∷ shadow_cell None ∷ [];
}

-- p and a truth q, to which a NEW gives new values, q listed first
abbrev pub flag : Declared
flag = record { name = codes "q"; domain = Boolean }

abbrev pub q : Row Mention
q = Mentioned (record { variable = 1; aspect = Value; stage = Current })

abbrev pub new_q : Row Mention
new_q = Mentioned (record { variable = 1; aspect = Value; stage = Given })

abbrev pub defined_new_q : Row Mention
defined_new_q = Mentioned (record { variable = 1; aspect = Shadow; stage = Given })

abbrev pub order : JUnit
order = record {
  name = codes "Order";
  variables = digit ∷ flag ∷ [];
  statements =
      Break (codes "entry")
      ∷ New (1 ∷ 0 ∷ []) (Operator And ∷ new_q ∷ Operator And ∷ defined_new_q ∷ Operator Lti ∷ new_p ∷ p ∷ []) (codes "lower")
      ∷ Require (Operator Implies ∷ q ∷ Operator Gei ∷ p ∷ Constant (pos 1) ∷ []) (codes "high")
      ∷ Hang
      ∷ [];
}

abbrev pub order_text : List ℕ
order_text =
    codes "BEGIN Order\np : (variable (subrange 0 9))\nq : (variable (boolean))\nBREAK (/entry/)\nNEW (q p) (and! (new! q) (and! (defined! new! q) (lti! (new! p) (p)))) (/lower/)\nREQUIRE (implies! (q) (gei! (p) (consti! 1))) (/high/)\nHANG\nEND\n"

abbrev pub order_path : List ℕ
order_path = 0 ∷ 1 ∷ 2 ∷ []

-- cells 0 to 3 are those of the start, 4 and 5 those that the NEW adds for q, 6 and 7 those for p
abbrev pub order_sheet : Condition
order_sheet = record {
  parts =
      (Operator And ∷ Mentioned 4 ∷ Operator And ∷ Mentioned 5 ∷ Operator Lti ∷ Mentioned 6 ∷ Mentioned 0 ∷ [])
      ∷ (Operator Implies ∷ Mentioned 4 ∷ Operator Gei ∷ Mentioned 6 ∷ Constant (pos 1) ∷ [])
      ∷ [];
  cells =
      p_cell None ∷ shadow_cell None ∷ truth_cell ∷ shadow_cell None
      ∷ truth_cell ∷ shadow_cell None ∷ p_cell None ∷ shadow_cell None
      ∷ [];
}

-- a PROCLAIM ahead of a BREAK
abbrev pub twice : JUnit
twice = unit_with (Break [] ∷ Proclaim is_false ∷ Break [] ∷ Require is_false [] ∷ Hang ∷ [])

-- an ASSIGN past its type
abbrev pub past : JUnit
past = unit_with (Break [] ∷ Assign 0 is_true (Constant (pos 10) ∷ []) ∷ Require is_false [] ∷ Hang ∷ [])

-- a SPLIT with no true WHEN
abbrev pub unchosen : JUnit
unchosen = unit_with (Break [] ∷ Split 1 ∷ When is_false 1 ∷ Require is_false [] ∷ Hang ∷ When is_false 1 ∷ Hang ∷ [])

pub record Examples : Type 0 where
  pub limit_is_read : Tells limit_text (read_unit room limit_text 0) limit
  pub limit_has : paths (steps_of limit) ≡ (0 ∷ 1 ∷ []) ∷ second ∷ []
  pub second_has : sheet_of limit second ≡ second_sheet
  pub second_stands : laid_from 0 second_sheet.parts ≡ pair 0 3 ∷ pair 3 3 ∷ pair 6 5 ∷ pair 11 3 ∷ pair 14 3 ∷ []
  pub seven_falsifies : Falsifies second_sheet (pos 7 ∷ pos 0 ∷ pos 8 ∷ pos 1 ∷ [])
  pub six_never : (v : List ℤ) → Falsifies second_sheet (pos 6 ∷ v) → ⊥
  pub first_never : (v : List ℤ) → Falsifies (sheet_of limit (0 ∷ 1 ∷ [])) v → ⊥
  pub limit_fails : Fails limit
  -- `new!` reads a NEW's own cell, all else what was before, and a shadow has a cell of its own
  pub raised_has : paths (steps_of raised) ≡ raised_path ∷ []
  pub raised_is : sheet_of raised raised_path ≡ raised_sheet
  pub raised_falsified : Falsifies raised_sheet (pos 0 ∷ pos 0 ∷ pos 1 ∷ pos 1 ∷ [])
  -- a NEW adds cells in the order of its list
  pub order_is_read : Tells order_text (read_unit (room_for 2 4 12) order_text 0) order
  pub order_has : paths (steps_of order) ≡ order_path ∷ []
  pub order_is : sheet_of order order_path ≡ order_sheet
  pub order_falsified : Falsifies order_sheet (pos 3 ∷ pos 0 ∷ pos 0 ∷ pos 0 ∷ pos 1 ∷ pos 1 ∷ pos 0 ∷ pos 0 ∷ [])
  -- a PROCLAIM ahead of a BREAK does not help a later REQUIRE: no path goes through a second BREAK, and a run starts at it
  pub proclaim_helps_not : Fails twice
  pub no_path_on : Path (steps_of twice) (0 ∷ 1 ∷ 2 ∷ 3 ∷ []) → ⊥
  -- an ASSIGN past its type ends a run, and so does a SPLIT with no true WHEN: neither fails
  pub assign_ends : Fails past → ⊥
  pub split_ends : Fails unchosen → ⊥
