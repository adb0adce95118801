-- The refusals by number, and the layer that each belongs to.
use Rattle.std.specs.Prelude.{ℕ}
use Rattle.jcode.specs.declared.refusal.Refusal.{Refusal}
use Rattle.jcode.specs.declared.refusal.Refusal.TheVariants.{Missing, Number, Limit, Table, Name, Tables, Order, Kind, Label, Circle, Range, Paths, Condition, SlipOut, Slip, Buffer, Valuation}
use Rattle.jcode.specs.declared.refusal.Layer.{Layer}
use Rattle.jcode.specs.declared.refusal.Layer.TheVariants.{Reading, Checking, Examination}

pub record Line : Type 0 where
  pub number : ℕ
  pub layer : Layer

abbrev line : ℕ → Layer → Line
line n l = record { number = n; layer = l }

abbrev pub line_of : Refusal → Line
line_of Missing = line 1 Reading
line_of Number = line 2 Reading
line_of Limit = line 3 Reading
line_of Table = line 4 Reading
line_of Name = line 5 Reading
line_of Tables = line 6 Checking
line_of Order = line 7 Checking
line_of Kind = line 8 Checking
line_of Label = line 9 Checking
line_of Circle = line 10 Checking
line_of Range = line 11 Checking
line_of Paths = line 12 Checking
line_of Condition = line 13 Examination
line_of SlipOut = line 14 Examination
line_of Slip = line 15 Examination
line_of Buffer = line 16 Examination
line_of Valuation = line 17 Examination

abbrev pub number_of : Refusal → ℕ
number_of r = (line_of r).number

abbrev pub layer_of : Refusal → Layer
layer_of r = (line_of r).layer
