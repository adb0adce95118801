-- A path's sheet by the records of a unit's tables: texts do not matter.
use Rattle.std.proofs.Common.{◌≡◌, ℕ, List, map, get_or, refl, ap, ◌∙◌}
use Rattle.std.proofs.Math.ListN.{get_or-map}
use Rattle.jcode.specs.declared.span.Span.{Span}
use Rattle.jcode.specs.declared.statement.Statement.TheVariants as stands
use Rattle.jcode.specs.Bytes.{slice}
use Rattle.jcode.specs.ReadUnits.{Tables}
use Rattle.jcode.specs.Sentences.{Sentence, Hang}
use Rattle.jcode.specs.Units.{JUnit, retold, sentence_in, unit_of}
use Rattle.sheets.specs.Runs.{sentence, listed}
use Rattle.sheets.specs.PathSheets.{Progress, parts_of, cells_of}

module _ {S T : Type 0} (f : S → T) where
  pub text_listed : (st : Sentence S) → listed (retold f st) ≡ listed st
  text_listed Hang = refl
  text_listed st = refl

  pub text_parts : (w : Progress) (st : Sentence S) → parts_of w (retold f st) ≡ parts_of w st
  text_parts w Hang = refl
  text_parts w st = refl

  pub text_cells : (u : JUnit) (w : Progress) (st : Sentence S) → cells_of u w (retold f st) ≡ cells_of u w st
  text_cells u w Hang = refl
  text_cells u w st = refl

-- the statement at a place by its record
pub sentence_of : (bytes : List ℕ) (name : Span) (t : Tables) (i : ℕ) → sentence (unit_of bytes name t) i ≡ retold (slice bytes) (sentence_in t.rows (get_or t.statements i stands.Hang))
sentence_of bytes name t i =
    get_or-map (retold (slice bytes)) (map (sentence_in t.rows) t.statements) i Hang ∙ ap (retold (slice bytes)) (get_or-map (sentence_in t.rows) t.statements i stands.Hang)
