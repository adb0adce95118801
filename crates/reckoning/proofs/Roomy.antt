-- A mark that is told covers the term's number, also where there was no room to read its rows.
use Rattle.std.proofs.Common.{ℕ, Bool, true, false, cond, leb, List, length, ℤ, Option}
use Rattle.terms.specs.declared.row.Row.{Row}
use Rattle.reckoning.specs.declared.mark.Mark.{Mark}
use Rattle.reckoning.specs.Reckonings.{Meaning, Lawful}
use Rattle.reckoning.specs.Evaluation.{mark_of, evaluated, Covering}
use Rattle.reckoning.proofs.Covering.{covering}

module _ {M : Type 0} (covers : Mark → ℤ → Type 0) (r : Meaning) (laws : Lawful covers r) (found : M → Option Mark) (rows : List (Row M)) where
  by_room : (b : Bool) → Covering covers found rows (cond b (mark_of r found rows) r.anything)
  by_room true at env k is known told = covering covers r laws found rows at env k is known told
  by_room false at env k is known told = laws.anything _

  pub evaluated_covers : (room : ℕ) → Covering covers found rows (evaluated r found rows room)
  evaluated_covers room = by_room (leb (length rows) room)
