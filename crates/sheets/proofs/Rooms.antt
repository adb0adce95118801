-- The room that the parts of a sheet are read in.
use Rattle.std.proofs.Common.{◌≡◌, Bool, true, false, ◌&&◌, leb, List, refl, arith}
use Rattle.std.proofs.lemmas.Bool.{le-leb, and_right}
use Rattle.terms.specs.declared.row.Row.{Row}
use Rattle.terms.specs.Terms.{entries_for}
use Rattle.checking.specs.Nesting.{writes_term}
use Rattle.checking.proofs.Entries.{nested_entries}

module _ {M : Type 0} (rs : List (Row M)) where
  pub enough : writes_term 33 rs ≡ true → leb (entries_for rs) 66 ≡ true
  enough e = le-leb (entries_for rs) 66 (nested_entries 33 rs e)

  with_room : (room b : Bool) → (b ≡ true → room ≡ true) → (room && b) ≡ b
  with_room room true h = let e = h refl in grind arith
  with_room room false h = and_right room false refl

  pub complete : (leb (entries_for rs) 66 && writes_term 33 rs) ≡ writes_term 33 rs
  complete = with_room (leb (entries_for rs) 66) (writes_term 33 rs) enough
