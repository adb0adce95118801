-- The current cells, as a list that is laid out as a store is.
use Rattle.std.specs.Prelude.{ℕ, List, take}
use Rattle.sheets.specs.declared.current.Current.{Current}

abbrev pub current_in : Current → List ℕ
current_in c = take c.count c.cells
