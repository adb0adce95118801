-- Ranges of cells, as rows come that mention them.
use Rattle.std.specs.Prelude.{ℕ, true, List, pos, None, slice_index_or, slice_set}
use Rattle.terms.specs.declared.kind.Kind.TheVariants.{Number}
use Rattle.terms.specs.declared.row.Row.{Row}
use Rattle.terms.specs.declared.row.Row.TheVariants.{Constant, Mention, Operator as Applied}
use Rattle.reckoning.specs.declared.mark.Mark.{Mark}
use Rattle.sheets.specs.declared.cell.Cell.{Cell}
use Rattle.judges.specs.Tries.{range_of}

abbrev pub no_cell : Cell
no_cell = record { kind = Number; low = pos 0; high = pos 0; set_by = None }

abbrev pub opened : List Cell → Row ℕ → List Mark → List Mark
opened cs (Constant z) rs = rs
opened cs (Mention i) rs = slice_set rs i (range_of true (slice_index_or cs i no_cell))
opened cs (Applied o) rs = rs
