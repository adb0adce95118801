use Rattle.std.proofs.Common.{◌≡◌, length, drop, Some}
use Rattle.sheets.specs.Tables.{fills}
use Rattle.sheets.proofs.tables.Tables.are_filled.Given as goal

abbrev pub invariant-loop-part : goal.invariant-loop-part
invariant-loop-part l = fills (length l.self.rows.now) (Some l.used) (drop l.part-index l.self.parts.now) ≡ fills (length l.self.rows.now) (Some 0) l.self.parts.now
