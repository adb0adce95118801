use Rattle.std.proofs.Common.{rules}
use Rattle.std.proofs.lemmas.List.Folds.{list_all-map}
use Rattle.sheets.specs.Sheets.{part_in}
use Rattle.sheets.specs.Tables.{is_part}
use Rattle.sheets.proofs.tables.Tables.keep_rules.Goals as goal

pub returns-then-are_bounded : goal.returns-then-are_bounded
returns-then-are_bounded c = let all = list_all-map (is_part c.args.self.now.cells.now) (part_in c.args.self.now.rows.now) c.args.self.now.parts.now in search rules

pub returns-else-are_bounded : goal.returns-else-are_bounded
returns-else-are_bounded c = let all = list_all-map (is_part c.args.self.now.cells.now) (part_in c.args.self.now.rows.now) c.args.self.now.parts.now in search rules
