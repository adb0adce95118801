use Rattle.std.proofs.Common.{◌<◌, length, ◌∙◌, rules}
use Rattle.std.proofs.lemmas.Bool.{lt-leb}
use Rattle.sheets.proofs.Replaying.{all_within, too_short}
use Rattle.sheets.proofs.replay.are_within.Goals as goal

pub returns-then-cells-valuation : goal.returns-then-cells-valuation
returns-then-cells-valuation c = c.all_allow.ensures ∙ all_within c.args.cells.now c.args.valuation.now (search rules)

pub returns-else-cells-valuation : goal.returns-else-cells-valuation
returns-else-cells-valuation c = let few : length c.args.valuation.now < length c.args.cells.now = search rules in lt-leb _ _ few ∙ too_short c.args.cells.now c.args.valuation.now few
