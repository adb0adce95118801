use Rattle.std.proofs.Common.{◌∙◌}
use Rattle.sheets.proofs.Rooms.{complete}
use Rattle.sheets.proofs.term.is_complete.Goals as goal

pub returns : goal.returns
returns c = c.writes_term.ensures.term ∙ complete c.args.rows.now
