use Rattle.sheets.proofs.Kept.{is_a_sheet}
use Rattle.sheets.proofs.sheet.Sheet.rules_stand.Goals as goal

pub returns : goal.returns
returns c =
    let s = is_a_sheet c.args.self.now in
    record { filled = s.filled; kept = s.kept }
