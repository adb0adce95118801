use Rattle.std.proofs.Common.{◌*◌, take, ap, ◌∙◌, arith}
use Rattle.sheets.proofs.Numbered.{take_places}
use Rattle.sheets.proofs.current.Current.start.Goals as goal

pub returns-clause-cells : goal.returns-clause-cells
returns-clause-cells c = let n = 2 * c.args.variables in ap (take n) c.places.ensures ∙ take_places 0 n 64 (omega (arith, c.requires))
