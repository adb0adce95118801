use Rattle.std.proofs.Common.{◌∙◌, w64, SFits, rules}
use Rattle.std.proofs.lemmas.Int.{to_z-of_z}
use Rattle.std.proofs.lemmas.List.{take_rest}
use Rattle.sheets.specs.Valuations.{cell_in}
use Rattle.judges.proofs.Numbers.{read_is}
use Rattle.judges.proofs.number.read.Goals as goal

pub returns : goal.returns
returns c =
    let fits : SFits w64 c.newest.result = record { sfits = c.newest.type_inv } in
    read_is (cell_in c.args.valuation.now) c.args.row c.args.stack.now _ c.args.top c.min.result _ c.requires.some c.requires.inside (take_rest c.args.stack.now c.args.top) (search rules) (λ spans. to_z-of_z w64 c.newest.result fits ∙ c.newest.ensures spans)
