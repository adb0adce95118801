use Rattle.std.proofs.Common.{◌≡◌, drop}
use Rattle.sheets.specs.Places.{says}
use Rattle.judges.specs.Passes.{pass_from}
use Rattle.judges.proofs.pass.Pass.settle.Given as goal

abbrev pub invariant-loop-place : goal.invariant-loop-place
invariant-loop-place g l =
    let r = g.R.Reckoning.meaning l.self.reckoning in
    pass_from r (says l.sheet) l.place (drop l.place (says l.sheet).parts) l.marks ≡ pass_from r (says l.sheet) 0 (says l.sheet).parts l.initial.marks
