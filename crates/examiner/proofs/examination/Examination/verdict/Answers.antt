use Rattle.std.proofs.Common.{refl, rules}
use Rattle.checking.specs.CheckedUnits.{said}
use Rattle.examiner.specs.declared.verdict.Verdict.{Verdict}
use Rattle.examiner.specs.Histories.{told}
use Rattle.examiner.specs.Lives.{Goes}
use Rattle.examiner.proofs.Promising.{tells, promised}
use Rattle.examiner.proofs.Stepping.{goes_by}
use Rattle.examiner.proofs.examination.Examination.verdict.Goals as goal

pub returns : goal.returns
returns c =
    let e = c.args.self.now in
    let v : Verdict = record { passed = e.tally.passed; failed = e.tally.failed; «open» = e.tally.open; judgement = c.judgement.result } in
    let next : Goes (told v) e e = goes_by (told v) e e refl refl (tells (said e.unit) e.tag e.tally v (search rules)) in
    record { next = next; promised = promised e v next }
