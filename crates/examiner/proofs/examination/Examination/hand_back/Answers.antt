use Rattle.std.proofs.Common.{false, Ok, refl, rules}
use Rattle.checking.specs.CheckedUnits.{said}
use Rattle.examiner.specs.Histories.{handed_back}
use Rattle.examiner.proofs.Stepping.{reached_by, goes_by, not_taken_back, taken_back}
use Rattle.examiner.proofs.examination.Examination.hand_back.Goals as goal

pub returns-then-not-is_out : goal.returns-then-not-is_out
returns-then-not-is_out c =
    let e = c.args.self.now in
    goes_by _ e e refl refl (not_taken_back (said e.unit) e.tag e.tally c.args.slip _ (search rules) (search rules))

pub invariant_of-self : goal.invariant_of-self
invariant_of-self c =
    let e = c.args.self.now in
    let l = c.args.slip in
    record {
      few = e.few;
      left = λ x. cc;
      reached = reached_by (said e.unit) e.tag (handed_back l (Ok tt)) e.tally (record e.tally { out = false }) (taken_back (said e.unit) e.tag e.tally l (search rules)) e.reached;
    }

pub returns : goal.returns
returns c =
    let e = c.args.self.now in
    goes_by (handed_back c.args.slip (Ok tt)) e _ refl refl (taken_back (said e.unit) e.tag e.tally c.args.slip (search rules))
