use Rattle.std.proofs.Common.{true, Ok, Err, refl, rules}
use Rattle.checking.specs.CheckedUnits.{said}
use Rattle.examiner.specs.declared.slip.Slip.{Slip}
use Rattle.examiner.specs.Histories.{took}
use Rattle.examiner.specs.Tallies.{total}
use Rattle.examiner.proofs.Stepping.{reached_by, goes_by, none_left, one_out, handed_out}
use Rattle.examiner.proofs.examination.Examination.take.Goals as goal

pub returns-then-paths-number : goal.returns-then-paths-number
returns-then-paths-number c =
    let e = c.args.self.now in
    goes_by (took (Err c.into.result)) e e refl refl (none_left (said e.unit) e.tag e.tally c.into.result (search rules) (search rules))

pub returns-then-self : goal.returns-then-self
returns-then-self c =
    let e = c.args.self.now in
    goes_by (took (Err c.into-then-self.result)) e e refl refl (one_out (said e.unit) e.tag e.tally c.into-then-self.result (search rules) (search rules) (search rules))

pub invariant_of-self : goal.invariant_of-self
invariant_of-self c =
    let e = c.args.self.now in
    let l : Slip = record { tag = e.tag; number = total e.tally } in
    record {
      few = e.few;
      left = λ _. search rules;
      reached = reached_by (said e.unit) e.tag (took (Ok l)) e.tally (record e.tally { out = true }) (handed_out (said e.unit) e.tag e.tally l refl (search rules) (search rules)) e.reached;
    }

pub returns : goal.returns
returns c =
    let e = c.args.self.now in
    goes_by (took (Ok c.new.result)) e _ refl refl (handed_out (said e.unit) e.tag e.tally c.new.result (search rules) (search rules) (search rules))
