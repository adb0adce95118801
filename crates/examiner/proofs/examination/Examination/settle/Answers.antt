use Rattle.std.proofs.Common.{refl, ap, arith, rules}
use Rattle.checking.specs.CheckedUnits.{said}
use Rattle.sheets.specs.Settling.{on}
use Rattle.examiner.specs.declared.tally.Tally.{Tally}
use Rattle.examiner.specs.Tallies.{total, IsDue}
use Rattle.examiner.proofs.Stepping.{few_paths, reached_by, goes_by, one_more, strange, accepted_as, short}
use Rattle.examiner.proofs.examination.Examination.settle.Goals as goal

pub returns-then-not-is_out-clause-next : goal.returns-then-not-is_out-clause-next
returns-then-not-is_out-clause-next g c =
    let e = c.args.self.now in
    let d = on c.args.desk.now in
    goes_by _ e e refl refl (strange (said e.unit) e.tag e.tally c.args.slip (g.J.Judge.meaning c.args.judge.now) d d _ (search rules) (search rules) refl)

pub count-requires : goal.count-requires
count-requires g c =
    let e = c.args.self.now in
    let due : IsDue e.tag e.tally c.args.slip = search rules in
    omega (arith, e.left due.is_out, few_paths e.unit)

pub invariant_of-self : goal.invariant_of-self
invariant_of-self g c =
    let e = c.args.self.now in
    let due : IsDue e.tag e.tally c.args.slip = search rules in
    record {
      few = omega (arith, e.left due.is_out, ap total c.count.ensures, one_more e.tally c.number-number.result c.in-Ok.outcome);
      left = λ x. let none = ap (λ (s : Tally). s.out) c.count.ensures in cc;
      reached = reached_by _ _ _ _ _ (accepted_as (said e.unit) e.tag e.tally c.args.slip (g.J.Judge.meaning c.args.judge.now) (on c.args.desk.now) (on c.settle.new.desk) c.in-Ok.outcome c.number-number.result c.count.new.self c.number-number.ensures c.count.ensures (g.met.J.Judge.sound c.args.judge.now) due c.in-Ok.ensures.settles) e.reached;
    }

pub returns-in-Ok-clause-next : goal.returns-in-Ok-clause-next
returns-in-Ok-clause-next g c =
    let e = c.args.self.now in
    goes_by _ e _ refl refl (accepted_as (said e.unit) e.tag e.tally c.args.slip (g.J.Judge.meaning c.args.judge.now) (on c.args.desk.now) (on c.settle.new.desk) c.in-Ok.outcome c.number-number.result c.count.new.self c.number-number.ensures c.count.ensures (g.met.J.Judge.sound c.args.judge.now) (search rules) c.in-Ok.ensures.settles)

pub returns-in-Err-clause-next : goal.returns-in-Err-clause-next
returns-in-Err-clause-next g c =
    let e = c.args.self.now in
    let due : IsDue e.tag e.tally c.args.slip = search rules in
    goes_by _ e e refl refl (short (said e.unit) e.tag e.tally c.args.slip (g.J.Judge.meaning c.args.judge.now) (on c.args.desk.now) (on c.settle.new.desk) c.in-Err.fault _ c.number-number.result c.number-number.ensures refl due (e.left due.is_out) c.in-Err.ensures.settles)
