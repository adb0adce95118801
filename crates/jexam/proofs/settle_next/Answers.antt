use Rattle.sheets.specs.Settling.{on}
use Rattle.examiner.proofs.Owing.{never_owed}
use Rattle.jexam.proofs.settle_next.Goals as goal

pub unreachable-requires : goal.unreachable-requires
unreachable-requires g c =
    never_owed c.args.examination.now c.take.new.self c.settle.new.self c.hand_back.new.self c.in_ok-slip.slip (g.J.Judge.meaning c.args.judge.now) (on c.args.desk.now) (on c.settle.new.desk) c.in-Err.field-0 c.in-Err-hand_back._owed
    c.in_ok-slip.ensures c.in-Err.ensures.next c.in-Err-hand_back.ensures
