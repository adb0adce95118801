use Rattle.std.proofs.Common.{rules}
use Rattle.examiner.proofs.Stepping.{few_paths}
use Rattle.examiner.proofs.examination.Examination.settled.Goals as goal

pub overflow_add-result : goal.overflow_add-result
overflow_add-result c =
    let few = c.args.self.now.few in
    let paths = few_paths c.args.self.now.unit in
    search rules

pub overflow_add-result-2 : goal.overflow_add-result-2
overflow_add-result-2 c =
    let few = c.args.self.now.few in
    let paths = few_paths c.args.self.now.unit in
    search rules
