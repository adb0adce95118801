use Rattle.std.proofs.Common.{◌≡◌, ℕ, ◌+◌, ◌-◌, ◌^◌, min, fold, slice_index, arith, rules, tests}
use Rattle.std.proofs.lemmas.Iterator.Consumers.{fold_from_yields_List}
use Rattle.flow.specs.Flows.{steps_in}
use Rattle.flow.specs.Numbers.{onward}
use Rattle.flow.specs.Counts.{limit}
use Rattle.flow.proofs.Ahead.{yields_onward}
use Rattle.flow.proofs.Counting.{clipped_fold}
use Rattle.flow.proofs.flow.Flow.sum.Goals as goal

pub returns : goal.returns
returns c =
    let u = steps_in c.args.self.now in
    let r = c.ahead.result in
    let counts = c.args.counts.now in
    let add = λ (s : ℕ) (j : ℕ). min (min (s + slice_index counts j) (2 ^ 32 - 1)) limit in
    let folded : c.fold.result ≡ fold add 0 (onward u c.args.from) = fold_from_yields_List _ add 0 c.fold.result c.fold.ensures.ran
    (yields_onward u c.args.from c.filter.result r c.ahead.ensures c.filter.ensures.source c.filter.ensures.closure (λ x b q k. search (rules, tests)))
    (λ a x b q e. search rules) in
    omega (arith, folded, clipped_fold counts (onward u c.args.from) 0 (omega arith))
