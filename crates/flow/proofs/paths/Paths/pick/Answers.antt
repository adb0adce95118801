use Rattle.std.proofs.Common.{◌<◌, [], ◌∷◌, length, length-append, arith, rules, tests}
use Rattle.flow.specs.Flows.{steps_in}
use Rattle.flow.specs.Counts.{limit}
use Rattle.flow.proofs.Ahead.{onward_turn, onward_end}
use Rattle.flow.proofs.Leading.{onward_inside}
use Rattle.flow.proofs.Descending.{found, passed, none_left}
use Rattle.flow.proofs.paths.Paths.pick.Goals as goal

pub offset_bounds-self-j : goal.offset_bounds-self-j
offset_bounds-self-j c =
    let u = steps_in c.args.self.now.flow in
    let turn = onward_turn u c.args.from _ _ c.loop-j.yielded _ c.loop-j.yielded_by c.next.result _ c.next.ensures.steps c.into_iter-j-iterator.ensures.into_iter_gives c.ahead.result c.ahead.ensures c.filter-j-items.ensures.source c.filter-j-items.ensures.closure (λ x b q k. search (rules, tests)) c.in-Some.j c.in-Some.is in
    let inside = onward_inside u c.args.from (length c.loop-j.yielded) c.in-Some.j turn.0 turn.1 in
    search rules

pub bounds-self-j : goal.bounds-self-j
bounds-self-j c =
    let u = steps_in c.args.self.now.flow in
    let turn = onward_turn u c.args.from _ _ c.loop-j.yielded _ c.loop-j.yielded_by c.next.result _ c.next.ensures.steps c.into_iter-j-iterator.ensures.into_iter_gives c.ahead.result c.ahead.ensures c.filter-j-items.ensures.source c.filter-j-items.ensures.closure (λ x b q k. search (rules, tests)) c.in-Some.j c.in-Some.is in
    let inside = onward_inside u c.args.from (length c.loop-j.yielded) c.in-Some.j turn.0 turn.1 in
    search rules

pub returns-then-left-count : goal.returns-then-left-count
returns-then-left-count c =
    let u = steps_in c.args.self.now.flow in
    let turn = onward_turn u c.args.from _ _ c.loop-j.yielded _ c.loop-j.yielded_by c.next.result _ c.next.ensures.steps c.into_iter-j-iterator.ensures.into_iter_gives c.ahead.result c.ahead.ensures c.filter-j-items.ensures.source c.filter-j-items.ensures.closure (λ x b q k. search (rules, tests)) c.in-Some.j c.in-Some.is in
    let small : c.args.number < limit = omega arith in
    found u c.args.self.now.counts c.args.from c.args.number (length c.loop-j.yielded) c.loop-j.left c.in-Some.j c.args.self.now.counted small c.loop-j.invariant turn.0 turn.1 c.if-left-count.true

pub loop-j-preserved : goal.loop-j-preserved
loop-j-preserved c =
    let u = steps_in c.args.self.now.flow in
    let turn = onward_turn u c.args.from _ _ c.loop-j.yielded _ c.loop-j.yielded_by c.next.result _ c.next.ensures.steps c.into_iter-j-iterator.ensures.into_iter_gives c.ahead.result c.ahead.ensures c.filter-j-items.ensures.source c.filter-j-items.ensures.closure (λ x b q k. search (rules, tests)) c.in-Some.j c.in-Some.is in
    let small : c.args.number < limit = omega arith in
    rw (length-append c.loop-j.yielded (c.in-Some.j ∷ [])) (passed u c.args.self.now.counts c.args.from c.args.number (length c.loop-j.yielded) c.loop-j.left c.in-Some.j c.args.self.now.counted small c.loop-j.invariant turn.0 turn.1 c.if-left-count.false)

pub returns : goal.returns
returns c =
    let u = steps_in c.args.self.now.flow in
    let whole = onward_end u c.args.from _ _ c.loop-j.yielded _ c.loop-j.yielded_by c.next.result _ c.next.ensures.steps c.into_iter-j-iterator.ensures.into_iter_gives c.ahead.result c.ahead.ensures c.filter-j-items.ensures.source c.filter-j-items.ensures.closure (λ x b q k. search (rules, tests)) c.in-None.is in
    none_left u c.args.from c.args.number (length c.loop-j.yielded) c.loop-j.left whole c.loop-j.invariant
