use Rattle.std.proofs.Common.{◌<◌, length, sym, ◌∙◌, subst, rules}
use Rattle.std.proofs.lemmas.List.{length_push}
use Rattle.std.proofs.lemmas.Iterator.Adapters.{YieldsList-from_rev_slice}
use Rattle.std.proofs.lemmas.Iterator.Consumers.{YieldsList-turn, YieldsList-end}
use Rattle.terms.specs.Terms.{entries_for}
use Rattle.terms.proofs.Stacking.{Held, row_held, one_more, no_more, too_few, folded}
use Rattle.terms.proofs.fold.fold.Goals as goal

pub returns-in_err-ok : goal.returns-in_err-ok
returns-in_err-ok g c =
    let a = g.I.Interpretation.algebra c.args.interpretation.now in
    let rows = c.args.rows.now in
    let turn = YieldsList-turn (YieldsList-from_rev_slice rows (search rules)) c.loop-row.yielded _ c.loop-row.yielded_by _ _ c.in-Some.row c.in-Some.is c.next.ensures.steps in
    let read = row_held a rows c.new-stack.result.entries.now _ _ _ _ _ _ _ turn c.loop-row.invariant.held c.read.ensures.read in
    let few = no_more a rows c.new-stack.result.entries.now (length c.loop-row.yielded) c.read.new.self.entries.now c.read.new.self.top c.read.result read (sym c.ok.ensures.value ∙ c.in_err-ok.was) in
    too_few a rows c.args.entries.now c.from_residual.result _ c.from_residual.ensures (subst (λ entries. length entries < entries_for rows) c.new-stack.ensures.entries few)

pub loop-row-preserved : goal.loop-row-preserved
loop-row-preserved g c =
    let a = g.I.Interpretation.algebra c.args.interpretation.now in
    let rows = c.args.rows.now in
    let turn = YieldsList-turn (YieldsList-from_rev_slice rows (search rules)) c.loop-row.yielded _ c.loop-row.yielded_by _ _ c.in-Some.row c.in-Some.is c.next.ensures.steps in
    let read = row_held a rows c.new-stack.result.entries.now _ _ _ _ _ _ _ turn c.loop-row.invariant.held c.read.ensures.read in
    let held = one_more a rows c.new-stack.result.entries.now (length c.loop-row.yielded) c.read.new.self.entries.now c.read.new.self.top c.read.result c.in_ok-ok.field-0 read (sym c.ok.ensures.value ∙ c.in_ok-ok.was) in
    record {
      named = c.read.ensures.same ∙ c.loop-row.invariant.named;
      held = subst (λ n. Held a rows c.new-stack.result.entries.now n c.read.new.self.entries.now c.read.new.self.top) (sym (length_push c.loop-row.yielded c.in-Some.row)) held;
    }

pub returns : goal.returns
returns g c =
    let a = g.I.Interpretation.algebra c.args.interpretation.now in
    let rows = c.args.rows.now in
    let end = YieldsList-end (YieldsList-from_rev_slice rows (search rules)) c.loop-row.yielded _ c.loop-row.yielded_by _ _ c.in-None.is c.next.ensures.steps in
    let all = folded a rows c.new-stack.result.entries.now (length c.loop-row.yielded) c.loop-row.stack.entries.now c.loop-row.stack.top end.1 c.loop-row.invariant.held in
    (search rules, search rules, search rules, search rules)
