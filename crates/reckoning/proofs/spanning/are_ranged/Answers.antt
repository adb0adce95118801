use Rattle.std.proofs.Common.{◌≡◌, ◌-◌, true, length, drop, sym, ◌∙◌, subst, rules}
use Rattle.std.proofs.lemmas.List.{length_push}
use Rattle.std.proofs.lemmas.Iterator.Adapters.{YieldsList-from_rev_slice}
use Rattle.std.proofs.lemmas.Iterator.Consumers.{YieldsList-turn, YieldsList-end}
use Rattle.terms.proofs.Stacking.{Held}
use Rattle.reckoning.specs.Evaluation.{marks_by}
use Rattle.reckoning.specs.Ranges.{ranges}
use Rattle.reckoning.specs.Spanning.{ranged_rows}
use Rattle.reckoning.proofs.Spanned.{went_on, stopped, all_ranged}
use Rattle.reckoning.proofs.spanning.are_ranged.Goals as goal

pub returns-then-not-is_ok_and : goal.returns-then-not-is_ok_and
returns-then-not-is_ok_and g c =
    let rows = c.args.rows.now in
    let turn = YieldsList-turn (YieldsList-from_rev_slice rows (search rules)) c.loop-row.yielded _ c.loop-row.yielded_by _ _ c.in-Some.row c.in-Some.is c.next.ensures.steps in
    let stop = stopped (g.N.Mentions.found c.args.mentions.now) rows c.new-stack.result.entries.now (length c.loop-row.yielded) c.in-Some.row.now _ _ _ _ turn c.loop-row.invariant.held c.read.result c.is_ok_and.result c.read.ensures.read (search rules) c.if-not-is_ok_and.true in
    record { result = search rules; others = search rules }

pub loop-row-preserved : goal.loop-row-preserved
loop-row-preserved g c =
    let found = g.N.Mentions.found c.args.mentions.now in
    let rows = c.args.rows.now in
    let turn = YieldsList-turn (YieldsList-from_rev_slice rows (search rules)) c.loop-row.yielded _ c.loop-row.yielded_by _ _ c.in-Some.row c.in-Some.is c.next.ensures.steps in
    let on = went_on found rows c.new-stack.result.entries.now (length c.loop-row.yielded) c.in-Some.row.now _ _ _ _ turn c.loop-row.invariant.held c.read.result c.is_ok_and.result c.read.ensures.read (search rules) c.if-not-is_ok_and.false in
    let more = sym (length_push c.loop-row.yielded c.in-Some.row) in
    record {
      named = c.read.ensures.same ∙ c.loop-row.invariant.named;
      held = subst (λ n. Held (marks_by ranges found) rows c.new-stack.result.entries.now n c.read.new.self.entries.now c.read.new.self.top) more on.1;
      ranged = subst (λ n. ranged_rows found (drop (length rows - n) rows) ≡ true) more (on.0 ∙ c.loop-row.invariant.ranged);
    }

pub returns : goal.returns
returns g c =
    let rows = c.args.rows.now in
    let end = YieldsList-end (YieldsList-from_rev_slice rows (search rules)) c.loop-row.yielded _ c.loop-row.yielded_by _ _ c.in-None.is c.next.ensures.steps in
    let all = all_ranged (g.N.Mentions.found c.args.mentions.now) rows c.new-stack.result.entries.now (length c.loop-row.yielded) c.loop-row.stack.entries.now c.loop-row.stack.top end.1 c.loop-row.invariant.held c.loop-row.invariant.ranged in
    record { result = search rules; others = search rules }
