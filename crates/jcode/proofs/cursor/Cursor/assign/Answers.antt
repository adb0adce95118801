use Rattle.std.proofs.Common.{refl, rules}
use Rattle.jcode.specs.Sentences.{Assign}
use Rattle.jcode.proofs.Chains.{reads_after, reads_before, reads_pair, reads_giving, refuses, refuses_before, refuses_pair}
use Rattle.jcode.proofs.Laying.{term_read, term_unread, reread, room_kept, after_shadow, assign_laid, assign_held, lays, lays_refused}
use Rattle.jcode.proofs.cursor.Cursor.assign.Goals as goal

pub returns-in_err-shadow : goal.returns-in_err-shadow
returns-in_err-shadow c =
    lays_refused c.in_err-shadow.ensures.lent c.from_residual-in_err-shadow.result c.from_residual-in_err-shadow.ensures.1
    (refuses _ (reads_after c.in_ok-gap.ensures (refuses_pair _ c.in_ok-variable.ensures (reads_after c.may_gap.ensures (refuses _ (term_unread c.in_err-shadow.ensures))))))

pub returns-in_err-value : goal.returns-in_err-value
returns-in_err-value c =
    let t = term_read c.in_ok-shadow.ensures in
    let h = reread refl (room_kept c.args.rows.now c.expression.new.rows t.0 t.3) (after_shadow c.args.rows.now c.expression.new.rows t.0 t.3) (term_unread c.in_err-value.ensures) in
    lays_refused (search rules) c.from_residual-in_err-value.result c.from_residual-in_err-value.ensures.1
    (refuses _ (reads_after c.in_ok-gap.ensures (refuses_pair _ c.in_ok-variable.ensures (reads_after c.may_gap.ensures (refuses_pair _ t.1 (reads_after c.may_gap-2.ensures (refuses _ h)))))))

pub returns-in_err-end : goal.returns-in_err-end
returns-in_err-end c =
    let t = term_read c.in_ok-shadow.ensures in
    let u = term_read c.in_ok-value.ensures in
    let h = reread refl (room_kept c.args.rows.now c.expression.new.rows t.0 t.3) (after_shadow c.args.rows.now c.expression.new.rows t.0 t.3) u.1 in
    lays_refused (search rules) c.from_residual-in_err-end.result c.from_residual-in_err-end.ensures.1
    (refuses _ (reads_after c.in_ok-gap.ensures (refuses_pair _ c.in_ok-variable.ensures (reads_after c.may_gap.ensures (refuses_pair _ t.1 (reads_after c.may_gap-2.ensures (refuses_before h c.in_err-end.ensures)))))))

pub returns : goal.returns
returns c =
    let t = term_read c.in_ok-shadow.ensures in
    let u = term_read c.in_ok-value.ensures in
    let h = reread refl (room_kept c.args.rows.now c.expression.new.rows t.0 t.3) (after_shadow c.args.rows.now c.expression.new.rows t.0 t.3) u.1 in
    lays (search rules) (Assign c.in_ok-variable.variable t.0 u.0)
    (reads_giving (λ p. Assign p.0 p.1.0 p.1.1) (reads_after c.in_ok-gap.ensures (reads_pair _ c.in_ok-variable.ensures (reads_after c.may_gap.ensures (reads_pair _ t.1 (reads_after c.may_gap-2.ensures (reads_before h c.in_ok-end.ensures)))))))
    (assign_laid c.args.rows.now c.expression.new.rows t.0 t.3 c.in_ok-variable.variable u.0 t.2 u.2)
    (assign_held c.args.rows.now c.expression.new.rows t.0 t.3 u.0 c.expression-2.new.rows u.3)
