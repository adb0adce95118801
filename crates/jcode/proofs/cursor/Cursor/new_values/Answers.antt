use Rattle.std.proofs.Common.{refl, rules}
use Rattle.jcode.specs.declared.statement.Statement.TheVariants as stands
use Rattle.jcode.specs.Scopes.{scope_of}
use Rattle.jcode.specs.Sentences.{New}
use Rattle.jcode.proofs.Chains.{reads_after, reads_pair, reads_giving, refuses, refuses_pair}
use Rattle.jcode.proofs.Laying.{term_read, term_unread, listing_read, reread, within_listing, lays, lays_refused}
use Rattle.jcode.proofs.cursor.Cursor.new_values.Goals as goal

pub returns-in_err-condition : goal.returns-in_err-condition
returns-in_err-condition c =
    let l = listing_read (scope_of c.args.scope) c.in_ok-listing.ensures in
    let h = reread (within_listing c.args.scope _ l.0 l.2) refl refl (term_unread c.in_err-condition.ensures) in
    lays_refused (search rules) c.from_residual-in_err-condition.result c.from_residual-in_err-condition.ensures.1
    (refuses _ (reads_after c.in_ok-gap.ensures (refuses_pair _ l.1 (reads_after c.may_gap.ensures (refuses _ h)))))

pub returns-in_err-text : goal.returns-in_err-text
returns-in_err-text c =
    let l = listing_read (scope_of c.args.scope) c.in_ok-listing.ensures in
    let t = term_read c.in_ok-condition.ensures in
    let h = reread (within_listing c.args.scope _ l.0 l.2) refl refl t.1 in
    lays_refused (search rules) c.from_residual-in_err-text.result c.from_residual-in_err-text.ensures.1
    (refuses _ (reads_after c.in_ok-gap.ensures (refuses_pair _ l.1 (reads_after c.may_gap.ensures (refuses_pair _ h c.in_err-text.ensures)))))

pub returns : goal.returns
returns c =
    let l = listing_read (scope_of c.args.scope) c.in_ok-listing.ensures in
    let t = term_read c.in_ok-condition.ensures in
    let h = reread (within_listing c.args.scope _ l.0 l.2) refl refl t.1 in
    lays (search rules) (New l.0 t.0 c.in_ok-text.text)
    (reads_giving (λ p. New p.0 p.1.0 p.1.1) (reads_after c.in_ok-gap.ensures (reads_pair _ l.1 (reads_after c.may_gap.ensures (reads_pair _ h c.in_ok-text.ensures)))))
    (λ k. stands.New (l.2 k) (t.2 k) c.in_ok-text.text)
    t.3
