use Rattle.std.proofs.Common.{◌-◌, sym, refl, ap, ◌∙◌, arith, rules}
use Rattle.jcode.specs.Scopes.{scope_of, listed_in}
use Rattle.jcode.specs.Sentences.{listing_of}
use Rattle.jcode.specs.ReadStatements.{goes_on, read_more}
use Rattle.jcode.specs.Pieces.{got}
use Rattle.jcode.proofs.Chains.{tested, on, off, stopped}
use Rattle.jcode.proofs.Listings.{push_proper, push_count, room_left, gap_refused, unseen_refused, unseen_read, list_closed, list_unclosed}
use Rattle.jcode.proofs.cursor.Cursor.more.Goals as goal

pub loop-self-init : goal.loop-self-init
loop-self-init c =
    let e = c.push.ensures in
    record {
      same = refl;
      proper = e ∙ ap (λ l. listing_of (listed_in l)) (sym e);
      few = omega (arith, ap (λ l. l.count) e);
      whole = ap (λ l. read_more (scope_of c.args.scope) (8 - l.count) (listed_in l) c.args.self.now.bytes.now c.args.self.now.at) e;
    }

pub returns-in_err-gap : goal.returns-in_err-gap
returns-in_err-gap c =
    let n = tested goes_on c.loop-self.self c.loop-self.invariant.same c.loop-self-test.ensures in
    record {
      value = stopped c.from_residual.result _ c.from_residual.ensures.1 ∙ off (λ vs j. got (listing_of vs) j) (gap_refused (scope_of c.args.scope) c.loop-self.listing c.args.self.now.bytes.now _ _ c.loop-self.invariant.same c.loop-self.invariant.whole n c.in_err-gap.ensures);
      same = search rules;
    }

pub returns-in_err-variable : goal.returns-in_err-variable
returns-in_err-variable c =
    let n = tested goes_on c.loop-self.self c.loop-self.invariant.same c.loop-self-test.ensures in
    record {
      value = stopped c.from_residual-in_err-variable.result _ c.from_residual-in_err-variable.ensures.1 ∙ off (λ vs j. got (listing_of vs) j) (unseen_refused (scope_of c.args.scope) c.loop-self.listing c.args.self.now.bytes.now _ _ c.loop-self.invariant.same c.loop-self.invariant.whole n _ _ c.in_ok-gap.ensures c.in_err-variable.ensures);
      same = search rules;
    }

pub loop-self-smaller : goal.loop-self-smaller
loop-self-smaller c =
    let h = room_left (scope_of c.args.scope) c.loop-self.listing _ _ _ c.in_ok-variable.ensures in
    let k = push_count c.loop-self.listing c.in_ok-variable.variable h in
    omega (arith, ap (λ l. l.count) c.push-in-loop-self.ensures)

pub loop-self-preserved : goal.loop-self-preserved
loop-self-preserved c =
    let n = tested goes_on c.loop-self.self c.loop-self.invariant.same c.loop-self-test.ensures in
    let h = room_left (scope_of c.args.scope) c.loop-self.listing _ _ _ c.in_ok-variable.ensures in
    let k = push_count c.loop-self.listing c.in_ok-variable.variable h in
    let e = c.push-in-loop-self.ensures in
    record {
      same = search rules;
      proper = e ∙ push_proper c.loop-self.listing c.in_ok-variable.variable c.loop-self.invariant.proper h ∙ ap (λ l. listing_of (listed_in l)) (sym e);
      few = omega (arith, ap (λ l. l.count) e);
      whole = ap (λ l. read_more (scope_of c.args.scope) (8 - l.count) (listed_in l) c.args.self.now.bytes.now c.unseen.new.self.at) e
          ∙ unseen_read (scope_of c.args.scope) c.loop-self.listing c.args.self.now.bytes.now _ _ c.loop-self.invariant.same c.loop-self.invariant.whole n _ _ c.in_ok-gap.ensures c.in_ok-variable.variable c.loop-self.invariant.proper h c.in_ok-variable.ensures;
    }

pub returns-in_err-close : goal.returns-in_err-close
returns-in_err-close c =
    let n = tested goes_on c.loop-self.self c.loop-self.invariant.same c.loop-self-test.ensures in
    record {
      value = stopped c.from_residual-in_err-close.result _ c.from_residual-in_err-close.ensures.1 ∙ off (λ vs j. got (listing_of vs) j) (list_unclosed (scope_of c.args.scope) c.loop-self.listing c.args.self.now.bytes.now _ _ c.loop-self.invariant.same c.loop-self.invariant.whole n c.in_err-close.ensures);
      same = search rules;
    }

pub returns : goal.returns
returns c =
    let n = tested goes_on c.loop-self.self c.loop-self.invariant.same c.loop-self-test.ensures in
    record {
      value = on (λ vs j. got (listing_of vs) j) (list_closed (scope_of c.args.scope) c.loop-self.listing c.args.self.now.bytes.now _ _ c.loop-self.invariant.same c.loop-self.invariant.whole n c.in_ok-close.ensures) (ap (λ l. got l c.close.new.self.at) c.loop-self.invariant.proper);
      same = search rules;
    }
