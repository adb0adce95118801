use Rattle.std.proofs.Common.{◌≡◌, ◌<◌, ◌≤◌, false, length, sym, ap, ◌∙◌, subst, arith, rules}
use Rattle.sheets.specs.Places.{cells_in, says}
use Rattle.sheets.specs.Valuations.{Within}
use Rattle.sheets.proofs.Kept.{sheet_keeps}
use Rattle.judges.specs.Keeping.{within_length}
use Rattle.judges.specs.Tries.{ranges, is_refuted}
use Rattle.judges.specs.Walks.{turning, Turned}
use Rattle.judges.proofs.Opening.{length-ranges}
use Rattle.judges.proofs.Finding.{Going, to_go, found, proceeds}
use Rattle.judges.proofs.tries.find.Goals as goal
use Rattle.judges.proofs.tries.find.Goals.{After-turn-next, else-ended-cells-via-then-ended-cells+else-is_refuted, else-ended-cells-via-else-ended-cells}

pub returns-then-is_refuted-clause-found : goal.returns-then-is_refuted-clause-found
returns-then-is_refuted-clause-found c =
    let s = says c.args.sheet.now in
    let going = subst (λ n. Going s n c.loop-next.valuation) c.in-Some.is c.loop-next.invariant.going in
    λ _. found s (sheet_keeps c.args.sheet.now) c.loop-next.valuation c.follow-ended.new.valuation c.in-Some.from c.follow-ended.result going c.follow-ended.ensures.followed c.follow-ended.ensures.within
    (search rules) (search rules)

pub turn-next-requires-clause-ended : goal.turn-next-requires-clause-ended
turn-next-requires-clause-ended c =
    let s = says c.args.sheet.now in
    let reached : c.follow-ended.result ≤ length s.cells = c.follow-ended.ensures.followed.reached in
    omega (arith, reached, within_length s.cells c.follow-ended.new.valuation c.follow-ended.ensures.within)

pub turn-next-requires-clause-ranges : goal.turn-next-requires-clause-ranges
turn-next-requires-clause-ranges c =
    let s = says c.args.sheet.now in
    ap length c.requires.ranges ∙ length-ranges s.parts 0 s.cells ∙ sym (within_length s.cells c.follow-ended.new.valuation c.follow-ended.ensures.within)

-- the try that ended is done, and another is next
next_try : (c : After-turn-next) → Within (cells_in c.args.sheet.now) c.turn-next.new.valuation × Going (says c.args.sheet.now) c.turn-next.result c.turn-next.new.valuation
    × (to_go (says c.args.sheet.now) c.turn-next.result c.turn-next.new.valuation < to_go (says c.args.sheet.now) c.loop-next.next c.loop-next.valuation)
next_try c =
    let s = says c.args.sheet.now in
    let w = c.follow-ended.new.valuation in
    let going = subst (λ n. Going s n c.loop-next.valuation) c.in-Some.is c.loop-next.invariant.going in
    let fails : c.follow-ended.result ≡ length s.cells → is_refuted w s.parts ≡ false =
    elim c.else-ended-cells.branch [
      | else-ended-cells-via-then-ended-cells+else-is_refuted t ↦ λ _. sym t.is_refuted.ensures ∙ t.if-is_refuted.false
      | else-ended-cells-via-else-ended-cells t ↦ λ e. absurd (t.if-ended-cells.false (e ∙ sym (ap length c.cells.ensures)))
    ] in
    let turned : Turned (turning (ranges s.parts 0 s.cells) w c.follow-ended.result) w c.turn-next.result c.turn-next.new.valuation = subst (λ rs. Turned (turning rs w c.follow-ended.result) w c.turn-next.result c.turn-next.new.valuation) c.requires.ranges c.turn-next.ensures in
    let all = proceeds s (sheet_keeps c.args.sheet.now) c.loop-next.valuation w c.in-Some.from c.follow-ended.result going c.follow-ended.ensures.followed c.follow-ended.ensures.within fails c.turn-next.result c.turn-next.new.valuation turned in
    (all.0, all.1, subst (λ n. to_go s c.turn-next.result c.turn-next.new.valuation < to_go s n c.loop-next.valuation) (sym c.in-Some.is) all.2)

pub loop-next-smaller : goal.loop-next-smaller
loop-next-smaller c = (next_try (goal.at.loop-next-smaller c).After-turn-next).2

pub loop-next-preserved : goal.loop-next-preserved
loop-next-preserved c = let t = next_try (goal.at.loop-next-preserved c).After-turn-next in record { within = t.0; going = t.1 }
