use Rattle.std.proofs.Common.{◌≡◌, ◌-◌, length, sym, ap, ◌∙◌, subst, arith}
use Rattle.std.specs.Bool.{Decides}
use Rattle.std.proofs.lemmas.List.{length-map}
use Rattle.std.proofs.Common.{below_more}
use Rattle.sheets.specs.Places.{rows_in, parts_in, says}
use Rattle.sheets.specs.Sheets.{part_in}
use Rattle.sheets.specs.Valuations.{GoalAloneFalse}
use Rattle.sheets.specs.Replays.{numbers_in}
use Rattle.sheets.proofs.Kept.{sheet_keeps}
use Rattle.sheets.proofs.Replaying.{part_untrue, goal_told, true_told}
use Rattle.sheets.proofs.replay.Valued.is_falsified.Goals as goal

pub returns-then-ne : goal.returns-then-ne
returns-then-ne c =
    let s = c.args.self.now.sheet in
    let last : c.saturating_sub-goal.result ≡ length (says s).parts - 1 = omega (arith, ap length c.parts.ensures, length-map (parts_in s) (part_in (rows_in s)), c.saturating_sub-goal.ensures) in
    part_untrue (numbers_in c.args.self.now.points.now) (says s).parts c.saturating_sub-goal.result (sheet_keeps s).some last c.loop-place.place c.loop-place-test.true c.number.result c.number.ensures (sym c.ne.ensures ∙ c.if-ne.true)

pub loop-place-preserved : goal.loop-place-preserved
loop-place-preserved c = below_more _ _ c.loop-place.invariant (true_told c.number.result _ _ c.number.ensures (sym c.ne.ensures ∙ c.if-ne.false))

pub returns : goal.returns
returns c =
    let s = c.args.self.now.sheet in
    let v = numbers_in c.args.self.now.points.now in
    let last : c.saturating_sub-goal.result ≡ length (says s).parts - 1 = omega (arith, ap length c.parts.ensures, length-map (parts_in s) (part_in (rows_in s)), c.saturating_sub-goal.ensures) in
    subst (λ b. Decides b (GoalAloneFalse v (says s).parts)) (sym c.eq.ensures) (goal_told v (says s).parts c.saturating_sub-goal.result (sheet_keeps s).some last (λ k l. c.loop-place.invariant k (omega (arith, l, c.loop-place-test.false))) c.number-2.result c.number-2.ensures)
