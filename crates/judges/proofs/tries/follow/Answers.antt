use Rattle.std.proofs.Common.{◌≡◌, ◌+◌, ◌<◌, length, get_or, set, Some, None, sym, ◌∙◌, subst, arith, w64, SFits, rules}
use Rattle.std.proofs.lemmas.Int.{to_z-of_z}
use Rattle.sheets.specs.Sheets.{set_by}
use Rattle.sheets.specs.Places.{says}
use Rattle.sheets.specs.Valuations.{Within}
use Rattle.sheets.proofs.Kept.{sheet_keeps}
use Rattle.judges.specs.Tries.{ranges}
use Rattle.judges.specs.Walks.{left, begun}
use Rattle.judges.specs.Ranging.{no_cell}
use Rattle.judges.specs.Keeping.{within_length}
use Rattle.judges.proofs.Following.{begins_with, ends_here}
use Rattle.judges.proofs.tries.follow.Goals as goal

pub returns-in_default-clause-followed : goal.returns-in_default-clause-followed
returns-in_default-clause-followed c =
    let s = says c.args.sheet.now in
    let lt : c.loop-i.i < length s.cells = search rules in
    let none : begun s (set_by s.cells c.loop-i.i) (get_or s.cells c.loop-i.i no_cell) c.loop-i.valuation ≡ None = sym c.begin.ensures ∙ c.in_default.is in
    record {
      reached = omega arith;
      kept = c.loop-i.invariant.kept;
      ended = λ _. ends_here s (sheet_keeps c.args.sheet.now) c.loop-i.valuation c.loop-i.invariant.within c.loop-i.i lt none;
    }

pub bounds-valuation-i : goal.bounds-valuation-i
bounds-valuation-i c =
    let s = says c.args.sheet.now in
    let lt : c.loop-i.i < length s.cells = search rules in
    omega (arith, lt, within_length s.cells c.loop-i.valuation c.loop-i.invariant.within)

pub loop-i-preserved : goal.loop-i-preserved
loop-i-preserved c =
    let s = says c.args.sheet.now in
    let v = c.loop-i.valuation in
    let i = c.loop-i.i in
    let n = c.in-Some.number in
    let lt : i < length s.cells = search rules in
    let fits : SFits w64 n = search rules in
    let begins : begun s (set_by s.cells i) (get_or s.cells i no_cell) v ≡ Some n = sym c.begin.ensures ∙ c.in-Some.is in
    let step = begins_with s (sheet_keeps c.args.sheet.now) v c.loop-i.invariant.within i lt n begins in
    let all = subst (λ m. Within s.cells (set v i m) × (left s (ranges s.parts 0 s.cells) (i + 1) (set v i m) ≡ left s (ranges s.parts 0 s.cells) i v)) (sym (to_z-of_z w64 n fits)) step in
    record { within = all.0; kept = all.1 ∙ c.loop-i.invariant.kept }
