-- The whole promise stands of every examination.
use Rattle.std.proofs.Common.{◌≡◌, ℕ, ◌∷◌, ltb, sym, refl, ap, ◌∙◌, subst}
use Rattle.std.proofs.Math.Logic.{∥∥₁_map, ∥∥₁_elim}
use Rattle.flow.proofs.Numbering.{numbered}
use Rattle.flow.specs.Steps.{Acyclic}
use Rattle.jcode.specs.Units.{JUnit}
use Rattle.checking.specs.declared.unit.CheckedUnit.{CheckedUnit}
use Rattle.checking.specs.Breaks.{steps_of}
use Rattle.checking.specs.CheckedUnits.{said}
use Rattle.checking.specs.Held.{held}
use Rattle.sheets.specs.declared.outcome.Outcome.TheVariants.{Open}
use Rattle.sheets.proofs.Keeping.{keeps_rules}
use Rattle.sheets.proofs.Running.{matches}
use Rattle.sheets.proofs.Sensing.{sensible}
use Rattle.examiner.specs.declared.examination.Examination.{Examination}
use Rattle.examiner.specs.declared.tally.Tally.{Tally}
use Rattle.examiner.specs.declared.verdict.Verdict.{Verdict}
use Rattle.examiner.specs.Histories.{History, told, accepted, how_many, first_failed}
use Rattle.examiner.specs.Lives.{Leads, Goes, Promised}
use Rattle.examiner.specs.Promises.{Kept}
use Rattle.examiner.specs.Steps.{path_count, judged, verdict_on}
use Rattle.examiner.specs.Tallies.{judgement_by, summed}
use Rattle.examiner.proofs.Counting.{all_counted}
use Rattle.examiner.proofs.Judging.{Sure}
use Rattle.examiner.proofs.Keeping.{kept}
use Rattle.examiner.proofs.Stepping.{Follows}

pub sure_of : (u : CheckedUnit) → Sure (said u)
sure_of u =
    let s = sensible u.tables.bytes.now u.tables.name (held u.tables) u.unbroken in
    record { matches = matches (said u) s; keeps = keeps_rules (said u) s; numbered = numbered (steps_of (said u)) (subst Acyclic u.walked u.paths.acyclic) }

-- what a tally tells of a unit
abbrev pub telling : JUnit → Tally → Verdict
telling u t = record {
  passed = t.passed;
  failed = t.failed;
  «open» = t.open;
  judgement = judgement_by u t;
}

pub tells : (u : JUnit) (tag : ℕ) (t : Tally) (v : Verdict) → v ≡ telling u t → Follows u tag (told v) t t
tells u tag t v e h c =
    let ss = accepted h in
    let same : telling u (summed h) ≡ verdict_on u ss = ap (λ n. record (verdict_on u ss) { judgement = judged (first_failed ss) (ltb n (path_count u)) (ltb 0 (how_many Open ss)) }) (sym (all_counted ss)) in
    record { happened = (e ∙ ap (telling u) c.remembered ∙ same, c.happened); remembered = c.remembered }

pub promised : (e : Examination) (v : Verdict) → Goes (told v) e e → Promised e v
promised e v next =
    let kept_by : (u : JUnit) (tag : ℕ) (h : History) → Leads u tag h e → Kept u tag (told v ∷ h) = λ u tag h l.
    kept u (subst Sure l.of_unit (sure_of e.unit)) tag (told v ∷ h) (next u tag h l).comes.happened in
    record {
      kept = kept_by;
      lived = ∥∥₁_map e.reached (λ r. (r.0, record { of_unit = refl; of_tag = refl; comes = r.1 }));
      safe = λ cleared fails. ∥∥₁_elim e.reached (λ x y. absurd x) (λ r. (kept_by (said e.unit) e.tag r.0 (record { of_unit = refl; of_tag = refl; comes = r.1 })).0.safe cleared fails);
    }
