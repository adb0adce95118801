-- Accepted settlements are as their judges found their conditions, and a judge that is lawful passes nothing that some run fails.
use Rattle.std.proofs.Common.{◌≡◌, ℕ, ◌<◌, List, ℤ, refl, subst, inl, inr, arith}
use Rattle.std.specs.Prelude.{◌↔◌}
use Rattle.flow.specs.Numbers.{Numbered, nth}
use Rattle.jcode.specs.Units.{JUnit}
use Rattle.checking.specs.Breaks.{steps_of}
use Rattle.sheets.specs.declared.outcome.Outcome.{Outcome}
use Rattle.sheets.specs.declared.outcome.Outcome.TheVariants.{Passed, Failed}
use Rattle.sheets.specs.Judges.{Opinion, Sound, passed, failed, unsure}
use Rattle.sheets.specs.Matches.{Matches, SheetsKeep, start_in, given_in}
use Rattle.sheets.specs.Runs.{Fails}
use Rattle.sheets.specs.Settling.{Held, Settles, Settled, condition}
use Rattle.sheets.specs.Sheets.{Condition}
use Rattle.sheets.specs.Valuations.{Falsifies}
use Rattle.examiner.specs.Histories.{Settlement}
use Rattle.examiner.specs.Promises.{opinion_in, SpellsFailure, Just}
use Rattle.examiner.specs.Steps.{path_count}

-- what a check sees to, of a unit's paths and their sheets
pub record Sure (u : JUnit) : Type 0 where
  pub matches : Matches u
  pub keeps : SheetsKeep u
  pub numbered : Numbered (steps_of u)

passed_as : (c : Condition) (p : Opinion) (o : Outcome) (v : List ℤ) → Settles c p o v → o ≡ Passed ↔ (p ≡ passed)
passed_as c passed o v s = (λ e. refl, λ e. s.0)
passed_as c (failed w) o v (inl s) = (λ e. let x = s.1 in cc, λ e. cc)
passed_as c (failed w) o v (inr s) = (λ e. let x = s.1 in cc, λ e. cc)
passed_as c unsure o v s = (λ e. let x = s.0 in cc, λ e. cc)

abbrev Proposed : Condition → Opinion → List ℤ → Type 0
Proposed c p w = (p ≡ failed w) × Falsifies c w

failed_as : (c : Condition) (p : Opinion) (o : Outcome) (v : List ℤ) → Settles c p o v → o ≡ Failed ↔ ((w : List ℤ) × Proposed c p w)
failed_as c passed o v s = (λ e. let x = s.0 in cc, λ e. let x = e.1.0 in cc)
failed_as c (failed w) o v (inl s) = (λ e. (w, (refl, s.0)), λ e. s.1)
failed_as c (failed w) o v (inr s) = (
  λ e. let x = s.1 in cc,
  λ e. let same : e.0 ≡ w = let x = e.1.0 in cc in absurd (s.0 (subst (Falsifies c) same e.1.1)),
)
failed_as c unsure o v s = (λ e. let x = s.0 in cc, λ e. let x = e.1.0 in cc)

spelled_run : (u : JUnit) → Sure u → (k : ℕ) → k < path_count u → (w : List ℤ) → Falsifies (condition u k) w → SpellsFailure u (nth (steps_of u) k) w × Fails u
spelled_run u sure k l w f =
    let p = nth (steps_of u) k in
    let path = sure.numbered.each_is_path k l in
    let run = (sure.matches.both_ways p path w).0 f in
    (run, sure.matches.along_is_run p path (start_in u w) (given_in u w) run.0 run.1)

pub just : (u : JUnit) → Sure u → (s : Settlement) (before after : Held) → Sound s.judge → s.number < path_count u → Settled (condition u s.number) (opinion_in u s) s.outcome before after → Just u s
just u sure s before after sound l x = record {
  below = l;
  on_path = sure.numbered.each_is_path s.number l;
  lawful = sound;
  passed = passed_as _ (opinion_in u s) s.outcome _ x.answer;
  failed = failed_as _ (opinion_in u s) s.outcome _ x.answer;
  spelled = λ w r. spelled_run u sure s.number l w r.1;
}

-- a settlement that passed the condition of a number
pub found_sound : (u : JUnit) → Sure u → (s : Settlement) (k : ℕ) → k < path_count u → Just u s → s.number ≡ k → s.outcome ≡ Passed → (v : List ℤ) → Falsifies (condition u k) v → ⊥
found_sound u sure s k l j same e =
    subst (λ (n : ℕ). (v : List ℤ) → Falsifies (condition u n) v → ⊥) same
    (j.lawful (condition u s.number) (sure.keeps (nth (steps_of u) s.number) (sure.numbered.each_is_path s.number (omega arith))) (j.passed.0 e))
