-- An examination, and the histories that led to where it is.
use Rattle.std.specs.Prelude.{◌≡◌, ℕ, ◌∷◌}
use Rattle.jcode.specs.Units.{JUnit}
use Rattle.checking.specs.CheckedUnits.{said}
use Rattle.sheets.specs.Runs.{Fails}
use Rattle.examiner.specs.declared.examination.Examination.{Examination}
use Rattle.examiner.specs.declared.verdict.Judgement.TheVariants.{Cleared}
use Rattle.examiner.specs.declared.verdict.Verdict.{Verdict}
use Rattle.examiner.specs.Histories.{Event, History, told}
use Rattle.examiner.specs.Promises.{Kept}
use Rattle.examiner.specs.Tallies.{Comes}

-- this history of an examination of the unit with the tag led here
pub record Leads (u : JUnit) (tag : ℕ) (h : History) (e : Examination) : Type 0 where
  pub of_unit : said e.unit ≡ u
  pub of_tag : e.tag ≡ tag
  pub comes : Comes u tag h e.tally

-- a call comes next, whatever the history, and leaves the examination as it is after
abbrev pub Goes : Event → Examination → Examination → Type 0
Goes event before after = (u : JUnit) (tag : ℕ) (h : History) → Leads u tag h before → Leads u tag (event ∷ h) after

-- the whole promise
pub record Promised (e : Examination) (v : Verdict) : Type 0 where
  -- every history that may have led here, with this verdict after it, is kept
  pub kept : (u : JUnit) (tag : ℕ) (h : History) → Leads u tag h e → Kept u tag (told v ∷ h)
  -- some history did lead here, so that a unit that is cleared has no run that fails, with no premise left
  pub lived : ∥ ((h : History) × Leads (said e.unit) e.tag h e) ∥₁
  pub safe : v.judgement ≡ Cleared → Fails (said e.unit) → ⊥
