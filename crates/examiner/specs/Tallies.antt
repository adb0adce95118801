-- Tallies: what an examination remembers of its history.
use Rattle.std.specs.Prelude.{◌≡◌, ℕ, ◌+◌, true, false, is_some, nat_lt}
use Rattle.jcode.specs.Units.{JUnit}
use Rattle.sheets.specs.declared.outcome.Outcome.{Outcome}
use Rattle.sheets.specs.declared.outcome.Outcome.TheVariants.{Passed, Failed, Open}
use Rattle.examiner.specs.declared.slip.Slip.{Slip}
use Rattle.examiner.specs.declared.tally.Tally.{Tally}
use Rattle.examiner.specs.declared.verdict.Judgement.{Judgement}
use Rattle.examiner.specs.Histories.{History, accepted, out, one_if, how_many, or_now, first_failed}
use Rattle.examiner.specs.Steps.{path_count, judged, Happened}

-- how many conditions are settled
abbrev pub total : Tally → ℕ
total t = t.passed + t.failed + t.open

-- the slip is the one that is out
pub record IsDue (tag : ℕ) (t : Tally) (l : Slip) : Type 0 where
  pub is_out : t.out ≡ true
  pub tagged : l.tag ≡ tag
  pub next : l.number ≡ total t

abbrev pub summed : History → Tally
summed h = record {
  passed = how_many Passed (accepted h);
  failed = how_many Failed (accepted h);
  «open» = how_many Open (accepted h);
  lowest = first_failed (accepted h);
  out = is_some (out h);
}

-- after the condition of the slip that was out is settled
abbrev pub counted : Tally → ℕ → Outcome → Tally
counted t n o = record {
  passed = t.passed + one_if Passed o;
  failed = t.failed + one_if Failed o;
  «open» = t.open + one_if Open o;
  lowest = or_now t.lowest o n;
  out = false;
}

-- this history of an examination of the unit with the tag comes to this
pub record Comes (u : JUnit) (tag : ℕ) (h : History) (t : Tally) : Type 0 where
  pub happened : Happened u tag h
  pub remembered : t ≡ summed h

-- and so does some history
abbrev pub Reached : JUnit → ℕ → Tally → Type 0
Reached u tag t = ∥ ((h : History) × Comes u tag h t) ∥₁

-- what it tells of a unit
abbrev pub judgement_by : JUnit → Tally → Judgement
judgement_by u t = judged t.lowest (nat_lt (total t) (path_count u)) (nat_lt 0 t.open)
