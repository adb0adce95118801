-- What an examination promises, whatever its history.
use Rattle.std.specs.Prelude.{◌≡◌, ◌≢◌, ◌↔◌, ◌⊎◌, ℕ, ◌+◌, ◌<◌, List, [], ◌∷◌, length, ℤ, Ok, Err, IsOk, IsErr, Result}
use Rattle.flow.specs.Numbers.{nth}
use Rattle.flow.specs.Paths.{Path}
use Rattle.jcode.specs.declared.refusal.Refusal.{Refusal}
use Rattle.jcode.specs.declared.refusal.Refusal.TheVariants as refusal
use Rattle.jcode.specs.Units.{JUnit}
use Rattle.checking.specs.Breaks.{steps_of}
use Rattle.sheets.specs.declared.fault.SheetFault.{SheetFault}
use Rattle.sheets.specs.declared.outcome.Outcome.{Outcome}
use Rattle.sheets.specs.declared.outcome.Outcome.TheVariants.{Passed, Failed, Open}
use Rattle.sheets.specs.Faults.{refused}
use Rattle.sheets.specs.Judges.{Opinion, Sound, passed, failed}
use Rattle.sheets.specs.Matches.{start_in, given_in}
use Rattle.sheets.specs.Runs.{Fitting, Fails, FailsAlong}
use Rattle.sheets.specs.Settling.{Held, Room, condition}
use Rattle.sheets.specs.Valuations.{Falsifies}
use Rattle.examiner.specs.declared.slip.Returned.{Returned}
use Rattle.examiner.specs.declared.slip.Slip.{Slip}
use Rattle.examiner.specs.declared.verdict.Judgement.TheVariants as judgement
use Rattle.examiner.specs.declared.verdict.Verdict.{Verdict}
use Rattle.examiner.specs.Histories.{Meaning, Event, History, Settlement, took, settled, handed_back, told, accepted}
use Rattle.examiner.specs.Owing.{Owed}
use Rattle.examiner.specs.Steps.{path_count}

-- what its judge thinks of a settlement's condition, which is its path's
abbrev pub opinion_in : JUnit → Settlement → Opinion
opinion_in u s = s.judge (condition u s.number)

-- the judge proposed a valuation that falsifies the condition
abbrev pub Refuted : JUnit → Settlement → List ℤ → Type 0
Refuted u s w = (opinion_in u s ≡ failed w) × Falsifies (condition u s.number) w

-- a valuation spells out a run along a path that fails at the REQUIRE in which it ends
abbrev pub SpellsFailure : JUnit → List ℕ → List ℤ → Type 0
SpellsFailure u p w = Fitting u (start_in u w) × FailsAlong u p (start_in u w) (given_in u w)

-- an accepted settlement is of a path of the unit, and as its judge found that path's condition
pub record Just (u : JUnit) (s : Settlement) : Type 0 where
  pub below : s.number < path_count u
  pub on_path : Path (steps_of u) (nth (steps_of u) s.number)
  pub lawful : Sound s.judge
  pub passed : s.outcome ≡ Passed ↔ (opinion_in u s ≡ passed)
  pub failed : s.outcome ≡ Failed ↔ ((w : List ℤ) × Refuted u s w)
  pub spelled : (w : List ℤ) → Refuted u s w → SpellsFailure u (nth (steps_of u) s.number) w × Fails u

-- the condition of this number has been settled as this
abbrev pub HasSettled : ℕ → Outcome → List Settlement → Type 0
HasSettled k o [] = ⊥
HasSettled k o (s ∷ before) = ((s.number ≡ k) × (s.outcome ≡ o)) ⊎ HasSettled k o before

abbrev pub IsSettled : ℕ → List Settlement → Type 0
IsSettled k ss = (o : Outcome) × HasSettled k o ss

abbrev pub NoneFailed : List Settlement → Type 0
NoneFailed ss = (k : ℕ) → HasSettled k Failed ss → ⊥

-- so many have been settled as this
abbrev pub SettledAs : Outcome → List Settlement → ℕ → Type 0
SettledAs o [] n = n ≡ 0
SettledAs o (s ∷ before) n = ((s.outcome ≡ o) × ((m : ℕ) × (n ≡ m + 1) × SettledAs o before m)) ⊎ ((s.outcome ≢ o) × SettledAs o before n)

-- numbers are 0, 1, 2 and on, each once: each is how many were accepted before
abbrev pub InOrder : List Settlement → Type 0
InOrder [] = Unit {0}
InOrder (s ∷ before) = (s.number ≡ length before) × InOrder before

-- what a verdict tells, when these settlements have been accepted
pub record Honest (u : JUnit) (ss : List Settlement) (v : Verdict) : Type 0 where
  -- 'cleared' exactly when every path's condition has been settled as passed, and the unit then has no run that fails
  pub cleared : v.judgement ≡ judgement.Cleared ↔ ((k : ℕ) → k < path_count u → HasSettled k Passed ss)
  pub safe : v.judgement ≡ judgement.Cleared → Fails u → ⊥
  -- 'failed' with the lowest number that has been settled as failed
  pub failed : (k : ℕ) → v.judgement ≡ judgement.Failed k ↔ (HasSettled k Failed ss × ((j : ℕ) → j < k → HasSettled j Failed ss → ⊥))
  -- 'unfinished' exactly when none has failed and the condition of some path is not settled
  pub unfinished : v.judgement ≡ judgement.Unfinished ↔ (NoneFailed ss × ((k : ℕ) × (k < path_count u) × (IsSettled k ss → ⊥)))
  -- 'open' exactly when none has failed, all are settled, and some as open
  pub «open» : v.judgement ≡ judgement.Open ↔ (NoneFailed ss × ((k : ℕ) → k < path_count u → IsSettled k ss) × ((k : ℕ) × HasSettled k Open ss))
  -- each count is of the accepted settlements that answered so, and together they count all
  pub counts : SettledAs Passed ss v.passed × SettledAs Failed ss v.failed × SettledAs Open ss v.open
  pub all : length ss ≡ v.passed + v.failed + v.open
  pub in_order : InOrder ss

-- a slip that is refused comes back
abbrev pub returned : Slip → Refusal → Returned
returned l r = record { slip = l; fault = refused r }

-- what comes of a take
pub record TakeKeeps (u : JUnit) (tag : ℕ) (h : History) (r : Result Slip SheetFault) : Type 0 where
  -- it finds none left exactly when as many are accepted as there are paths
  pub none_left : r ≡ Err (refused refusal.Condition) ↔ (length (accepted h) ≡ path_count u)
  -- else it is refused exactly when a slip is owed
  pub one_owed : r ≡ Err (refused refusal.SlipOut) ↔ ((length (accepted h) < path_count u) × ((l : Slip) × Owed h l))
  -- and else it hands out the slip of this tag whose number is how many are accepted
  pub handed_out : (l : Slip) → r ≡ Ok l ↔ ((length (accepted h) < path_count u) × ((k : Slip) → Owed h k → ⊥) × (l ≡ record { tag = tag; number = length (accepted h) }))

-- what comes of a settlement, which finds some things on its desk and leaves others
pub record SettlementKeeps (u : JUnit) (h : History) (m : Meaning) (l : Slip) (before : Held) (r : Result Outcome Returned) (after : Held) : Type 0 where
  -- the slip comes back exactly when it is not owed
  pub not_owed : r ≡ Err (returned l refusal.Slip) ↔ (Owed h l → ⊥)
  -- or when it is, and a buffer is short
  pub short : r ≡ Err (returned l refusal.Buffer) ↔ (Owed h l × (Room (condition u l.number) before → ⊥))
  -- else the settlement is accepted
  pub is_accepted : IsOk r ↔ (Owed h l × Room (condition u l.number) before)
  pub just : (o : Outcome) → r ≡ Ok o → Just u (record { judge = m; number = l.number; outcome = o })
  pub as_it_was : IsErr r → after ≡ before

-- what comes of a hand-back: the slip comes back exactly when it is not owed
pub record HandBackKeeps (u : JUnit) (tag : ℕ) (h : History) (l : Slip) (r : Result (Unit {0}) Returned) : Type 0 where
  pub not_owed : r ≡ Err (returned l refusal.Slip) ↔ (Owed h l → ⊥)
  pub is_accepted : IsOk r ↔ Owed h l
  -- it settles nothing: a take that comes next hands out the same slip
  pub again : IsOk r → (t : Result Slip SheetFault) → TakeKeeps u tag (handed_back l r ∷ h) t → t ≡ Ok l

-- what is promised of each call, by what came before it
abbrev pub Keeps : JUnit → ℕ → History → Event → Type 0
Keeps u tag h (took r) = TakeKeeps u tag h r
Keeps u tag h (settled m l before r after) = SettlementKeeps u h m l before r after
Keeps u tag h (handed_back l r) = HandBackKeeps u tag h l r
Keeps u tag h (told v) = Honest u (accepted h) v

-- this call is a settlement that was accepted: by this judge, of its slip's number, and this is what it answered
abbrev pub Accepts : Settlement → Event → Type 0
Accepts s (took r) = ⊥
Accepts s (settled m l before r after) = (r ≡ Ok s.outcome) × (s.number ≡ l.number) × (s.judge ≡ m)
Accepts s (handed_back l r) = ⊥
Accepts s (told v) = ⊥

-- one of these calls is
abbrev pub AcceptedIn : Settlement → History → Type 0
AcceptedIn s [] = ⊥
AcceptedIn s (e ∷ h) = Accepts s e ⊎ AcceptedIn s h

abbrev pub Among : Settlement → List Settlement → Type 0
Among s [] = ⊥
Among s (t ∷ before) = (t ≡ s) ⊎ Among s before

-- these are all that the calls accepted, and nothing else
abbrev pub AreAccepted : History → List Settlement → Type 0
AreAccepted h ss = (s : Settlement) → Among s ss ↔ AcceptedIn s h

-- and so of each call of a history, in an examination of the unit with the tag
abbrev pub Kept : JUnit → ℕ → History → Type 0
Kept u tag [] = Unit {0}
Kept u tag (e ∷ h) = Keeps u tag h e × AreAccepted h (accepted h) × Kept u tag h
