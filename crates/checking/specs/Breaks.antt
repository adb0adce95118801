-- The rules of the check: which statement of a unit breaks which, and what a check tells.
use Rattle.std.specs.Prelude.{◌≡◌, ℕ, ◌<◌, ◌⊎◌, List, map, length, Some, None, Ok, Err, Option, Result}
use Rattle.flow.specs.declared.step.Step.{Step}
use Rattle.flow.specs.declared.step.Step.TheVariants as step
use Rattle.flow.specs.Labels.{Mislabelled}
use Rattle.flow.specs.Numbers.{paths}
use Rattle.flow.specs.Orders.{Misplaced}
use Rattle.flow.specs.Steps.{OnCircle}
use Rattle.jcode.specs.declared.refusal.Refusal.{Refusal}
use Rattle.jcode.specs.declared.refusal.Refusal.TheVariants as refusal
use Rattle.jcode.specs.declared.span.Span.{Span}
use Rattle.jcode.specs.ReadUnits.{Tables}
use Rattle.jcode.specs.Refusals.{number_of}
use Rattle.jcode.specs.Sentences.{Sentence, Hang, Break, Require, Proclaim, New, Assign, Split, When, Branch, Join}
use Rattle.jcode.specs.Units.{JUnit, unit_of}
use Rattle.checking.specs.declared.fault.CheckFault.{CheckFault}
use Rattle.checking.specs.declared.fault.CheckFault.TheVariants.{Reading, Rule}
use Rattle.checking.specs.Readable.{Readable}
use Rattle.checking.specs.Rules.{kinds_kept, span_kept, Failing}
use Rattle.checking.specs.Types.{domains}

-- what a statement is to the flow of control
abbrev pub step_of : {T : Type 0} → Sentence T → Step
step_of Hang = step.Hang
step_of (Break t) = step.Break
step_of (Require e t) = step.Require
step_of (Proclaim e) = step.Plain
step_of (New vs e t) = step.Plain
step_of (Assign v e f) = step.Plain
step_of (Split l) = step.Split l
step_of (When e l) = step.When l
step_of (Branch t l) = step.Branch l
step_of (Join l) = step.Join l

abbrev pub steps_of : JUnit → List Step
steps_of u = map step_of u.statements

-- the most paths that a unit may have
abbrev pub path_limit : ℕ
path_limit = 65536

-- the unit breaks a rule at a place: a statement, one past the last for an end in an open block, 0 for too many paths
abbrev pub BreaksRule : JUnit → Refusal → ℕ → Type 0
BreaksRule u refusal.Order i = Misplaced (steps_of u) i
BreaksRule u refusal.Kind i = Failing (kinds_kept (domains u)) u.statements i
BreaksRule u refusal.Label i = Mislabelled (steps_of u) i
BreaksRule u refusal.Circle i = OnCircle (steps_of u) i
BreaksRule u refusal.Range i = Failing (span_kept (domains u)) u.statements i
BreaksRule u refusal.Paths i = (i ≡ 0) × (path_limit < length (paths (steps_of u)))
BreaksRule u refusal.Tables i = ⊥
BreaksRule u refusal.Missing i = ⊥
BreaksRule u refusal.Number i = ⊥
BreaksRule u refusal.Limit i = ⊥
BreaksRule u refusal.Table i = ⊥
BreaksRule u refusal.Name i = ⊥
BreaksRule u refusal.Condition i = ⊥
BreaksRule u refusal.SlipOut i = ⊥
BreaksRule u refusal.Slip i = ⊥
BreaksRule u refusal.Buffer i = ⊥
BreaksRule u refusal.Valuation i = ⊥

-- the tables break a rule of reading, or the unit that they hold breaks one of its own
abbrev pub Breaks : List ℕ → Span → Tables → Refusal → ℕ → Type 0
Breaks bytes name t r i = ((r ≡ refusal.Tables) × (i ≡ 0) × (Readable bytes name t → ⊥)) ⊎ BreaksRule (unit_of bytes name t) r i

-- a lower number, or the same number at a lower place
abbrev pub Earlier : Refusal → ℕ → Refusal → ℕ → Type 0
Earlier q j r i = (number_of q < number_of r) ⊎ ((number_of q ≡ number_of r) × (j < i))

-- none of them is broken anywhere
abbrev pub NoneOf : (Refusal → ℕ → Type 0) → Type 0
NoneOf Broken = (r : Refusal) (i : ℕ) → Broken r i → ⊥

-- the lowest rule that is broken, at its lowest place
abbrev pub FirstOf : (Refusal → ℕ → Type 0) → CheckFault → Type 0
FirstOf Broken (Reading f) = ⊥
FirstOf Broken (Rule r i) = Broken r i × ((q : Refusal) (j : ℕ) → Earlier q j r i → Broken q j → ⊥)

abbrev pub FirstBroken : List ℕ → Span → Tables → CheckFault → Type 0
FirstBroken bytes name t = FirstOf (Breaks bytes name t)

abbrev pub Unbroken : List ℕ → Span → Tables → Type 0
Unbroken bytes name t = NoneOf (Breaks bytes name t)

-- what a check tells of tables: that nothing is broken, or what is broken first
abbrev pub Checks : {A : Type 0} → List ℕ → Span → Tables → Result A CheckFault → Type 0
Checks bytes name t (Ok a) = Unbroken bytes name t
Checks bytes name t (Err f) = FirstBroken bytes name t f

-- a rule's lowest place, if it is broken anywhere
abbrev pub ruled : Refusal → Option ℕ → Result (Unit {0}) CheckFault
ruled r None = Ok tt
ruled r (Some i) = Err (Rule r i)
