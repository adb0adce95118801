-- One call more: whatever history comes to a tally, the call comes next, and leads to the tally after it.
use Rattle.std.proofs.Common.{◌≡◌, ℕ, ◌+◌, ◌<◌, ◌≤◌, true, false, ◌∷◌, length, leb, Some, None, Ok, Err, Option, sym, refl, ap, ◌∙◌, subst, inl, inr, ⊎_elim, arith}
use Rattle.std.proofs.Math.Logic.{∥∥₁_map}
use Rattle.std.proofs.lemmas.Bool.{cases_lt, le-leb, lt-leb}
use Rattle.std.specs.Prelude.{is_some}
use Rattle.jcode.specs.declared.refusal.Refusal.TheVariants as refusal
use Rattle.jcode.specs.Units.{JUnit}
use Rattle.checking.specs.declared.unit.CheckedUnit.{CheckedUnit}
use Rattle.checking.specs.CheckedUnits.{said}
use Rattle.sheets.specs.declared.fault.SheetFault.{SheetFault}
use Rattle.sheets.specs.declared.outcome.Outcome.{Outcome}
use Rattle.sheets.specs.Faults.{refused}
use Rattle.sheets.specs.Judges.{Sound}
use Rattle.sheets.specs.Settling.{Held, Room, Settled, SettlesAt, condition}
use Rattle.examiner.specs.declared.examination.Examination.{Examination}
use Rattle.examiner.specs.declared.slip.Returned.{Returned}
use Rattle.examiner.specs.declared.slip.Slip.{Slip}
use Rattle.examiner.specs.declared.tally.Tally.{Tally}
use Rattle.examiner.specs.Histories.{Meaning, Event, History, took, settled, handed_back, accepted, out}
use Rattle.examiner.specs.Lives.{Goes}
use Rattle.examiner.specs.Steps.{path_count, taken}
use Rattle.examiner.specs.Tallies.{total, IsDue, counted, Comes, Reached}
use Rattle.examiner.proofs.Counting.{one_each, all_counted}
use Rattle.examiner.proofs.Going.{going}

-- a checked unit has no more paths than it may have
pub few_paths : (u : CheckedUnit) → path_count (said u) ≤ 65536
few_paths u = ⊎_elim (λ l. absurd (u.unbroken refusal.Paths 0 (inr (refl, l)))) (λ m. m) (cases_lt 65536 (path_count (said u)))

-- what comes next after each history that comes to a tally
abbrev pub Follows : JUnit → ℕ → Event → Tally → Tally → Type 0
Follows u tag event t after = (h : History) → Comes u tag h t → Comes u tag (event ∷ h) after

pub reached_by : (u : JUnit) (tag : ℕ) (event : Event) (t after : Tally) → Follows u tag event t after → Reached u tag t → Reached u tag after
reached_by u tag event t after f r = ∥∥₁_map r (λ x. (event ∷ x.0, f x.0 x.1))

pub goes_by : (event : Event) (before after : Examination) → said after.unit ≡ said before.unit → after.tag ≡ before.tag → Follows (said before.unit) before.tag event before.tally after.tally → Goes event before after
goes_by event before after same_unit same_tag f u tag h l =
    let there : Follows u before.tag event before.tally after.tally = subst (λ (v : JUnit). Follows v before.tag event before.tally after.tally) l.of_unit f in
    let here : Follows u tag event before.tally after.tally = subst (λ (n : ℕ). Follows u n event before.tally after.tally) l.of_tag there in
    record { of_unit = same_unit ∙ l.of_unit; of_tag = same_tag ∙ l.of_tag; comes = here h l.comes }

total_is : (u : JUnit) (tag : ℕ) (h : History) (t : Tally) → Comes u tag h t → total t ≡ length (accepted h)
total_is u tag h t c = ap total c.remembered ∙ sym (all_counted (accepted h))

-- ---- takes
out_taken : (o : Option Slip) (next : Slip) → is_some o ≡ true → Err (refused refusal.SlipOut) ≡ taken false o next
out_taken (Some l) next e = refl
out_taken None next e = cc

next_taken : (o : Option Slip) (next : Slip) → is_some o ≡ false → Ok next ≡ taken false o next
next_taken (Some l) next e = cc
next_taken None next e = refl

module _ (u : JUnit) (tag : ℕ) (t : Tally) where
  pub none_left : (f : SheetFault) → f ≡ refused refusal.Condition → path_count u ≤ total t → Follows u tag (took (Err f)) t t
  none_left f e all h c = record {
    happened = (ap Err e ∙ ap (λ b. taken b (out h) (record { tag = tag; number = length (accepted h) })) (sym (le-leb (path_count u) (length (accepted h)) (omega (arith, total_is u tag h t c)))), c.happened);
    remembered = c.remembered;
  }

  some_left : total t < path_count u → (h : History) → Comes u tag h t → leb (path_count u) (length (accepted h)) ≡ false
  some_left left h c = lt-leb (path_count u) (length (accepted h)) (omega (arith, total_is u tag h t c))

  pub one_out : (f : SheetFault) → f ≡ refused refusal.SlipOut → total t < path_count u → t.out ≡ true → Follows u tag (took (Err f)) t t
  one_out f e left is_out h c = record {
    happened = (
      ap Err e ∙ rw (some_left left h c) (out_taken (out h) _ (sym (ap (λ (s : Tally). s.out) c.remembered) ∙ is_out)),
      c.happened,
    );
    remembered = c.remembered;
  }

  pub handed_out : (l : Slip) → l ≡ record { tag = tag; number = total t } → total t < path_count u → t.out ≡ false → Follows u tag (took (Ok l)) t (record t { out = true })
  handed_out l e left none_out h c = record {
    happened = (
      ap Ok e ∙ rw (total_is u tag h t c, some_left left h c) (next_taken (out h) _ (sym (ap (λ (s : Tally). s.out) c.remembered) ∙ none_out)),
      c.happened,
    );
    remembered = ap (λ (s : Tally). record s { out = true }) c.remembered;
  }

-- ---- slips that come back
some_of : (o : Option Slip) → is_some o ≡ true → (l : Slip) × (o ≡ Some l)
some_of (Some l) e = (l, refl)
some_of None e = cc

same_slip : (a b : Slip) → a.tag ≡ b.tag → a.number ≡ b.number → a ≡ b
same_slip a b e f = λ i. record { tag = e i; number = f i }

module _ (u : JUnit) (tag : ℕ) (h : History) (t : Tally) (c : Comes u tag h t) (l : Slip) where
  pub due_is_out : IsDue tag t l → out h ≡ Some l
  due_is_out due =
      let o = some_of (out h) (sym (ap (λ (s : Tally). s.out) c.remembered) ∙ due.is_out) in
      let d = (going u tag h c.happened).due o.0 o.1 in
      o.1 ∙ ap Some (same_slip o.0 l (d.tagged ∙ sym due.tagged) (d.number ∙ sym (total_is u tag h t c) ∙ sym due.next))

  pub out_is_due : out h ≡ Some l → IsDue tag t l
  out_is_due e =
      let d = (going u tag h c.happened).due l e in
      record { is_out = ap (λ (s : Tally). s.out) c.remembered ∙ ap is_some e; tagged = d.tagged; next = d.number ∙ sym (total_is u tag h t c) }

module _ (u : JUnit) (tag : ℕ) (t : Tally) (l : Slip) where
  pub not_taken_back : (e : Returned) → e ≡ record { slip = l; fault = refused refusal.Slip } → (IsDue tag t l → ⊥) → Follows u tag (handed_back l (Err e)) t t
  not_taken_back e is strange h c = record { happened = ((λ o. strange (out_is_due u tag h t c l o), is), c.happened); remembered = c.remembered }

  pub taken_back : IsDue tag t l → Follows u tag (handed_back l (Ok tt)) t (record t { out = false })
  taken_back due h c = record { happened = (due_is_out u tag h t c l due, c.happened); remembered = ap (λ (s : Tally). record s { out = false }) c.remembered }

-- ---- settlements
pub one_more : (t : Tally) (n : ℕ) (o : Outcome) → total (counted t n o) ≡ total t + 1
one_more t n o = omega (arith, one_each o)

module _ (u : JUnit) (tag : ℕ) (t : Tally) (l : Slip) (m : Meaning) (before after : Held) where
  pub strange : (e : Returned) → e ≡ record { slip = l; fault = refused refusal.Slip } → (IsDue tag t l → ⊥) → after ≡ before → Follows u tag (settled m l before (Err e) after) t t
  strange e is not_due same h c = record { happened = ((inl (λ o. not_due (out_is_due u tag h t c l o), is), same), c.happened); remembered = c.remembered }

  pub accepted_as : (o : Outcome) (n : ℕ) (then : Tally) → n ≡ l.number → then ≡ counted t n o → Sound m → IsDue tag t l → SettlesAt u n m before (Ok o) after → Follows u tag (settled m l before (Ok o) after) t then
  accepted_as o n then number is sound due done h c =
      let here : Settled (condition u l.number) (m (condition u l.number)) o before after = subst (λ (k : ℕ). Settled (condition u k) (m (condition u k)) o before after) number done.1 in
      let counted_here : then ≡ counted t l.number o = is ∙ ap (λ k. counted t k o) number in
      record { happened = ((sound, due_is_out u tag h t c l due, here), c.happened); remembered = counted_here ∙ ap (λ (s : Tally). counted s l.number o) c.remembered }

  -- where a condition is left, a settlement is refused only for want of room
  pub short : (f : SheetFault) (e : Returned) (n : ℕ) → n ≡ l.number → e ≡ record { slip = l; fault = f } → IsDue tag t l → total t < path_count u → SettlesAt u n m before (Err f) after → Follows u tag (settled m l before (Err e) after) t t
  short f e n number is due left r h c =
      ⊎_elim (λ past. absurd (omega (arith, past.0, due.next)))
      (λ no_room. record { happened = ((inr (due_is_out u tag h t c l due, subst (λ (k : ℕ). Room (condition u k) before → ⊥) number no_room.1, is ∙ ap (λ (g : SheetFault). record { slip = l; fault = g }) no_room.2), r.1), c.happened); remembered = c.remembered })
      r.0
