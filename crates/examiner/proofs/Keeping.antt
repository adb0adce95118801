-- Every history keeps what an examination promises.
use Rattle.std.proofs.Common.{◌≡◌, ℕ, ◌<◌, ◌≤◌, Bool, true, false, List, [], ◌∷◌, length, leb, ltb, ℤ, Some, None, Ok, Err, Option, Result, sym, refl, ap, ◌∙◌, subst, inl, inr, ⊎_elim, arith}
use Rattle.std.specs.Prelude.{◌↔◌}
use Rattle.std.proofs.lemmas.Bool.{cases_lt, leb-true, leb-false, le-leb, lt-leb, ltb-true, ltb-false, le-ltb, lt-ltb}
use Rattle.jcode.specs.declared.refusal.Refusal.TheVariants as refusal
use Rattle.jcode.specs.Units.{JUnit}
use Rattle.sheets.specs.declared.fault.SheetFault.{SheetFault}
use Rattle.sheets.specs.declared.outcome.Outcome.{Outcome}
use Rattle.sheets.specs.declared.outcome.Outcome.TheVariants.{Passed, Failed, Open}
use Rattle.sheets.specs.Faults.{refused}
use Rattle.sheets.specs.Runs.{Fails}
use Rattle.sheets.specs.PathSheets.{sheet_of}
use Rattle.sheets.specs.Settling.{Held, condition}
use Rattle.sheets.specs.Valuations.{Falsifies}
use Rattle.examiner.specs.declared.slip.Returned.{Returned}
use Rattle.examiner.specs.declared.slip.Slip.{Slip}
use Rattle.examiner.specs.declared.verdict.Judgement.TheVariants as judgement
use Rattle.examiner.specs.Histories.{Meaning, Event, History, Settlement, took, settled, handed_back, told, accepted, out, how_many, first_failed}
use Rattle.examiner.specs.Owing.{Owed}
use Rattle.examiner.specs.Promises.{Just, HasSettled, IsSettled, NoneFailed, Honest, TakeKeeps, SettlementKeeps, HandBackKeeps, Keeps, Kept, Accepts, AcceptedIn, Among, AreAccepted, returned}
use Rattle.examiner.specs.Steps.{path_count, taken, judged, verdict_on, Step, Happened}
use Rattle.examiner.proofs.Counting.{AllPassed, all_counted, settled_as, only_passed, each_passed, each_settled, settled_low, first_is, is_first, none_has_failed, no_first, some_open, which_open}
use Rattle.examiner.proofs.Going.{Going, going, taken_ok}
use Rattle.examiner.proofs.Judging.{Sure, just, found_sound}
use Rattle.examiner.proofs.Spending.{is_owed, is_out, none_out}

abbrev EachJust : JUnit → List Settlement → Type 0
EachJust u [] = Unit {0}
EachJust u (s ∷ before) = Just u s × EachJust u before

module _ (u : JUnit) (sure : Sure u) where
  just_now : (tag : ℕ) (h : History) (e : Event) → Happened u tag (e ∷ h) → EachJust u (accepted h) → EachJust u (accepted (e ∷ h))
  just_now tag h (took r) x all = all
  just_now tag h (settled m l before (Ok o) after) x all =
      let d = (going u tag h x.1).due l x.0.1 in
      (just u sure (record { judge = m; number = l.number; outcome = o }) before after x.0.0 (omega (arith, d.number, d.left)) x.0.2, all)
  just_now tag h (settled m l before (Err e) after) x all = all
  just_now tag h (handed_back l r) x all = all
  just_now tag h (told v) x all = all

  each_just : (tag : ℕ) (h : History) → Happened u tag h → EachJust u (accepted h)
  each_just tag [] x = tt
  each_just tag (e ∷ h) x = just_now tag h e x (each_just tag h x.1)

  sound_of : (ss : List Settlement) (k : ℕ) → k < path_count u → EachJust u ss → HasSettled k Passed ss → (v : List ℤ) → Falsifies (condition u k) v → ⊥
  sound_of [] k l all h = absurd h
  sound_of (s ∷ before) k l all (inl e) = found_sound u sure s k l all.0 e.0 e.1
  sound_of (s ∷ before) k l all (inr h) = sound_of before k l all.1 h

  no_run_fails : (ss : List Settlement) → EachJust u ss → ((k : ℕ) → k < path_count u → HasSettled k Passed ss) → Fails u → ⊥
  no_run_fails ss all passed =
      sure.matches.no_hidden_run (λ p path v f.
      let n = sure.numbered.each_path_is p path in
      sound_of ss n.0 n.1 all (passed n.0 n.1) v (subst (λ (q : List ℕ). Falsifies (sheet_of u q) v) (sym n.2) f))

judged_cleared : (f : Option ℕ) (a b : Bool) → judged f a b ≡ judgement.Cleared → (f ≡ None) × (a ≡ false) × (b ≡ false)
judged_cleared (Some k) a b e = cc
judged_cleared None true b e = cc
judged_cleared None false true e = cc
judged_cleared None false false e = (refl, refl, refl)

cleared_when : (f : Option ℕ) (a b : Bool) → f ≡ None → a ≡ false → b ≡ false → judged f a b ≡ judgement.Cleared
cleared_when f a b e g h = rw (e, g, h)

judged_failed : (f : Option ℕ) (a b : Bool) (k : ℕ) → judged f a b ≡ judgement.Failed k → f ≡ Some k
judged_failed (Some j) a b k e = cc
judged_failed None true b k e = cc
judged_failed None false true k e = cc
judged_failed None false false k e = cc

judged_unfinished : (f : Option ℕ) (a b : Bool) → judged f a b ≡ judgement.Unfinished → (f ≡ None) × (a ≡ true)
judged_unfinished (Some k) a b e = cc
judged_unfinished None true b e = (refl, refl)
judged_unfinished None false true e = cc
judged_unfinished None false false e = cc

unfinished_when : (f : Option ℕ) (a b : Bool) → f ≡ None → a ≡ true → judged f a b ≡ judgement.Unfinished
unfinished_when f a b e g = rw (e, g)

judged_open : (f : Option ℕ) (a b : Bool) → judged f a b ≡ judgement.Open → (f ≡ None) × (a ≡ false) × (b ≡ true)
judged_open (Some k) a b e = cc
judged_open None true b e = cc
judged_open None false true e = (refl, refl, refl)
judged_open None false false e = cc

open_when : (f : Option ℕ) (a b : Bool) → f ≡ None → a ≡ false → b ≡ true → judged f a b ≡ judgement.Open
open_when f a b e g h = rw (e, g, h)

-- as many settlements as paths, none of them open or failed
passed_through : (u : JUnit) (ss : List Settlement) → (verdict_on u ss).judgement ≡ judgement.Cleared → (path_count u ≤ length ss) × AllPassed ss
passed_through u ss e =
    let j = judged_cleared (first_failed ss) (ltb (length ss) (path_count u)) (ltb 0 (how_many Open ss)) e in
    (ltb-false _ _ j.1, record { none_open = omega (arith, ltb-false _ _ j.2); none_failed = j.0 })

module _ (u : JUnit) (tag : ℕ) (ss : List Settlement) (o : Option Slip) (g : Going u tag ss o) where
  passed_each : (verdict_on u ss).judgement ≡ judgement.Cleared → (k : ℕ) → k < path_count u → HasSettled k Passed ss
  passed_each e k l = let p = passed_through u ss e in each_passed ss g.in_order p.1 k (omega (arith, p.0))

  all_through : (n : ℕ) → ((k : ℕ) → k < n → IsSettled k ss) → n ≤ length ss
  all_through n h = ⊎_elim (λ l. let low = settled_low ss _ g.in_order (h (length ss) l) in absurd (omega arith)) (λ m. m) (cases_lt (length ss) n)

  cleared_then : ((k : ℕ) → k < path_count u → HasSettled k Passed ss) → (verdict_on u ss).judgement ≡ judgement.Cleared
  cleared_then h =
      let full = all_through (path_count u) (λ k l. (Passed, h k l)) in
      let few = g.few in
      let only = only_passed ss g.in_order (λ k l. h k (omega arith)) in
      cleared_when _ _ _ only.none_failed (le-ltb _ _ full) (le-ltb _ _ (omega (arith, only.none_open)))

  lowest : (k : ℕ) → (verdict_on u ss).judgement ≡ judgement.Failed k ↔ (HasSettled k Failed ss × ((j : ℕ) → j < k → HasSettled j Failed ss → ⊥))
  lowest k = (
    λ e. let l = first_is ss k g.in_order (judged_failed (first_failed ss) _ _ k e) in (l.has, l.least),
    λ h. ap (λ f. judged f (ltb (length ss) (path_count u)) (ltb 0 (how_many Open ss))) (is_first ss k g.in_order (record { has = h.0; least = h.1 })),
  )

  some_left : (k : ℕ) → k < path_count u → (IsSettled k ss → ⊥) → length ss < path_count u
  some_left k l not = ⊎_elim (λ m. m) (λ m. absurd (not (each_settled ss g.in_order k (omega arith)))) (cases_lt (length ss) (path_count u))

  unfinished : (verdict_on u ss).judgement ≡ judgement.Unfinished ↔ (NoneFailed ss × ((k : ℕ) × (k < path_count u) × (IsSettled k ss → ⊥)))
  unfinished = (
    λ e.
        let j = judged_unfinished (first_failed ss) _ _ e in
        (none_has_failed ss j.0, (length ss, ltb-true _ _ j.1, λ h. let low = settled_low ss _ g.in_order h in absurd (omega arith))),
    λ h. unfinished_when _ _ _ (no_first ss g.in_order h.0) (lt-ltb _ _ (some_left h.1.0 h.1.1 h.1.2)),
  )

  left_open : (verdict_on u ss).judgement ≡ judgement.Open ↔ (NoneFailed ss × ((k : ℕ) → k < path_count u → IsSettled k ss) × ((k : ℕ) × HasSettled k Open ss))
  left_open = (
    λ e.
        let j = judged_open (first_failed ss) (ltb (length ss) (path_count u)) (ltb 0 (how_many Open ss)) e in
        let full = ltb-false (length ss) (path_count u) j.1 in
        (none_has_failed ss j.0, λ k l. each_settled ss g.in_order k (omega arith), which_open ss (ltb-true _ _ j.2)),
    λ h. open_when _ _ _ (no_first ss g.in_order h.0) (le-ltb _ _ (all_through (path_count u) h.1)) (lt-ltb _ _ (some_open ss h.2.0 h.2.1)),
  )

  honest : Sure u → EachJust u ss → Honest u ss (verdict_on u ss)
  honest sure all = record {
    cleared = (passed_each, cleared_then);
    safe = λ e. no_run_fails u sure ss all (passed_each e);
    failed = lowest;
    unfinished = unfinished;
    «open» = left_open;
    counts = (settled_as Passed ss, settled_as Failed ss, settled_as Open ss);
    all = all_counted ss;
    in_order = g.in_order;
  }

-- ---- takes
taken_none : (b : Bool) (o : Option Slip) (next : Slip) → taken b o next ≡ Err (refused refusal.Condition) → b ≡ true
taken_none true o next e = refl
taken_none false (Some l) next e = let same : refused refusal.SlipOut ≡ refused refusal.Condition = cc in let r = ap (λ (f : SheetFault). f.refusal) same in cc
taken_none false None next e = cc

none_left : (n count : ℕ) (o : Option Slip) (next : Slip) → count ≤ n → taken (leb n count) o next ≡ Err (refused refusal.Condition) ↔ (count ≡ n)
none_left n count o next few = (
  λ e. omega (arith, leb-true n count (taken_none _ o next e)),
  λ e. ap (λ b. taken b o next) (le-leb n count (omega arith)),
)

taken_out : (b : Bool) (o : Option Slip) (next : Slip) → taken b o next ≡ Err (refused refusal.SlipOut) → (b ≡ false) × ((l : Slip) × (o ≡ Some l))
taken_out true o next e = let same : refused refusal.Condition ≡ refused refusal.SlipOut = cc in let r = ap (λ (f : SheetFault). f.refusal) same in cc
taken_out false (Some l) next e = (refl, (l, refl))
taken_out false None next e = cc

is_none : (o p : Option Slip) → o ≡ p → ((l : Slip) → o ≡ Some l → ⊥) → o ≡ None
is_none o None e not = e
is_none o (Some l) e not = absurd (not l e)

module _ (u : JUnit) (tag : ℕ) (h : History) (past : Happened u tag h) where
  none_is_out : ((l : Slip) → Owed h l → ⊥) → out h ≡ None
  none_is_out none = is_none (out h) (out h) refl (λ l e. none l (is_owed h l e))

  take_keeps : (r : Result Slip SheetFault) → Step u tag h (took r) → TakeKeeps u tag h r
  take_keeps r is =
      let count = length (accepted h) in
      let left : Bool = leb (path_count u) count in
      let next : Slip = record { tag = tag; number = count } in
      let g = going u tag h past in
      let as_taken : TakeKeeps u tag h (taken left (out h) next) = record {
        none_left = none_left _ _ (out h) next g.few;
        one_owed = (
          λ e. let t = taken_out left (out h) next e in (leb-false _ _ t.0, (t.1.0, is_owed h t.1.0 t.1.1)),
          λ w. λ i. taken (lt-leb (path_count u) count w.0 i) (is_out u tag h past w.1.0 w.1.1 i) next,
        );
        handed_out = λ l. (
          λ e. let t = taken_ok left (out h) next l (sym e) in (leb-false _ _ t.0, λ k o. none_out left (out h) next l k (sym e) (is_out u tag h past k o), t.1),
          λ w. (λ i. taken (lt-leb (path_count u) count w.0 i) (none_is_out w.1 i) next) ∙ ap Ok (sym w.2),
        );
      } in
      subst (TakeKeeps u tag h) (sym is) as_taken

  -- ---- slips that come back
  not_both : (l : Slip) → returned l refusal.Slip ≡ returned l refusal.Buffer → ⊥
  not_both l e = let r = ap (λ (b : Returned). b.fault.refusal) e in cc

  hand_back_keeps : (l : Slip) (r : Result (Unit {0}) Returned) → Step u tag h (handed_back l r) → HandBackKeeps u tag h l r
  hand_back_keeps l (Ok w) is =
      let d = (going u tag h past).due l is in
      record {
        not_owed = (λ e. cc, λ n. absurd (n (is_owed h l is)));
        is_accepted = (λ e. is_owed h l is, λ o. refl);
        again = λ x t k. (k.handed_out l).1 (d.left, λ m o. let e = is_out u tag (handed_back l (Ok w) ∷ h) (is, past) m o in cc, λ i. record { tag = d.tagged i; number = d.number i });
      }
  hand_back_keeps l (Err e) is =
      let not : Owed h l → ⊥ = λ o. is.0 (is_out u tag h past l o) in
      record { not_owed = (λ x. not, λ n. ap Err is.1); is_accepted = (λ x. cc, λ o. absurd (not o)); again = λ x. cc }

  module _ (m : Meaning) (l : Slip) (before after : Held) where
    settlement_keeps : (r : Result Outcome Returned) → Step u tag h (settled m l before r after)
        → ((o : Outcome) → r ≡ Ok o → Just u (record { judge = m; number = l.number; outcome = o })) → SettlementKeeps u h m l before r after
    settlement_keeps (Ok o) is all =
        let owed = is_owed h l is.1 in
        record {
          not_owed = (λ e. cc, λ n. absurd (n owed));
          short = (λ e. cc, λ w. absurd (w.1 is.2.room));
          is_accepted = (λ e. (owed, is.2.room), λ w. refl);
          just = all;
          as_it_was = λ e. cc;
        }
    settlement_keeps (Err e) is all = ⊎_elim
        (λ s.
        let not : Owed h l → ⊥ = λ o. s.0 (is_out u tag h past l o) in
        let other : e ≡ returned l refusal.Buffer → ⊥ = λ x. not_both l (sym s.1 ∙ x) in
        record {
          not_owed = (λ x. not, λ n. ap Err s.1);
          short = (λ x. absurd (other cc), λ w. absurd (not w.0));
          is_accepted = (λ x. cc, λ w. absurd (not w.0));
          just = all;
          as_it_was = λ x. is.1;
        })
        (λ s.
        let owed = is_owed h l s.0 in
        let other : e ≡ returned l refusal.Slip → ⊥ = λ x. not_both l (sym x ∙ s.2) in
        record {
          not_owed = (λ x. absurd (other cc), λ n. absurd (n owed));
          short = (λ x. (owed, s.1), λ w. ap Err s.2);
          is_accepted = (λ x. cc, λ w. absurd (s.1 w.1));
          just = all;
          as_it_was = λ x. is.1;
        })
        is.0

keeps : (u : JUnit) → Sure u → (tag : ℕ) (h : History) (e : Event) → Happened u tag (e ∷ h) → Keeps u tag h e
keeps u sure tag h (took r) x = take_keeps u tag h x.1 r x.0
keeps u sure tag h (settled m l before (Ok o) after) x =
    let now = (each_just u sure tag (settled m l before (Ok o) after ∷ h) x).0 in
    settlement_keeps u tag h x.1 m l before after (Ok o) x.0 (λ a e. let same : o ≡ a = cc in subst (λ (b : Outcome). Just u (record { judge = m; number = l.number; outcome = b })) same now)
keeps u sure tag h (settled m l before (Err e) after) x = settlement_keeps u tag h x.1 m l before after (Err e) x.0 (λ a e. cc)
keeps u sure tag h (handed_back l r) x = hand_back_keeps u tag h x.1 l r x.0
keeps u sure tag h (told v) x = subst (Honest u (accepted h)) (sym x.0) (honest u tag (accepted h) (out h) (going u tag h x.1) sure (each_just u sure tag h x.1))

one_more : (s : Settlement) (e : Event) (h : History) → AreAccepted h (accepted h) → (Accepts s e → ⊥) → Among s (accepted h) ↔ AcceptedIn s (e ∷ h)
one_more s e h all not = (λ a. inr ((all s).0 a), λ i. ⊎_elim (λ x. absurd (not x)) (all s).1 i)

are_accepted : (h : History) → AreAccepted h (accepted h)
are_accepted [] s = (λ a. a, λ i. i)
are_accepted (took r ∷ h) s = one_more s (took r) h (are_accepted h) (λ x. x)
are_accepted (settled m l before (Ok o) after ∷ h) s = (
  λ a. ⊎_elim (λ e. inl (ap (λ (t : Settlement). Ok t.outcome) e, ap (λ (t : Settlement). t.number) (sym e), ap (λ (t : Settlement). t.judge) (sym e))) (λ b. inr ((are_accepted h s).0 b)) a,
  λ i. ⊎_elim (λ x. let same : o ≡ s.outcome = let y = x.0 in cc in inl (λ j. record { judge = sym x.2 j; number = sym x.1 j; outcome = same j })) (λ b. inr ((are_accepted h s).1 b)) i,
)
are_accepted (settled m l before (Err e) after ∷ h) s = one_more s (settled m l before (Err e) after) h (are_accepted h) (λ x. let y = x.0 in cc)
are_accepted (handed_back l r ∷ h) s = one_more s (handed_back l r) h (are_accepted h) (λ x. x)
are_accepted (told v ∷ h) s = one_more s (told v) h (are_accepted h) (λ x. x)

pub kept : (u : JUnit) → Sure u → (tag : ℕ) (h : History) → Happened u tag h → Kept u tag h
kept u sure tag [] x = tt
kept u sure tag (e ∷ h) x = (keeps u sure tag h e x, are_accepted h, kept u sure tag h x.1)
