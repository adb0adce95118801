-- Settlements in order: how many there are, which are settled as what, and the lowest that failed.
use Rattle.std.proofs.Common.{◌≡◌, ◌≢◌, ◌⊎◌, ℕ, ◌+◌, ◌<◌, ◌≤◌, List, [], ◌∷◌, length, Some, None, Option, sym, refl, ap, ◌∙◌, subst, inl, inr, ⊎_elim, arith}
use Rattle.std.proofs.lemmas.Bool.{cases_lt}
use Rattle.sheets.specs.declared.outcome.Outcome.{Outcome}
use Rattle.sheets.specs.declared.outcome.Outcome.TheVariants.{Passed, Failed, Open}
use Rattle.examiner.specs.Histories.{Settlement, one_if, how_many, or_now, first_failed}
use Rattle.examiner.specs.Promises.{HasSettled, IsSettled, NoneFailed, SettledAs, InOrder}

pub one_each : (o : Outcome) → one_if Passed o + one_if Failed o + one_if Open o ≡ 1
one_each Passed = refl
one_each Failed = refl
one_each Open = refl

pub all_counted : (ss : List Settlement) → length ss ≡ how_many Passed ss + how_many Failed ss + how_many Open ss
all_counted [] = refl
all_counted (s ∷ before) = omega (arith, one_each s.outcome, all_counted before)

one_or_none : (o a : Outcome) → ((a ≡ o) × (one_if o a ≡ 1)) ⊎ ((a ≢ o) × (one_if o a ≡ 0))
one_or_none Passed Passed = inl (refl, refl)
one_or_none Passed Failed = inr (λ e. cc, refl)
one_or_none Passed Open = inr (λ e. cc, refl)
one_or_none Failed Passed = inr (λ e. cc, refl)
one_or_none Failed Failed = inl (refl, refl)
one_or_none Failed Open = inr (λ e. cc, refl)
one_or_none Open Passed = inr (λ e. cc, refl)
one_or_none Open Failed = inr (λ e. cc, refl)
one_or_none Open Open = inl (refl, refl)

-- the count of an outcome is of those that were settled as it
pub settled_as : (o : Outcome) (ss : List Settlement) → SettledAs o ss (how_many o ss)
settled_as o [] = refl
settled_as o (s ∷ before) = ⊎_elim
    (λ e. inl (e.0, (how_many o before, omega (arith, e.1), settled_as o before)))
    (λ e. inr (e.0, subst (SettledAs o before) (omega (arith, e.1)) (settled_as o before)))
    (one_or_none o s.outcome)

pub has_low : (ss : List Settlement) (k : ℕ) (o : Outcome) → InOrder ss → HasSettled k o ss → k < length ss
has_low [] k o i h = absurd h
has_low (s ∷ before) k o i (inl e) = omega (arith, e.0, i.0)
has_low (s ∷ before) k o i (inr h) = let l = has_low before k o i.1 h in omega arith

-- nothing is open, and nothing failed
pub record AllPassed (ss : List Settlement) : Type 0 where
  pub none_open : how_many Open ss ≡ 0
  pub none_failed : first_failed ss ≡ None

before_passed : (s : Settlement) (before : List Settlement) → s.outcome ≡ Passed → AllPassed before → AllPassed (s ∷ before)
before_passed s before e a = record {
  none_open = omega (arith, a.none_open, ap (one_if Open) e);
  none_failed = ap (λ o. or_now (first_failed before) o s.number) e ∙ ap (λ f. or_now f Passed s.number) a.none_failed;
}

latest : (s : Settlement) (before : List Settlement) (o : Outcome) → InOrder (s ∷ before) → HasSettled (length before) o (s ∷ before) → s.outcome ≡ o
latest s before o i (inl e) = e.1
latest s before o i (inr h) = let l = has_low before _ o i.1 h in absurd (omega arith)

earlier : (s : Settlement) (before : List Settlement) (k : ℕ) (o : Outcome) → InOrder (s ∷ before) → k < length before → HasSettled k o (s ∷ before) → HasSettled k o before
earlier s before k o i l (inl e) = absurd (omega (arith, e.0, i.0))
earlier s before k o i l (inr h) = h

pub only_passed : (ss : List Settlement) → InOrder ss → ((k : ℕ) → k < length ss → HasSettled k Passed ss) → AllPassed ss
only_passed [] i h = record { none_open = refl; none_failed = refl }
only_passed (s ∷ before) i h =
    before_passed s before (latest s before Passed i (h (length before) (omega arith)))
    (only_passed before i.1 (λ k l. earlier s before k Passed i l (h k (omega arith))))

passed_now : (f : Option ℕ) (o : Outcome) (n : ℕ) → one_if Open o ≡ 0 → or_now f o n ≡ None → (f ≡ None) × (o ≡ Passed)
passed_now (Some k) o n none e = cc
passed_now None Passed n none e = (refl, refl)
passed_now None Failed n none e = cc
passed_now None Open n none e = absurd (omega arith)

pub each_passed : (ss : List Settlement) → InOrder ss → AllPassed ss → (k : ℕ) → k < length ss → HasSettled k Passed ss
each_passed [] i a k l = absurd (omega arith)
each_passed (s ∷ before) i a k l =
    let now = passed_now (first_failed before) s.outcome s.number (omega (arith, a.none_open)) a.none_failed in
    let here : length before ≤ k → HasSettled k Passed (s ∷ before) = λ h. inl (omega (arith, i.0), now.1) in
    let there : k < length before → HasSettled k Passed (s ∷ before) = λ h. inr (each_passed before i.1 (record { none_open = omega (arith, a.none_open); none_failed = now.0 }) k h) in
    ⊎_elim there here (cases_lt k (length before))

-- the lowest number that has been settled as failed
pub record LowestFailed (ss : List Settlement) (k : ℕ) : Type 0 where
  pub has : HasSettled k Failed ss
  pub least : (j : ℕ) → j < k → HasSettled j Failed ss → ⊥

none_now : (f : Option ℕ) (o : Outcome) (n : ℕ) → or_now f o n ≡ None → (f ≡ None) × (o ≢ Failed)
none_now (Some k) o n e = cc
none_now None Passed n e = (refl, λ x. cc)
none_now None Failed n e = cc
none_now None Open n e = (refl, λ x. cc)

none_failed : (ss : List Settlement) (j : ℕ) → first_failed ss ≡ None → HasSettled j Failed ss → ⊥
none_failed [] j e h = h
none_failed (s ∷ before) j e (inl h) = (none_now (first_failed before) s.outcome s.number e).1 h.1
none_failed (s ∷ before) j e (inr h) = none_failed before j (none_now (first_failed before) s.outcome s.number e).0 h

some_now : (f : Option ℕ) (o : Outcome) (n k : ℕ) → or_now f o n ≡ Some k → (f ≡ Some k) ⊎ ((f ≡ None) × (o ≡ Failed) × (k ≡ n))
some_now (Some j) o n k e = inl e
some_now None Passed n k e = cc
some_now None Failed n k e = inr (refl, refl, cc)
some_now None Open n k e = cc

pub first_is : (ss : List Settlement) (k : ℕ) → InOrder ss → first_failed ss ≡ Some k → LowestFailed ss k
first_is [] k i e = cc
first_is (s ∷ before) k i e =
    let stays : first_failed before ≡ Some k → LowestFailed (s ∷ before) k = λ f.
    let old = first_is before k i.1 f in
    let low = has_low before k Failed i.1 old.has in
    record { has = inr old.has; least = λ j l. ⊎_elim (λ h. omega (arith, h.0, i.0)) (old.least j l) } in
    let comes : (first_failed before ≡ None) × (s.outcome ≡ Failed) × (k ≡ s.number) → LowestFailed (s ∷ before) k = λ f.
    record { has = inl (sym f.2, f.1); least = λ j l. ⊎_elim (λ h. omega (arith, h.0, f.2)) (none_failed before j f.0) } in
    ⊎_elim stays comes (some_now (first_failed before) s.outcome s.number k e)

same_lowest : (ss : List Settlement) (j k : ℕ) → LowestFailed ss j → LowestFailed ss k → j ≡ k
same_lowest ss j k a b =
    ⊎_elim (λ l. absurd (b.least j l a.has)) (λ g. ⊎_elim (λ l. absurd (a.least k l b.has)) (λ h. omega arith) (cases_lt k j)) (cases_lt j k)

which_first : (ss : List Settlement) (k : ℕ) (f : Option ℕ) → InOrder ss → LowestFailed ss k → first_failed ss ≡ f → f ≡ Some k
which_first ss k None i low e = absurd (none_failed ss k e low.has)
which_first ss k (Some j) i low e = ap Some (same_lowest ss j k (first_is ss j i e) low)

pub is_first : (ss : List Settlement) (k : ℕ) → InOrder ss → LowestFailed ss k → first_failed ss ≡ Some k
is_first ss k i low = which_first ss k (first_failed ss) i low refl

pub none_has_failed : (ss : List Settlement) → first_failed ss ≡ None → NoneFailed ss
none_has_failed ss e k = none_failed ss k e

none_first : (ss : List Settlement) (f : Option ℕ) → InOrder ss → NoneFailed ss → first_failed ss ≡ f → f ≡ None
none_first ss None i none e = refl
none_first ss (Some k) i none e = absurd (none k (first_is ss k i e).has)

pub no_first : (ss : List Settlement) → InOrder ss → NoneFailed ss → first_failed ss ≡ None
no_first ss i none = none_first ss (first_failed ss) i none refl

-- all numbers below how many there are, and no others, are settled
pub each_settled : (ss : List Settlement) → InOrder ss → (k : ℕ) → k < length ss → IsSettled k ss
each_settled [] i k l = absurd (omega arith)
each_settled (s ∷ before) i k l =
    let here : length before ≤ k → IsSettled k (s ∷ before) = λ h. (s.outcome, inl (omega (arith, i.0), refl)) in
    let there : k < length before → IsSettled k (s ∷ before) = λ h. let e = each_settled before i.1 k h in (e.0, inr e.1) in
    ⊎_elim there here (cases_lt k (length before))

pub settled_low : (ss : List Settlement) (k : ℕ) → InOrder ss → IsSettled k ss → k < length ss
settled_low ss k i h = has_low ss k h.0 i h.1

-- some are settled as open exactly if some are counted as open
one_open : (o : Outcome) → o ≡ Open → one_if Open o ≡ 1
one_open o e = ap (one_if Open) e

pub some_open : (ss : List Settlement) (k : ℕ) → HasSettled k Open ss → 0 < how_many Open ss
some_open [] k h = absurd h
some_open (s ∷ before) k (inl h) = omega (arith, one_open s.outcome h.1)
some_open (s ∷ before) k (inr h) = let l = some_open before k h in omega arith

open_now : (o : Outcome) (n : ℕ) → 0 < n + one_if Open o → (o ≡ Open) ⊎ (0 < n)
open_now Passed n l = inr (omega arith)
open_now Failed n l = inr (omega arith)
open_now Open n l = inl refl

pub which_open : (ss : List Settlement) → 0 < how_many Open ss → (k : ℕ) × HasSettled k Open ss
which_open [] l = absurd (omega arith)
which_open (s ∷ before) l =
    ⊎_elim (λ e. (s.number, inl (refl, e))) (λ m. let w = which_open before m in (w.0, inr w.1)) (open_now s.outcome (how_many Open before) l)
