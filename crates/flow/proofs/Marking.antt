-- What is seen is reached, and once all that is seen is done, what is reached is seen.
use Rattle.std.proofs.Common.{◌≡◌, ℕ, zero, suc, ◌+◌, ◌<◌, ◌≤◌, Bool, true, false, ◌≢◌, ◌⊎◌, List, [], ◌∷◌, length, set, replicate, Some, None, Option, MatchOption, nat_lt, ◌&&◌, Decides, subst, sym, refl, ap, ◌∙◌, inl, inr, ⊎_elim, arith, get_or-set_other, get_or-set_same, below_more}
use Rattle.std.proofs.lemmas.Bool.{cases_eq, cases_lt, false_from_ne_true}
use Rattle.std.proofs.lemmas.Bool.Decides.{Decides-and, Decides-ltb}
use Rattle.flow.specs.declared.step.Step.{Step}
use Rattle.flow.specs.declared.flow.TheConstants.{MOST_STEPS}
use Rattle.flow.specs.declared.circle.Mark.{Mark}
use Rattle.flow.specs.declared.circle.Mark.TheVariants.{Unseen, Seen, Done}
use Rattle.flow.specs.Steps.{at, leads, Next, Reach, one, onto}
use Rattle.flow.specs.Circles.{mark_at, reached, comes, Spread, Pending}
use Rattle.flow.specs.Counts.{Enclosed}
use Rattle.flow.proofs.Leading.{never, leads_inside}

-- what reaches another is a statement
pub within : (u : List Step) (i j : ℕ) → Reach u i j → i < length u
within u i j (one n) = leads_inside u i j n
within u i k (onto {j = j} r n) = within u i j r

-- and so is what it reaches
reached_inside : (u : List Step) (i j : ℕ) → Reach u i j → j < length u
reached_inside u i j (one n) = n.0
reached_inside u i j (onto r n) = n.0

-- ---- one mark
missed : (m : Mark) (b : Bool) → b ≡ false → reached m b ≡ m
missed Unseen true e = never (sym e)
missed Unseen false e = refl
missed Seen b e = refl
missed Done b e = refl

kept : (m : Mark) (b : Bool) → m ≢ Unseen → reached m b ≢ Unseen
kept Unseen b h = absurd (h refl)
kept Seen b h = h
kept Done b h = h

came : (m : Mark) (b : Bool) → b ≡ true → reached m b ≢ Unseen
came Unseen true e = λ f. cc
came Unseen false e = never e
came Seen b e = λ f. cc
came Done b e = λ f. cc

seen_by : (m : Mark) (b : Bool) → reached m b ≢ Unseen → (m ≢ Unseen) ⊎ (b ≡ true)
seen_by Unseen true h = inr refl
seen_by Unseen false h = absurd (h refl)
seen_by Seen b h = inl h
seen_by Done b h = inl h

was_done : (m : Mark) (b : Bool) → reached m b ≡ Done → m ≡ Done
was_done Unseen true e = cc
was_done Unseen false e = cc
was_done Seen b e = e
was_done Done b e = e

-- ---- where control comes
comes_decides : (u : List Step) (i j : ℕ) → Decides (comes u i j) (Next u i j)
comes_decides u i j = Decides-and (nat_lt j (length u)) (leads i (at u i) j (at u j)) (Decides-ltb j (length u)) (λ e. e, λ e. e)

-- ---- the successors of i below j are seen; there is none from high on
pub record Spreading (u : List Step) (i : ℕ) (old new : List Mark) (j high : ℕ) : Type 0 where
  pub few : high ≤ length u
  pub none_above : (k : ℕ) → Next u i k → k < high
  pub below : (k : ℕ) → k < j → mark_at new k ≡ reached (mark_at old k) (comes u i k)
  pub above : (k : ℕ) → j ≤ k → mark_at new k ≡ mark_at old k

no_successor : (u : List Step) (i k : ℕ) → (Next u i k → ⊥) → comes u i k ≡ false
no_successor u i k h = false_from_ne_true (comes u i k) (λ e. h ((comes_decides u i k).0 e))

pub spread_begins : (u : List Step) (i : ℕ) (old : List Mark) (low high : ℕ) → Enclosed (λ j. leads i (at u i) j (at u j)) (length u) low high → Spreading u i old old low high
spread_begins u i old low high h = record {
  few = h.1;
  none_above = λ k n. (h.2 k n.0 n.1).1;
  below = λ k l. sym (missed (mark_at old k) (comes u i k) (no_successor u i k (λ n. let b = (h.2 k n.0 n.1).0 in omega arith)));
  above = λ k l. refl;
}

pub spread_more : (u : List Step) (i : ℕ) (old new : List Mark) (low high j further : ℕ) (m : Mark) → j ≡ low → further ≡ low + 1 → j < high → j < length new
    → m ≡ reached (mark_at new j) (leads i (at u i) j (at u j)) → Spreading u i old new low high → Spreading u i old (set new j m) further high
spread_more u i old new low high j further m is on l inside e s =
    let here : mark_at (set new j m) j ≡ reached (mark_at old j) (comes u i j) =
    get_or-set_same new j m Unseen inside ∙ e ∙ ap (λ (x : Mark). reached x (leads i (at u i) j (at u j))) (s.above j (omega arith))
    ∙ ap (λ (b : Bool). reached (mark_at old j) (b && leads i (at u i) j (at u j))) (sym ((Decides-ltb j (length u)).1 (let f = s.few in omega arith))) in
    let other : (k : ℕ) → k ≢ j → mark_at (set new j m) k ≡ mark_at new k = λ k ne. get_or-set_other new j k m Unseen ne in record {
      few = s.few;
      none_above = s.none_above;
      below = λ k h. below_more (λ k. mark_at (set new j m) k ≡ reached (mark_at old k) (comes u i k)) j (λ k h. other k (omega arith) ∙ s.below k (omega arith)) here k (omega arith);
      above = λ k h. other k (omega arith) ∙ s.above k (omega arith);
    }

pub spread_ends : (u : List Step) (i : ℕ) (old new : List Mark) (j high : ℕ) → high ≤ j → Spreading u i old new j high → Spread u i old new
spread_ends u i old new j high h s k = ⊎_elim
    (λ l. s.below k l)
    (λ l. s.above k l ∙ sym (missed (mark_at old k) (comes u i k) (no_successor u i k (λ n. let b = s.none_above k n in omega arith))))
    (cases_lt k j)

-- ---- one that is seen and not done, by a search through the statements
pub found_pending : (u : List Step) (marks : List Mark) (n : ℕ) (r : Option ℕ) → n ≡ length u
    → MatchOption r ((k : ℕ) → 0 ≤ k → k < n → mark_at marks k ≡ Seen → ⊥) (λ j. (0 ≤ j) × (j < n) × (mark_at marks j ≡ Seen) × ((k : ℕ) → 0 ≤ k → k < j → mark_at marks k ≡ Seen → ⊥)) → Pending u marks r
found_pending u marks n None e h = λ j l s. h j (omega arith) (omega arith) s
found_pending u marks n (Some j) e h = (omega (arith, h.1), h.2)

-- ---- how many are not done
abbrev pub unfinished : Mark → ℕ
unfinished Unseen = 1
unfinished Seen = 1
unfinished Done = 0

abbrev pub undone : List Mark → ℕ
undone [] = 0
undone (m ∷ ms) = unfinished m + undone ms

still : (m : Mark) (b : Bool) → unfinished (reached m b) ≡ unfinished m
still Unseen true = refl
still Unseen false = refl
still Seen b = refl
still Done b = refl

as_many : (to : ℕ → Bool) (old new : List Mark) → length new ≡ length old → ((k : ℕ) → mark_at new k ≡ reached (mark_at old k) (to k)) → undone new ≡ undone old
as_many to [] [] e h = refl
as_many to [] (n ∷ new) e h = absurd (omega arith)
as_many to (m ∷ old) [] e h = absurd (omega arith)
as_many to (m ∷ old) (n ∷ new) e h = omega (arith, ap unfinished (h 0), still m (to 0), as_many (λ k. to (suc k)) old new (omega arith) (λ k. h (suc k)))

finished : (marks : List Mark) (j : ℕ) → j < length marks → mark_at marks j ≡ Seen → undone (set marks j Done) < undone marks
finished [] j h e = absurd (omega arith)
finished (m ∷ marks) zero h e = omega (arith, ap unfinished e)
finished (m ∷ marks) (suc j) h e = let k = finished marks j (omega arith) e in omega arith

pub fewer : (u : List Step) (j : ℕ) (marks new : List Mark) → j < length marks → mark_at marks j ≡ Seen → length new ≡ length (set marks j Done) → Spread u j (set marks j Done) new → undone new < undone marks
fewer u j marks new h e l s = omega (arith, finished marks j h e, as_many (comes u j) (set marks j Done) new l s)

-- ---- the marks of what i reaches
pub record Marks (u : List Step) (i : ℕ) (marks : List Mark) : Type 0 where
  pub sound : (j : ℕ) → mark_at marks j ≢ Unseen → Reach u i j
  pub first : (j : ℕ) → Next u i j → mark_at marks j ≢ Unseen
  pub after : (j k : ℕ) → mark_at marks j ≡ Done → Next u j k → mark_at marks k ≢ Unseen

blank : (n k : ℕ) → mark_at (replicate n Unseen) k ≡ Unseen
blank zero k = refl
blank (suc n) zero = refl
blank (suc n) (suc k) = blank n k

pub begun : (u : List Step) (i : ℕ) (marks : List Mark) → Spread u i (replicate MOST_STEPS Unseen) marks → Marks u i marks
begun u i marks s = record {
  sound = λ j ne. ⊎_elim (λ h. absurd (h (blank MOST_STEPS j))) (λ e. one ((comes_decides u i j).0 e)) (seen_by (mark_at (replicate MOST_STEPS Unseen) j) (comes u i j) (λ f. ne (s j ∙ f)));
  first = λ j n e. came (mark_at (replicate MOST_STEPS Unseen) j) (comes u i j) ((comes_decides u i j).1 n) (sym (s j) ∙ e);
  after = λ j k e n. let d = was_done (mark_at (replicate MOST_STEPS Unseen) j) (comes u i j) (sym (s j) ∙ e) in let f = blank MOST_STEPS j in cc;
}

only : (m : Mark) → m ≢ Unseen → m ≢ Seen → m ≡ Done
only Unseen h k = absurd (h refl)
only Seen h k = absurd (k refl)
only Done h k = refl

module _ (u : List Step) (i : ℕ) (marks : List Mark) (m : Marks u i marks) where
  -- one more is done
  pub again : (j : ℕ) (new : List Mark) → j < length marks → mark_at marks j ≡ Seen → Spread u j (set marks j Done) new → Marks u i new
  again j new inside e s =
      let set_at : mark_at (set marks j Done) j ≡ Done = get_or-set_same marks j Done Unseen inside in
      let other : (k : ℕ) → k ≢ j → mark_at (set marks j Done) k ≡ mark_at marks k = λ k ne. get_or-set_other marks j k Done Unseen ne in
      let seen : mark_at marks j ≢ Unseen = λ f. cc in
      let stays : (k : ℕ) → mark_at marks k ≢ Unseen → mark_at new k ≢ Unseen = λ k ne f. kept (mark_at (set marks j Done) k) (comes u j k)
      (λ g. ⊎_elim (λ is. let h = ap (mark_at (set marks j Done)) is in cc) (λ no. ne (sym (other k no) ∙ g)) (cases_eq k j)) (sym (s k) ∙ f) in record {
        sound = λ k ne. ⊎_elim
            (λ was. ⊎_elim (λ is. subst (Reach u i) (sym is) (m.sound j seen)) (λ no. m.sound k (λ f. was (other k no ∙ f))) (cases_eq k j))
            (λ to. onto (m.sound j seen) ((comes_decides u j k).0 to))
            (seen_by (mark_at (set marks j Done) k) (comes u j k) (λ f. ne (s k ∙ f)));
        first = λ k n. stays k (m.first k n);
        after = λ h k f n. ⊎_elim
            (λ is e2. came (mark_at (set marks j Done) k) (comes u j k) ((comes_decides u j k).1 (subst (λ (x : ℕ). Next u x k) is n)) (sym (s k) ∙ e2))
            (λ no. stays k (m.after h k (sym (other h no) ∙ was_done (mark_at (set marks j Done) h) (comes u j h) (sym (s h) ∙ f)) n))
            (cases_eq h j);
      }

  module _ (over : (k : ℕ) → k < length u → mark_at marks k ≢ Seen) where
    -- all that is seen is done
    done : (k : ℕ) → mark_at marks k ≢ Unseen → mark_at marks k ≡ Done
    done k ne = only (mark_at marks k) ne (over k (reached_inside u i k (m.sound k ne)))

    pub complete : (k : ℕ) → Reach u i k → mark_at marks k ≢ Unseen
    complete k (one n) = m.first k n
    complete k (onto {j = j} r n) = m.after j k (done j (complete j r)) n
