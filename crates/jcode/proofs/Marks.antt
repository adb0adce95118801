-- Marks, gaps and ends: reading and spelling agree.
use Rattle.std.proofs.Common.{◌≡◌, ℕ, ◌+◌, ◌-◌, ◌<◌, ◌≤◌, Bool, true, false, eqb, List, [], ◌∷◌, ◌++◌, length, take, drop, get_or, Some, None, Option, unwrap_or, sym, refl, ap, ◌∙◌, subst, inl, inr, ⊎_elim, arith, length-take, length-append}
use Rattle.std.specs.Bool.{then_some}
use Rattle.std.specs.List.{list_all}
use Rattle.std.proofs.lemmas.Bool.{cond-true, and_parts, and_from, eqb-true, eq-eqb, false≢true}
use Rattle.std.proofs.lemmas.List.{take_more, take_all, get_or_at}
use Rattle.std.proofs.lemmas.List.Folds.{list_all-append}
use Rattle.terms.specs.Words.{same_word}
use Rattle.jcode.specs.Bytes.{separator, slice, stands, run_at}
use Rattle.jcode.specs.Language.{Just, White, Gap, End, MayGap, between, Spelt}
use Rattle.jcode.specs.Spelling.{Sizes}
use Rattle.jcode.specs.Pieces.{got, read_mark, ends_in, white, passed, read_white, read_gap, read_end, past_gap, read_may_gap}
use Rattle.jcode.proofs.Outcomes.{refused_got, got_next, when_got}
use Rattle.jcode.proofs.Places.{length_between, spelt_as, spelt_none, spelt_front}
use Rattle.jcode.proofs.Agreement.{mark, Stops, Anywhere, found, Agrees}
use Rattle.jcode.proofs.Fronts.{stands_byte, front_passes, front_spelt, front_stops, front_next, front_is}

-- words are the same where the test says so
pub same_words : (a b : List ℕ) → same_word a b ≡ true → a ≡ b
same_words [] [] e = refl
same_words [] (y ∷ b) e = absurd (false≢true e)
same_words (x ∷ a) [] e = absurd (false≢true e)
same_words (x ∷ a) (y ∷ b) e = let q = and_parts _ _ e in λ i. eqb-true x y q.0 i ∷ same_words a b q.1 i

pub same_refl : (a : List ℕ) → same_word a a ≡ true
same_refl [] = refl
same_refl (x ∷ a) = and_from _ _ (eq-eqb x x refl) (same_refl a)

-- separators that end in this one
pub white_there : (last : ℕ) → 0 < last → (w : List ℕ) → list_all separator w ≡ true → ends_in last w ≡ true → White last w
white_there last h [] all e = absurd (false≢true e)
white_there last h (b ∷ s) all e =
    let n = length s in
    let w = b ∷ s in
    let m : n + 1 ≡ length w = omega arith in
    let k : length w - 1 ≡ n = omega arith in
    let ends : get_or w n 0 ≡ last = eqb-true _ _ (sym (stands_byte last h w n) ∙ ap (stands last w) (sym k) ∙ e) in
    let cut : w ≡ take n w ++ last ∷ [] = sym (take_all (n + 1) w (omega arith)) ∙ take_more w n 0 (omega arith) ∙ ap (λ x. take n w ++ x ∷ []) ends in
    let parts = and_parts _ _ (sym (list_all-append separator (take n w) (last ∷ [])) ∙ ap (list_all separator) (sym cut) ∙ all) in
    (take n w, parts.0, cut)

pub white_passes : (last : ℕ) → separator last ≡ true → (w : List ℕ) → White last w → list_all separator w ≡ true
white_passes last sep w h = ap (list_all separator) h.2 ∙ list_all-append separator h.0 (last ∷ []) ∙ and_from _ _ h.1 (and_from _ _ sep refl)

pub white_ends : (last : ℕ) → 0 < last → (w : List ℕ) → White last w → ends_in last w ≡ true
white_ends last h w x =
    let n : length w - 1 ≡ length x.0 = omega (arith, ap length x.2, length-append x.0 (last ∷ [])) in
    stands_byte last h w (length w - 1) ∙ eq-eqb _ _ ((λ i. get_or (x.2 i) (n i) 0) ∙ get_or_at x.0 last [] 0 (length x.0) refl)

module _ (bytes : List ℕ) (last : ℕ) (more : 0 < last) (sep : separator last ≡ true) (i : ℕ) where
  -- a run of separators that ends so
  pub white_spelt : i ≤ length bytes → (n : ℕ) → white last bytes i ≡ Some n → Spelt (White last) bytes i (i + n)
  white_spelt l n e =
      let s = front_spelt separator bytes i l in
      let r = slice bytes (run_at separator bytes i) in
      by (ends_in last r) refl n e
    where
      by : (b : Bool) → ends_in last (slice bytes (run_at separator bytes i)) ≡ b → (n : ℕ) → then_some b (run_at separator bytes i).length ≡ Some n → Spelt (White last) bytes i (i + n)
      by true is n e =
          let m : (run_at separator bytes i).length ≡ n = cc in
          subst (λ n. Spelt (White last) bytes i (i + n)) m
          (spelt_as (λ w h. subst (White last) (sym h) (white_there last more _ (front_passes separator bytes i) is)) (front_spelt separator bytes i l))
      by false is n e = let z : ◌≡◌ {A = ℕ} 0 1 = cc in absurd (omega arith)

  pub white_read : (j : ℕ) → Spelt (White last) bytes i j → Stops separator bytes j → (n : ℕ) × (white last bytes i ≡ Some n) × (i + n ≡ j)
  white_read j s stop =
      let all = spelt_as (white_passes last sep) s in
      let e : ends_in last (slice bytes (run_at separator bytes i)) ≡ true = ap (ends_in last) (front_is separator bytes i j all stop) ∙ white_ends last more _ s.belongs in
      ((run_at separator bytes i).length, ap (λ b. then_some b (run_at separator bytes i).length) e, front_next separator bytes i j all stop)

module _ (bytes : List ℕ) where
  -- what is read between places
  read_where : (last i : ℕ) (o : Option ℕ) → white last bytes i ≡ o → {j : ℕ} → read_white last bytes i ≡ got tt j → (n : ℕ) × (o ≡ Some n) × (i + n ≡ j)
  read_where last i (Some n) e h = (n, refl, got_next (sym (ap (passed i) e) ∙ h))
  read_where last i None e h = absurd (refused_got (sym (ap (passed i) e) ∙ h))

  -- the place past a gap that may stand
  module _ (i : ℕ) where
    past_from : (o : Option ℕ) → white 32 bytes i ≡ o → i ≤ length bytes → Spelt MayGap bytes i (i + unwrap_or o 0)
    past_from (Some n) e l = spelt_as (λ w h. inr h) (white_spelt bytes 32 (omega arith) refl i l n e)
    past_from None e l = let z : i + 0 ≡ i = omega arith in subst (Spelt MayGap bytes i) (sym z) (spelt_none MayGap i l (inl refl))

    pub past_gap_spelt : i ≤ length bytes → Spelt MayGap bytes i (past_gap bytes i)
    past_gap_spelt l = past_from (white 32 bytes i) refl l

    pub past_gap_is : (j : ℕ) → Spelt MayGap bytes i j → Stops separator bytes j → past_gap bytes i ≡ j
    past_gap_is j s stop =
        ⊎_elim
        (λ e.
        let none : Spelt (λ w. list_all separator w ≡ true) bytes i j = record { forward = s.forward; within = s.within; belongs = ap (list_all separator) e } in
        let f = s.forward in
        let w : white 32 bytes i ≡ None = ap (λ r. then_some (ends_in 32 r) (run_at separator bytes i).length) (front_is separator bytes i j none stop ∙ e) in
        ap (λ o. i + unwrap_or o 0) w ∙ omega (arith, length_between bytes i j s.within, ap length e))
        (λ h.
        let w = white_read bytes 32 (omega arith) refl i j (record { forward = s.forward; within = s.within; belongs = h }) stop in
        ap (λ o. i + unwrap_or o 0) w.1 ∙ w.2)
        s.belongs

  -- at an end there is no gap
  pub end_no_gap : {i j : ℕ} → Spelt End bytes i j → Stops separator bytes j → past_gap bytes i ≡ i
  end_no_gap {i = i} {j = j} s stop =
      let w = between bytes i j in
      let h = s.belongs in
      let n : length w - 1 ≡ length h.0 = omega (arith, ap length h.2, length-append h.0 (10 ∷ [])) in
      let ends : ends_in 32 w ≡ false = stands_byte 32 (omega arith) w (length w - 1) ∙ ap (λ b. eqb b 32) ((λ k. get_or (h.2 k) (n k) 0) ∙ get_or_at h.0 10 [] 0 (length h.0) refl) in
      let run = front_is separator bytes i j (spelt_as (white_passes 10 refl) s) stop in
      let none : white 32 bytes i ≡ None = ap (λ b. then_some b (run_at separator bytes i).length) (ap (ends_in 32) run ∙ ends) in
      ap (λ o. i + unwrap_or o 0) none ∙ omega arith

  -- a run of separators is taken whole
  pub white_whole : (last i : ℕ) {j : ℕ} {u : Unit {0}} → read_white last bytes i ≡ got u j → Stops separator bytes j
  white_whole last i {j = j} e =
      let w = read_where last i (white last bytes i) refl e in
      by (ends_in last (slice bytes (run_at separator bytes i))) w.0 w.1 w.2
    where
      by : (b : Bool) (n : ℕ) → then_some b (run_at separator bytes i).length ≡ Some n → i + n ≡ j → Stops separator bytes j
      by true n is next =
          let m : (run_at separator bytes i).length ≡ n = cc in
          subst (Stops separator bytes) (ap (λ n. i + n) m ∙ next) (front_stops separator bytes i refl)
      by false n is next = let z : ◌≡◌ {A = ℕ} 0 1 = cc in absurd (omega arith)

module _ {tables : Sizes} {bytes : List ℕ} where
  pub white_agrees : (last : ℕ) → 0 < last → separator last ≡ true → Agrees tables bytes (read_white last) (λ u. u) (mark (White last)) (Stops separator bytes)
  white_agrees last more sep = record {
    sound = λ i a j l e.
        let w = read_where bytes last i (white last bytes i) refl e in
        record { spelt = subst (Spelt (White last) bytes i) w.2 (white_spelt bytes last more sep i l w.0 w.1); keeps = tt; fits = tt };
    complete = λ i b j s n stop.
        let w = white_read bytes last more sep i j s stop in
        found tt (ap (passed i) w.1 ∙ ap (got tt) w.2) refl;
  }

  pub gap_agrees : Agrees tables bytes read_gap (λ u. u) (mark Gap) (Stops separator bytes)
  gap_agrees = white_agrees 32 (omega arith) refl

  pub end_agrees : Agrees tables bytes read_end (λ u. u) (mark End) (Stops separator bytes)
  end_agrees = white_agrees 10 (omega arith) refl

  pub may_gap_agrees : Agrees tables bytes read_may_gap (λ u. u) (mark MayGap) (Stops separator bytes)
  may_gap_agrees = record {
    sound = λ i a j l e. record { spelt = subst (Spelt MayGap bytes i) (got_next e) (past_gap_spelt bytes i l); keeps = tt; fits = tt };
    complete = λ i b j s n stop. found tt (ap (got tt) (past_gap_is bytes i j s stop)) refl;
  }

  -- bytes that are one piece
  pub mark_agrees : (w : List ℕ) → Agrees tables bytes (read_mark w) (λ u. u) (mark (Just w)) Anywhere
  mark_agrees w = record {
    sound = λ i a j l e.
        let t = when_got (same_word (take (length w) (drop i bytes)) w) (got tt (i + length w)) _ e in
        let is = same_words (take (length w) (drop i bytes)) w t.0 in
        record {
          spelt = subst (Spelt (Just w) bytes i) (got_next t.1) (spelt_front (Just w) i (length w) l (omega (arith, ap length is, length-take (length w) (drop i bytes))) is);
          keeps = tt;
          fits = tt;
        };
    complete = λ i b j s n stop.
        let f = s.forward in
        let len : length w ≡ j - i = omega (arith, length_between bytes i j s.within, ap length s.belongs) in
        let to : i + length w ≡ j = omega arith in
        found tt (cond-true _ _ _ (ap (λ x. same_word x w) (ap (λ n. take n (drop i bytes)) len ∙ s.belongs) ∙ same_refl w) ∙ ap (got tt) to) refl;
  }
