-- Classes of bytes that keep apart, and the first byte of a piece.
use Rattle.std.proofs.Common.{◌≡◌, ℕ, ◌+◌, ◌-◌, ◌<◌, ◌≤◌, Bool, true, false, leb, eqb, ◌&&◌, ◌||◌, List, [], ◌∷◌, length, get_or, sym, refl, ap, ◌∙◌, ⊎_elim, arith}
use Rattle.std.proofs.lemmas.Bool.{cases_lt, and_parts, and_left, or_cases, or_from, leb-true, lt-leb, eq-eqb, eqb-true, ne_eqb, both_ways}
use Rattle.std.specs.List.{list_all}
use Rattle.std.proofs.lemmas.List.{length-append, nil_from_length}
use Rattle.jcode.specs.Bytes.{separator, letter, digit, name_byte}
use Rattle.jcode.specs.Language.{Language, Just, White, Gap, MayGap, between, Spelt}
use Rattle.jcode.proofs.Places.{byte, byte_between, length_between}
use Rattle.jcode.proofs.Agreement.{Stops}
use Rattle.jcode.proofs.Marks.{white_passes}

pub letter_least : (b : ℕ) → letter b ≡ true → 65 ≤ b
letter_least b e =
    ⊎_elim
    (λ h. omega (arith, leb-true 97 b (and_parts (leb 97 b) (leb b 122) h).0))
    (λ h. leb-true 65 b (and_parts (leb 65 b) (leb b 90) h).0)
    (or_cases (leb 97 b && leb b 122) (leb 65 b && leb b 90) e)

pub digit_least : (b : ℕ) → digit b ≡ true → 48 ≤ b
digit_least b e = leb-true 48 b (and_parts _ _ e).0

pub separator_most : (b : ℕ) → separator b ≡ true → b ≤ 32
separator_most b e =
    ⊎_elim
    (λ h. omega (arith, eqb-true b 32 h))
    (λ h. ⊎_elim (λ k. omega (arith, eqb-true b 9 k)) (λ k. omega (arith, eqb-true b 10 k)) (or_cases (eqb b 9) (eqb b 10) h))
    (or_cases (eqb b 32) (eqb b 9 || eqb b 10) e)

pub large_no_separator : (b : ℕ) → 33 ≤ b → separator b ≡ false
large_no_separator b h = or_from _ _ (ne_eqb b 32 (λ e. omega arith)) (or_from _ _ (ne_eqb b 9 (λ e. omega arith)) (ne_eqb b 10 (λ e. omega arith)))

pub small_no_digit : (b : ℕ) → b < 48 → digit b ≡ false
small_no_digit b h = and_left _ _ (lt-leb 48 b h)

pub small_no_name : (b : ℕ) → b < 46 → name_byte b ≡ false
small_no_name b h =
    or_from _ _ (or_from _ _ (and_left _ _ (lt-leb 97 b (omega arith))) (and_left _ _ (lt-leb 65 b (omega arith))))
    (or_from _ _ (small_no_digit b (omega arith)) (or_from _ _ (ne_eqb b 46 (λ e. omega arith)) (or_from _ _ (ne_eqb b 95 (λ e. omega arith)) (ne_eqb b 126 (λ e. omega arith)))))

-- what prolongs a name, or makes it a word that opens more
abbrev pub head_byte : ℕ → Bool
head_byte b = name_byte b || eqb b 33

pub small_no_head : (b : ℕ) → b < 46 → (b ≡ 33 → ⊥) → head_byte b ≡ false
small_no_head b h n = or_from _ _ (small_no_name b h) (ne_eqb b 33 n)

pub letter_no_separator : (b : ℕ) → letter b ≡ true → separator b ≡ false
letter_no_separator b e = large_no_separator b (omega (arith, letter_least b e))

pub letter_is_not : (b c : ℕ) → letter b ≡ true → c < 65 → eqb b c ≡ false
letter_is_not b c e h = ne_eqb b c (λ q. omega (arith, letter_least b e))

module _ (bytes : List ℕ) where
  -- a piece that begins with a byte of a class
  pub begins : (c : ℕ → Bool) {P : Language} {i j : ℕ} → c 0 ≡ false → ((w : List ℕ) → P w → c (get_or w 0 0) ≡ true) → Spelt P bytes i j → c (byte bytes i) ≡ true
  begins c {i = i} {j = j} z h s =
      let w = between bytes i j in
      let k = h w s.belongs in
      ⊎_elim
      (λ l. let to : i + 0 ≡ i = omega arith in ap (λ n. c (byte bytes n)) (sym to) ∙ ap c (sym (byte_between bytes i j 0 l)) ∙ k)
      (λ l. absurd (both_ways (c 0) z (ap (λ w. c (get_or w 0 0)) (sym (nil_from_length w (omega (arith, length_between bytes i j s.within)))) ∙ k)))
      (cases_lt 0 (j - i))

  pub begins_with : (b : ℕ) (w : List ℕ) {i j : ℕ} → 0 < b → Spelt (Just (b ∷ w)) bytes i j → byte bytes i ≡ b
  begins_with b w {i = i} h s = eqb-true _ b (begins (λ x. eqb x b) (ne_eqb 0 b (λ e. omega arith)) (λ u e. ap (λ u. eqb (get_or u 0 0) b) e ∙ eq-eqb b b refl) s)

  pub white_begins : (last : ℕ) {i j : ℕ} → separator last ≡ true → Spelt (White last) bytes i j → separator (byte bytes i) ≡ true
  white_begins last sep s = begins separator refl (λ w h. first w (white_passes last sep w h) (nonempty w h)) s
    where
      nonempty : (w : List ℕ) → White last w → 0 < length w
      nonempty w h = omega (arith, ap length h.2, length-append h.0 (last ∷ []))

      first : (w : List ℕ) → list_all separator w ≡ true → 0 < length w → separator (get_or w 0 0) ≡ true
      first [] e h = absurd (omega arith)
      first (b ∷ w) e h = (and_parts _ _ e).0

  -- what no separator prolongs ends at a gap, and at one that may stand if it does at what follows
  pub may_gap_stops : (p : ℕ → Bool) → ((b : ℕ) → separator b ≡ true → p b ≡ false) → {i j : ℕ} → Spelt MayGap bytes i j → Stops p bytes j → Stops p bytes i
  may_gap_stops p off {i = i} {j = j} s n =
      ⊎_elim
      (λ e. let f = s.forward in
      let same : i ≡ j = omega (arith, length_between bytes i j s.within, ap length e) in
      ap (λ k. p (byte bytes k)) same ∙ n)
      (λ h. let g : Spelt Gap bytes i j = record { forward = s.forward; within = s.within; belongs = h } in
      off (byte bytes i) (white_begins 32 refl g))
      s.belongs

pub separator_no_name : (b : ℕ) → separator b ≡ true → name_byte b ≡ false
separator_no_name b e = small_no_name b (omega (arith, separator_most b e))

pub separator_no_digit : (b : ℕ) → separator b ≡ true → digit b ≡ false
separator_no_digit b e = small_no_digit b (omega (arith, separator_most b e))

pub separator_no_head : (b : ℕ) → separator b ≡ true → head_byte b ≡ false
separator_no_head b e = let h = separator_most b e in small_no_head b (omega arith) (λ q. omega arith)
