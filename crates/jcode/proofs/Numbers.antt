-- Numbers and labels: reading and spelling agree.
use Rattle.std.proofs.Common.{◌≡◌, ℕ, zero, suc, ◌+◌, ◌^◌, ◌<◌, ◌≤◌, Bool, true, false, eqb, ltb, leb, not, ◌&&◌, List, [], ◌∷◌, ◌++◌, length, take, drop, get_or, ℤ, pos, negsuc, neg_ℤ, sym, refl, ap, ◌∙◌, subst, ⊎_elim, arith, rules, length-drop}
use Rattle.std.specs.Prelude.{decimal}
use Rattle.std.specs.Bool.{then_some}
use Rattle.std.specs.List.{list_all}
use Rattle.std.proofs.lemmas.Bool.{cases_lt, cond-true, cond-false, and_parts, and_from, and_left, and_right, not-true, not_from_false, eq-eqb, ne_eqb, eqb-true, eqb-false, le-leb, leb-true, le-ltb, lt-ltb, both_ways}
use Rattle.std.proofs.lemmas.Fmt.{decimal_digit, decimal_nonempty, first_decimal, digits_decimal, digits_value-decimal, decimal-digits_value}
use Rattle.std.proofs.lemmas.Int.{ints}
use Rattle.std.proofs.lemmas.List.{drop_more, get_or_past, length-take-le}
use Rattle.std.proofs.lemmas.Str.Parse.{IsNumeralModel, numerals_by_fold}
use Rattle.jcode.specs.Bytes.{digit, slice, stands, run_at}
use Rattle.jcode.specs.Language.{Language, ◌⊙◌, Just, Number, Label, Spelt}
use Rattle.jcode.specs.Spelling.{Sizes}
use Rattle.jcode.specs.Pieces.{got, and_then, value_after, is_proper, proper, numbered, read_decimal, greatest, read_number, read_label}
use Rattle.jcode.proofs.Outcomes.{refused_got, got_what, got_next, then_got, unless_got, either_got}
use Rattle.jcode.proofs.Places.{byte, length_between, joins, parts, spelt_as, spelt_front}
use Rattle.jcode.proofs.Agreement.{plain, Stops, Finds, found, Agrees}
use Rattle.jcode.proofs.Fronts.{stands_byte, run, front_passes, front_spelt, front_length, front_next, front_is}
use Rattle.jcode.proofs.Classes.{begins, begins_with, digit_least}

-- a single byte
module _ (bytes : List ℕ) (b : ℕ) (some : 0 < b) where
  pub byte_spelt : (i : ℕ) → i ≤ length bytes → stands b bytes i ≡ true → Spelt (Just (b ∷ [])) bytes i (i + 1)
  byte_spelt i l e =
      let is : byte bytes i ≡ b = eqb-true _ _ (sym (stands_byte b some bytes i) ∙ e) in
      let in_it : i < length bytes = ⊎_elim (λ h. h) (λ h. absurd (omega (arith, get_or_past bytes i 0 h))) (cases_lt i (length bytes)) in
      spelt_front (Just (b ∷ [])) i 1 l (omega (arith, length-drop i bytes)) (ap (take 1) (drop_more bytes i 0 in_it) ∙ ap (λ x. x ∷ []) is)

  pub byte_stands : {i j : ℕ} {w : List ℕ} → Spelt (Just (b ∷ w)) bytes i j → stands b bytes i ≡ true
  byte_stands {i = i} {w = w} s = stands_byte b some bytes i ∙ eq-eqb _ _ (begins_with bytes b w some s)

own : IsNumeralModel (λ s. list_all digit s ≡ true) (value_after 0)
own = numerals_by_fold _ (search rules) value_after (search rules)

abbrev pub Decimal : ℕ → ℕ → ℕ → Language
Decimal low high n w = (low ≤ n) × (n ≤ high) × (w ≡ decimal n)

-- one zero, or none in front
zero_alone : (s : List ℕ) → not (ltb 1 (length s) && stands 48 s 0) ≡ true → 0 < length s → get_or s 0 0 ≡ 48 → length s ≡ 1
zero_alone s e some z =
    ⊎_elim
    (λ h. absurd (both_ways (ltb 1 (length s) && stands 48 s 0) (not-true _ e) (and_from _ _ (lt-ltb 1 (length s) h) (stands_byte 48 (omega arith) s 0 ∙ eq-eqb _ _ z))))
    (λ h. omega arith)
    (cases_lt 1 (length s))

zero_apart : (n : ℕ) → n < 2 ^ 64 → not (ltb 1 (length (decimal n)) && stands 48 (decimal n) 0) ≡ true
zero_apart n small =
    not_from_false _ (⊎_elim
    (λ h. and_right _ _ (stands_byte 48 (omega arith) (decimal n) 0 ∙ ne_eqb _ _ (λ e. omega (arith, first_decimal n h small))))
    (λ h. and_left _ _ (le-ltb 1 (length (decimal n)) (omega (arith, ap length (decimal_digit n (omega arith))))))
    (cases_lt 0 n))

pub decimal_first : (n : ℕ) → n < 2 ^ 64 → digit (get_or (decimal n) 0 0) ≡ true
decimal_first n small = first (decimal n) (digits_decimal own n small) (decimal_nonempty n small)
  where
    first : (w : List ℕ) → list_all digit w ≡ true → 0 < length w → digit (get_or w 0 0) ≡ true
    first [] e h = absurd (omega arith)
    first (b ∷ w) e h = (and_parts _ _ e).0

module _ (bytes : List ℕ) (low high : ℕ) (small : high < 2 ^ 64) where
  proper_got : (place j : ℕ) (s : List ℕ) {n k : ℕ} → numbered place j (proper s low high) ≡ got n k → (is_proper low high s n ≡ true) × (value_after 0 s ≡ n) × (j ≡ k)
  proper_got place j s e = by (is_proper low high s (value_after 0 s)) refl e
    where
      by : (b : Bool) → is_proper low high s (value_after 0 s) ≡ b → {n k : ℕ} → numbered place j (then_some b (value_after 0 s)) ≡ got n k → (is_proper low high s n ≡ true) × (value_after 0 s ≡ n) × (j ≡ k)
      by true is e = (subst (λ n. is_proper low high s n ≡ true) (got_what e) is, got_what e, got_next e)
      by false is e = absurd (refused_got e)

  pub decimal_sound : (place i n j : ℕ) → i ≤ length bytes → read_decimal place low high bytes i ≡ got n j → Spelt (Decimal low high n) bytes i j
  decimal_sound place i n j l e =
      let s = slice bytes (run_at digit bytes i) in
      let t = unless_got (eqb (run digit bytes i) 0) (numbered place (i + run digit bytes i) (proper s low high)) _ e in
      let u = proper_got place (i + run digit bytes i) s t.1 in
      let q = and_parts (not (ltb 1 (length s) && stands 48 s 0)) (leb low n && leb n high) u.0 in
      let r = and_parts (leb low n) (leb n high) q.1 in
      let most = leb-true n high r.1 in
      let f = front_spelt digit bytes i l in
      let some : 0 < run digit bytes i = ⊎_elim (λ h. h) (λ h. absurd (eqb-false (run digit bytes i) 0 t.0 (omega arith))) (cases_lt 0 (run digit bytes i)) in
      let len : length s ≡ run digit bytes i = length-take-le (run digit bytes i) (drop i bytes) (omega (arith, length-drop i bytes, f.within)) in
      let is : decimal n ≡ s = subst (λ n. decimal n ≡ s) u.1 (decimal-digits_value own s (front_passes digit bytes i) (omega arith) (zero_alone s q.0 (omega arith)) (omega (arith, u.1))) in
      subst (Spelt (Decimal low high n) bytes i) u.2 (spelt_as (λ w h. (leb-true low n r.0, most, h ∙ sym is)) f)

  pub decimal_complete : (place i n j : ℕ) → Spelt (Decimal low high n) bytes i j → Stops digit bytes j → read_decimal place low high bytes i ≡ got n j
  decimal_complete place i n j s stop =
      let h = s.belongs in
      let bound : n < 2 ^ 64 = (let m = h.1 in omega arith) in
      let all : Spelt (λ w. list_all digit w ≡ true) bytes i j = spelt_as (λ w h. ap (list_all digit) h.2 ∙ digits_decimal own n bound) s in
      let is : slice bytes (run_at digit bytes i) ≡ decimal n = front_is digit bytes i j all stop ∙ h.2 in
      let value : value_after 0 (decimal n) ≡ n = digits_value-decimal own n bound in
      let good : is_proper low high (decimal n) n ≡ true = and_from _ _ (zero_apart n bound) (and_from _ _ (le-leb low n h.0) (le-leb n high h.1)) in
      let f = s.forward in
      let len : 0 < run digit bytes i = omega (arith, front_length digit bytes i j all stop, ap length h.2, length_between bytes i j s.within, decimal_nonempty n bound) in
      cond-false _ _ _ (ne_eqb (run digit bytes i) 0 (λ e. omega arith))
      ∙ (λ k. numbered place (front_next digit bytes i j all stop k) (proper (is k) low high))
      ∙ ap (λ v. numbered place j (then_some (is_proper low high (decimal n) v) v)) value
      ∙ ap (λ b. numbered place j (then_some b n)) good

minus : (n : ℕ) (w : List ℕ) → (Just (45 ∷ []) ⊙ Decimal 1 2000000000 n) w → Number (neg_ℤ (pos n)) w
minus zero w h = absurd (let l = h.3.0 in omega arith)
minus (suc n) w h = let l = h.3.1 in (omega (arith, ints), omega (arith, ints), h.4 ∙ (λ k. h.2 k ++ h.3.2 k))

module _ {tables : Sizes} {bytes : List ℕ} where
  pub label_agrees : Agrees tables bytes read_label (λ l. l) (plain Label) (Stops digit bytes)
  label_agrees = record {
    sound = λ i n j l e. record { spelt = decimal_sound bytes 1 9999 (omega arith) i i n j l e; keeps = tt; fits = tt };
    complete = λ i n j s _ stop. found n (decimal_complete bytes 1 9999 (omega arith) i i n j s stop) refl;
  }

  pub number_agrees : Agrees tables bytes read_number (λ z. z) (plain Number) (Stops digit bytes)
  number_agrees = record {
    sound = λ i z j l e.
        ⊎_elim
        (λ t.
        let u = then_got (read_decimal i 1 greatest bytes (i + 1)) (λ n j. got (neg_ℤ (pos n)) j) t.1 in
        let dash = byte_spelt bytes 45 (omega arith) i l t.0 in
        let p = decimal_sound bytes 1 2000000000 (omega arith) i (i + 1) u.0 u.1 dash.within u.2 in
        record { spelt = subst (λ z. Spelt (Number z) bytes i j) (got_what u.3) (subst (Spelt (Number (neg_ℤ (pos u.0))) bytes i) (got_next u.3) (spelt_as (minus u.0) (joins dash p))); keeps = tt; fits = tt })
        (λ t.
        let u = then_got (read_decimal i 0 greatest bytes i) (λ n j. got (pos n) j) t.1 in
        let p = decimal_sound bytes 0 2000000000 (omega arith) i i u.0 u.1 l u.2 in
        record { spelt = subst (λ z. Spelt (Number z) bytes i j) (got_what u.3) (subst (Spelt (Number (pos u.0)) bytes i) (got_next u.3) (spelt_as (λ w h. let l = h.1 in (omega (arith, ints), omega (arith, ints), h.2)) p)); keeps = tt; fits = tt })
        (either_got (stands 45 bytes i) _ _ e);
    complete = λ i z j s _ stop. by i z j s stop;
  }
    where
      by : (i : ℕ) (z : ℤ) (j : ℕ) → Spelt (Number z) bytes i j → Stops digit bytes j → Finds tables bytes (λ z. z) (Unit {0}) (read_number bytes i) z j
      by i (pos n) j s stop =
          let h = s.belongs in
          let most : n ≤ 2000000000 = (let m = h.1 in omega (arith, ints)) in
          let p : Spelt (Decimal 0 2000000000 n) bytes i j = spelt_as (λ w h. (omega arith, most, h.2)) s in
          let first : digit (byte bytes i) ≡ true = begins bytes digit refl (λ w h. ap (λ w. digit (get_or w 0 0)) h.2 ∙ decimal_first n (omega arith)) p in
          let plus : stands 45 bytes i ≡ false = stands_byte 45 (omega arith) bytes i ∙ ne_eqb _ _ (λ e. omega (arith, digit_least (byte bytes i) first)) in
          found (pos n) (cond-false _ _ _ plus ∙ ap (λ o. and_then o (λ n j. got (pos n) j)) (decimal_complete bytes 0 2000000000 (omega arith) i i n j p stop)) refl
      by i (negsuc n) j s stop =
          let h = s.belongs in
          let most : suc n ≤ 2000000000 = (let m = h.0 in omega (arith, ints)) in
          let p : Spelt (Just (45 ∷ []) ⊙ Decimal 1 2000000000 (suc n)) bytes i j = spelt_as (λ w h. (45 ∷ [], decimal (suc n), refl, (omega arith, most, refl), h.2)) s in
          let c = parts p in
          let to : c.0 ≡ i + 1 = (let f = c.1.forward in omega (arith, ap length c.1.belongs, length_between bytes i c.0 c.1.within)) in
          let q = subst (λ k. Spelt (Decimal 1 2000000000 (suc n)) bytes k j) to c.2 in
          found (negsuc n) (cond-true _ _ _ (byte_stands bytes 45 (omega arith) c.1) ∙ ap (λ o. and_then o (λ n j. got (neg_ℤ (pos n)) j)) (decimal_complete bytes 1 2000000000 (omega arith) i (i + 1) (suc n) j q stop)) refl
