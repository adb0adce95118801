-- Words, names and variables: reading and spelling agree.
use Rattle.std.proofs.Common.{◌≡◌, ℕ, ◌+◌, ◌<◌, ◌≤◌, true, ltb, cond, List, length, drop, get_or, sym, refl, ap, ◌∙◌, subst, ⊎_elim, arith, length-drop, length-take}
use Rattle.std.specs.List.{list_all}
use Rattle.std.proofs.lemmas.Bool.{cases_lt, cond-true, cond-false, and_parts, and_from, or_left, both_ways, le-ltb, ltb-false}
use Rattle.std.proofs.lemmas.List.{get_or-drop, get_or-take}
use Rattle.terms.specs.Words.{same_word}
use Rattle.jcode.specs.declared.refusal.Refusal.TheVariants.{Missing}
use Rattle.jcode.specs.declared.span.Span.{Span}
use Rattle.jcode.specs.Bytes.{letter, name_byte, slice, passes, run_at, is_word}
use Rattle.jcode.specs.Language.{Language, Just, Name, Spelt}
use Rattle.jcode.specs.Spelling.{Sizes}
use Rattle.jcode.specs.Pieces.{got, refuse, read_word, read_name, read_keyword, short as short_enough}
use Rattle.jcode.proofs.Outcomes.{got_what, got_next, then_got, when_got, unless_got}
use Rattle.jcode.proofs.Places.{byte, spelt_as}
use Rattle.jcode.proofs.Agreement.{plain, mark, Stops, found, Agrees, finds_then, kept_agrees, spelling}
use Rattle.jcode.proofs.Fronts.{passes_byte, run, front_passes, front_spelt, front_stops, front_next, front_is}
use Rattle.jcode.proofs.Marks.{same_words, same_refl}
use Rattle.jcode.proofs.Classes.{begins}

abbrev pub Word : List ℕ → Language
Word n w = (is_word n ≡ true) × (w ≡ n)

pub word_first : (n : List ℕ) → is_word n ≡ true → letter (get_or n 0 0) ≡ true
word_first n e = sym (passes_byte letter refl n 0) ∙ (and_parts _ _ e).0

module _ (bytes : List ℕ) where
  -- what a word's reading tells
  pub word_is : {i : ℕ} {s : Span} {j : ℕ} → read_word bytes i ≡ got s j → (letter (byte bytes i) ≡ true) × (run_at name_byte bytes i ≡ s) × (i + run name_byte bytes i ≡ j)
  word_is {i = i} e =
      let t = when_got (passes letter bytes i) (got (run_at name_byte bytes i) (i + run name_byte bytes i)) _ e in
      (sym (passes_byte letter refl bytes i) ∙ t.0, got_what t.1, got_next t.1)

  word_begins : (i : ℕ) → letter (byte bytes i) ≡ true → 0 < run name_byte bytes i
  word_begins i e =
      ⊎_elim
      (λ h. h)
      (λ h. let z : i + run name_byte bytes i ≡ i = omega arith in
      absurd (both_ways (name_byte (byte bytes i)) (ap (λ k. name_byte (byte bytes k)) (sym z) ∙ front_stops name_byte bytes i refl) (or_left _ _ e)))
      (cases_lt 0 (run name_byte bytes i))

  pub word_length : {i : ℕ} {s : Span} {j : ℕ} → i ≤ length bytes → read_word bytes i ≡ got s j → length (slice bytes s) ≡ s.length
  word_length {i = i} l e =
      let t = word_is e in
      let f = front_spelt name_byte bytes i l in
      let h = f.within in
      subst (λ s. length (slice bytes s) ≡ s.length) t.1 (omega (arith, length-take (run name_byte bytes i) (drop i bytes), length-drop i bytes))

module _ {tables : Sizes} {bytes : List ℕ} where
  pub word_agrees : Agrees tables bytes read_word (slice bytes) (plain Word) (Stops name_byte bytes)
  word_agrees = record {
    sound = λ i a j l e.
        let t = word_is bytes e in
        let n = run name_byte bytes i in
        let s = slice bytes (run_at name_byte bytes i) in
        let to : i + 0 ≡ i = omega arith in
        let first : letter (get_or s 0 0) ≡ true = ap letter (get_or-take n (drop i bytes) 0 0 (word_begins bytes i t.0) ∙ get_or-drop i bytes 0 0 ∙ ap (byte bytes) to) ∙ t.0 in
        let is : is_word s ≡ true = and_from _ _ (passes_byte letter refl s 0 ∙ first) (front_passes name_byte bytes i) in
        let p : Spelt (Word s) bytes i (i + n) = spelt_as (λ w h. (is, h)) (front_spelt name_byte bytes i l) in
        record { spelt = subst (λ s. Spelt (Word (slice bytes s)) bytes i j) t.1 (subst (Spelt (Word s) bytes i) t.2 p); keeps = tt; fits = tt };
    complete = λ i b j s n stop.
        let h = s.belongs in
        let all : Spelt (λ w. list_all name_byte w ≡ true) bytes i j = spelt_as (λ w h. ap (list_all name_byte) h.1 ∙ (and_parts _ _ h.0).1) s in
        let first = begins bytes letter refl (λ w h. ap (λ w. letter (get_or w 0 0)) h.1 ∙ word_first b h.0) s in
        found (run_at name_byte bytes i) (cond-true _ _ _ (passes_byte letter refl bytes i ∙ first) ∙ ap (got (run_at name_byte bytes i)) (front_next name_byte bytes i j all stop)) (front_is name_byte bytes i j all stop ∙ h.1);
  }

  pub name_agrees : Agrees tables bytes read_name (slice bytes) (plain Name) (Stops name_byte bytes)
  name_agrees = record {
    sound = λ i a j l e.
        let s = short_words.sound i a j l e in
        record { spelt = spelt_as (λ w h. ((h.1.0, h.0), h.1.1)) s.spelt; keeps = tt; fits = tt };
    complete = λ i b j s n stop. short_words.complete i b j (spelt_as (λ w h. (h.0.1, (h.0.0, h.1))) s) tt stop;
  }
    where
      short_words : Agrees tables bytes read_name (slice bytes) (record { spells = λ n w. (length n ≤ 32) × Word n w; needs = λ t n. Unit {0} }) (Stops name_byte bytes)
      short_words =
          spelling (λ n. length n ≤ 32)
          (kept_agrees (λ n. length n ≤ 32) (λ _ s j. short_enough s j)
          (λ i a j l e h. cond-false _ _ _ (le-ltb 32 a.length (omega (arith, word_length bytes l e))))
          (λ i a j l e c k h. let u = unless_got (ltb 32 a.length) (got a j) _ h in
          let m = ltb-false 32 a.length u.0 in
          (u.1, omega (arith, word_length bytes l e)))
          word_agrees)

  pub keyword_agrees : (k : List ℕ) → is_word k ≡ true → Agrees tables bytes (read_keyword k) (λ u. u) (mark (Just k)) (Stops name_byte bytes)
  keyword_agrees k word = record {
    sound = λ i a j l e.
        let t = then_got (read_word bytes i) (λ s j. cond (same_word (slice bytes s) k) (got tt j) (refuse Missing i)) e in
        let u = when_got (same_word (slice bytes t.0) k) (got tt t.1) _ t.3 in
        let s = word_agrees.sound i t.0 t.1 l t.2 in
        record { spelt = subst (Spelt (Just k) bytes i) (got_next u.1) (spelt_as (λ w h. h.1 ∙ same_words _ k u.0) s.spelt); keeps = tt; fits = tt };
    complete = λ i b j s n stop.
        finds_then (λ u. u) (Unit {0}) tt j (λ s j. cond (same_word (slice bytes s) k) (got tt j) (refuse Missing i))
        (word_agrees.complete i k j (spelt_as (λ w h. (word, h)) s) tt stop) (λ m. tt)
        (λ a _ is. found tt (cond-true _ _ _ (ap (λ w. same_word w k) is ∙ same_refl k)) refl);
  }
