-- Texts: reading and spelling agree.
use Rattle.std.proofs.Common.{◌≡◌, ℕ, zero, suc, ◌+◌, ◌-◌, ◌≤◌, Bool, true, false, cond, not, ◌&&◌, ltb, List, [], ◌∷◌, ◌++◌, length, take, drop, get_or, sym, refl, ap, ◌∙◌, subst, ⊎_elim, arith, one-add, length-drop, take-append-drop}
use Rattle.std.specs.Prelude.{codes}
use Rattle.std.specs.List.{list_all, prefix_len, range_with_len}
use Rattle.std.proofs.lemmas.Bool.{cases_Bool, cond-true, cond-false, and_parts, and_from, and_right, not-true, not_from_false, eqb-true, le-ltb, ltb-false}
use Rattle.std.proofs.lemmas.List.{get_or-drop, drop-drop, take_all, take_at, length-take-le}
use Rattle.std.proofs.lemmas.List.Folds.{length-prefix_len}
use Rattle.terms.specs.Words.{same_word}
use Rattle.jcode.specs.Bytes.{text_byte, slice, text_at, text_run, is_text}
use Rattle.jcode.specs.Language.{Language, Unclosed, IsText, Text, Spelt}
use Rattle.jcode.specs.Spelling.{Sizes}
use Rattle.jcode.specs.Pieces.{got, read_inner, read_text}
use Rattle.jcode.proofs.Outcomes.{got_what, got_next, unless_got}
use Rattle.jcode.proofs.Places.{byte, length_between, spelt_front}
use Rattle.jcode.proofs.Agreement.{plain, Anywhere, found, Agrees, after_agrees, before_agrees}
use Rattle.jcode.proofs.Fronts.{passes_byte}
use Rattle.jcode.proofs.Marks.{mark_agrees}

abbrev closes : List ℕ → Bool
closes s = same_word (take 2 s) (codes "/)")

abbrev goes_on : List ℕ → Bool
goes_on [] = false
goes_on (b ∷ s) = text_byte b && not (closes (b ∷ s))

-- how many bytes at the front are a text's
abbrev text_len : List ℕ → ℕ
text_len [] = 0
text_len (b ∷ s) = cond (goes_on (b ∷ s)) (1 + text_len s) 0

text_le : (s : List ℕ) → text_len s ≤ length s
text_le [] = omega arith
text_le (b ∷ s) =
    let h = text_le s in
    ⊎_elim
    (λ e. let r : text_len (b ∷ s) ≡ 1 + text_len s = cond-true _ _ _ e in omega arith)
    (λ e. let r : text_len (b ∷ s) ≡ 0 = cond-false _ _ _ e in omega arith)
    (cases_Bool (goes_on (b ∷ s)))

abbrev IsPlain : List ℕ → Type 0
IsPlain t = (list_all text_byte t ≡ true) × Unclosed t

open_front : (b : ℕ) (s : List ℕ) (n : ℕ) → closes (b ∷ s) ≡ false → closes (b ∷ take n s) ≡ false
open_front b s zero e = and_right _ _ refl
open_front b [] (suc n) e = e
open_front b (c ∷ s) (suc n) e = e

text_plain : (s : List ℕ) → IsPlain (take (text_len s) s)
text_plain [] = (refl, tt)
text_plain (b ∷ s) =
    let P : ℕ → Type 0 = λ n. IsPlain (take n (b ∷ s)) in
    let h = text_plain s in
    ⊎_elim
    (λ e. let r : text_len (b ∷ s) ≡ suc (text_len s) = cond-true _ _ _ e ∙ one-add _ in
    let q = and_parts _ _ e in
    subst P (sym r) (and_from _ _ q.0 h.0, (open_front b s (text_len s) (not-true _ q.1), h.1)))
    (λ e. let r : text_len (b ∷ s) ≡ 0 = cond-false _ _ _ e in subst P (sym r) (refl, tt))
    (cases_Bool (goes_on (b ∷ s)))

open_more : (b : ℕ) (t rest : List ℕ) → closes (b ∷ t) ≡ false → closes (b ∷ (t ++ 47 ∷ (41 ∷ rest))) ≡ false
open_more b [] rest e = and_right _ _ refl
open_more b (c ∷ t) rest e = e

text_is : (t rest : List ℕ) → list_all text_byte t ≡ true → Unclosed t → text_len (t ++ 47 ∷ (41 ∷ rest)) ≡ length t
text_is [] rest e u = refl
text_is (b ∷ t) rest e u =
    let q = and_parts _ _ e in
    cond-true _ _ _ (and_from _ _ q.0 (not_from_false _ (open_more b t rest u.0))) ∙ one-add _ ∙ ap suc (text_is t rest q.1 u.1)

abbrev Inner : List ℕ → Language
Inner t w = IsText t × (w ≡ t)

module _ (bytes : List ℕ) where
  text_here : (i b : ℕ) (s : List ℕ) → drop i bytes ≡ b ∷ s → text_at bytes i ≡ goes_on (b ∷ s)
  text_here i b s e =
      let to : i + 0 ≡ i = omega arith in
      let here : byte bytes i ≡ b = ap (byte bytes) (sym to) ∙ sym (get_or-drop i bytes 0 0) ∙ ap (λ s. get_or s 0 0) e in
      λ k. (passes_byte text_byte refl bytes i ∙ ap text_byte here) k && not (closes (e k))

  runs : (s : List ℕ) (i : ℕ) → drop i bytes ≡ s → prefix_len (text_at bytes) (range_with_len i (length s)) ≡ text_len s
  runs [] i e = refl
  runs (b ∷ s) i e =
      let rest = runs s (i + 1) (sym (drop-drop 1 i bytes) ∙ ap (drop 1) e) in
      λ k. cond (text_here i b s e k) (1 + rest k) 0

  module _ (i : ℕ) where
    abbrev n : ℕ
    n = (text_run bytes i).length

    run_is : n ≡ text_len (drop i bytes)
    run_is =
        length-prefix_len (text_at bytes) (range_with_len i (length bytes - i))
        ∙ ap (λ m. prefix_len (text_at bytes) (range_with_len i m)) (sym (length-drop i bytes))
        ∙ runs (drop i bytes) i refl

  abbrev Closes : ℕ → Type 0
  Closes j = take 2 (drop j bytes) ≡ codes "/)"

-- bytes that pass as a text's are so
pub plain_text : (t : List ℕ) → is_text t ≡ true → (list_all text_byte t ≡ true) × Unclosed t
plain_text t e =
    let all : text_len t ≡ length t = sym (run_is t 0) ∙ eqb-true (n t 0) (length t) e in
    subst IsPlain (take_all (text_len t) t (omega arith)) (text_plain t)

module _ {tables : Sizes} {bytes : List ℕ} where
  inner_agrees : Agrees tables bytes read_inner (slice bytes) (plain Inner) (Closes bytes)
  inner_agrees = record {
    sound = λ i a j l e.
        let t = unless_got (ltb 80 (n bytes i)) (got (text_run bytes i) (i + n bytes i)) _ e in
        let s = drop i bytes in
        let fits : n bytes i ≤ length s = omega (arith, run_is bytes i, text_le s) in
        let p : IsPlain (take (n bytes i) s) = subst (λ n. IsPlain (take n s)) (sym (run_is bytes i)) (text_plain s) in
        let short : length (take (n bytes i) s) ≤ 80 = omega (arith, ltb-false 80 (n bytes i) t.0, length-take-le (n bytes i) s fits) in
        let q : Spelt (Inner (take (n bytes i) s)) bytes i (i + n bytes i) = spelt_front (Inner (take (n bytes i) s)) i (n bytes i) l fits ((p.0, p.1, short), refl) in
        record { spelt = subst (λ s. Spelt (Inner (slice bytes s)) bytes i j) (got_what t.1) (subst (Spelt (Inner (take (n bytes i) s)) bytes i) (got_next t.1) q); keeps = tt; fits = tt };
    complete = λ i t j s _ stop.
        let h = s.belongs in
        let f = s.forward in
        let to : i + (j - i) ≡ j = omega arith in
        let rest : drop j bytes ≡ 47 ∷ (41 ∷ drop 2 (drop j bytes)) = sym (take-append-drop 2 (drop j bytes)) ∙ ap (λ u. u ++ drop 2 (drop j bytes)) stop in
        let whole : drop i bytes ≡ t ++ 47 ∷ (41 ∷ drop 2 (drop j bytes)) =
        sym (take-append-drop (j - i) (drop i bytes)) ∙ (λ k. h.1 k ++ (drop-drop (j - i) i bytes ∙ ap (λ m. drop m bytes) to ∙ rest) k) in
        let len : n bytes i ≡ length t = run_is bytes i ∙ ap text_len whole ∙ text_is t (drop 2 (drop j bytes)) h.0.0 h.0.1 in
        let most = h.0.2 in
        let next : i + n bytes i ≡ j = omega (arith, length_between bytes i j s.within, ap length h.1) in
        found (text_run bytes i) (cond-false _ _ _ (le-ltb 80 (n bytes i) (omega arith)) ∙ ap (got (text_run bytes i)) next)
        ((λ k. take (len k) (whole k)) ∙ take_at t (47 ∷ (41 ∷ drop 2 (drop j bytes))) (length t) refl);
  }

  pub text_agrees : Agrees tables bytes read_text (slice bytes) (plain Text) Anywhere
  text_agrees =
      after_agrees (mark_agrees (codes "(/"))
      (before_agrees inner_agrees (mark_agrees (codes "/)"))
      (λ b i j s stop.
      let f = s.forward in
      let two : j - i ≡ 2 = omega (arith, length_between bytes i j s.within, ap length s.belongs) in
      ap (λ n. take n (drop i bytes)) (sym two) ∙ s.belongs))
      (λ b i j s stop. tt)
