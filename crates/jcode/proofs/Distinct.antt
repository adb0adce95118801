-- Names that come one after another, none twice and no more than so many.
use Rattle.std.proofs.Common.{◌≡◌, ℕ, ◌+◌, ◌-◌, ◌<◌, ◌≤◌, Bool, false, ◌||◌, List, [], ◌∷◌, ◌++◌, map, length, sym, refl, ap, ◌∙◌, subst, ⊎_elim, arith}
use Rattle.std.specs.Cmp.{IsEquivalence}
use Rattle.std.specs.List.{IsDistinct, AllByRecursion, list_any}
use Rattle.std.proofs.lemmas.Bool.{cases_Bool, or_from, false_from_ne_true, both_ways}
use Rattle.std.proofs.lemmas.List.{append_assoc, append-nil, map_push}
use Rattle.std.proofs.lemmas.Map.Keys.{IsDistinct-push}
use Rattle.terms.specs.Words.{same_word}
use Rattle.jcode.proofs.Marks.{same_words, same_refl}
use Rattle.jcode.proofs.Repetition.{AllNeed}

pub same_word_laws : IsEquivalence same_word
same_word_laws = record { refl = same_refl; symm = symm; congr = λ x y z e. ap (λ x. same_word x z) (same_words x y e) }
  where
    symm : (x y : List ℕ) → same_word x y ≡ same_word y x
    symm x y =
        ⊎_elim
        (λ t. let e = same_words x y t in (λ k. same_word (e k) (sym e k)))
        (λ f. f ∙ sym (false_from_ne_true (same_word y x) (λ t. both_ways (same_word x y) f (ap (λ z. same_word z y) (sym (same_words y x t)) ∙ same_refl y))))
        (cases_Bool (same_word x y))

module _ {B K : Type 0} (eq : K → K → Bool) (laws : IsEquivalence eq) (key : B → K) where
  -- no key is this one
  abbrev pub Fresh : List B → B → Type 0
  Fresh seen b = list_any (λ x. eq (key b) (key x)) seen ≡ false

  abbrev Apart : List B → Type 0
  Apart bs = IsDistinct eq (map key bs)

  keys_any : (b : B) (seen : List B) → list_any (eq (key b)) (map key seen) ≡ list_any (λ x. eq (key b) (key x)) seen
  keys_any b [] = refl
  keys_any b (x ∷ seen) = ap (λ t. eq (key b) (key x) || t) (keys_any b seen)

  apart_push : (seen : List B) (b : B) → Apart seen → Fresh seen b → Apart (seen ++ b ∷ [])
  apart_push seen b d f = subst (IsDistinct eq) (sym (map_push key seen b)) (IsDistinct-push laws (map key seen) (key b) d (keys_any b seen ∙ f))

  all_at : (P : K → Type 0) (seen bs : List B) (b : B) → AllByRecursion P (map key (seen ++ b ∷ bs)) → P (key b)
  all_at P [] bs b h = h.0
  all_at P (x ∷ seen) bs b h = all_at P seen bs b h.1

  fresh_in : (seen bs : List B) (b : B) → Apart (seen ++ b ∷ bs) → Fresh seen b
  unfolding IsDistinct
  fresh_in [] bs b d = refl
  fresh_in (x ∷ seen) bs b d = or_from _ _ (laws.symm (key b) (key x) ∙ all_at (λ y. eq (key x) y ≡ false) seen bs b d.0) (fresh_in seen bs b d.1)

  abbrev pub AllFresh : ℕ → ℕ → List B → List B → Type 0
  AllFresh most = AllNeed (λ n. n < most) (λ seen b. Fresh seen b × Unit {0})

  pub fresh_there : (most n : ℕ) (seen bs : List B) → Apart seen → AllFresh most n seen bs → (length bs ≤ most - n) × Apart (seen ++ bs)
  fresh_there most n seen [] d h = (omega arith, subst Apart (sym (append-nil seen)) d)
  fresh_there most n seen (b ∷ bs) d h =
      let r = fresh_there most (n + 1) (seen ++ b ∷ []) bs (apart_push seen b d h.1.0) h.2 in
      let l = h.0 in
      let m = r.0 in
      (omega arith, subst Apart (append_assoc seen (b ∷ []) bs) r.1)

  pub fresh_back : (most n : ℕ) (seen bs : List B) → length bs ≤ most - n → Apart (seen ++ bs) → AllFresh most n seen bs
  fresh_back most n seen [] l d = tt
  fresh_back most n seen (b ∷ bs) l d =
      (omega arith, (fresh_in seen bs b d, tt), fresh_back most (n + 1) (seen ++ b ∷ []) bs (omega arith) (subst Apart (sym (append_assoc seen (b ∷ []) bs)) d))
