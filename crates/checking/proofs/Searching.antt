-- The lowest statement that fails a test, looked for from the first on.
use Rattle.std.proofs.Common.{◌≡◌, ℕ, ◌<◌, ◌≤◌, Bool, true, false, not, List, [], ◌∷◌, map, length, get_or, Some, None, Option, is_none, ⊎_elim, sym, refl, ap, ◌∙◌, arith}
use Rattle.std.specs.List.{list_all, position, position_or_len}
use lib.ListN.{length-map}
use Rattle.std.proofs.lemmas.Grind.{common_steps}
use Rattle.std.proofs.lemmas.List.{get_or-map, get_or_past}
use Rattle.std.proofs.lemmas.List.Quantifiers.{position-Some}
use Rattle.std.proofs.lemmas.List.Sums.{position_or_len_is}
use Rattle.std.proofs.lemmas.List.Folds.{list_all_at}
use Rattle.std.proofs.lemmas.Bool.{cases_lt, both_ways, not-true, not-false}
use Rattle.flow.specs.Least.{Least}
use Rattle.jcode.specs.Sentences.{Sentence, Hang}
use Rattle.checking.specs.Rules.{Failing}

module _ {X : Type 0} (p : X → Bool) (xs : List X) (d : X) where
  pub lowest_is : (i : ℕ) → i < length xs → ((k : ℕ) → k < i → p (get_or xs k d) ≡ true) → p (get_or xs i d) ≡ false → Some i ≡ position (λ x. not (p x)) xs
  lowest_is i lt before here =
      let e : position_or_len (λ x. not (p x)) xs ≡ i = position_or_len_is (λ x. not (p x)) xs i d (omega arith) (λ k l. ap not (before k l)) (λ l. ap not here) in
      grind (arith, common_steps, e)

  pub none_is : ((k : ℕ) → k < length xs → p (get_or xs k d) ≡ true) → None ≡ position (λ x. not (p x)) xs
  none_is all =
      let e : position_or_len (λ x. not (p x)) xs ≡ length xs = position_or_len_is (λ x. not (p x)) xs (length xs) d (omega arith) (λ k l. ap not (all k l)) (λ l. absurd (omega arith)) in
      grind (arith, common_steps, e)

pub all_if_none : {X : Type 0} (p : X → Bool) (xs : List X) → is_none (position (λ x. not (p x)) xs) ≡ list_all p xs
all_if_none p [] = refl
all_if_none p (x ∷ xs) = grind (arith, common_steps, all_if_none p xs)

module _ {S T : Type 0} (test : Sentence T → Bool) (f : S → Sentence T) (xs : List S) (d : S) where
  at_place : (i : ℕ) → i < length xs → test (get_or (map f xs) i Hang) ≡ test (f (get_or xs i d))
  at_place i lt = ap test (get_or-map f xs i d Hang lt)

  passes_past : test Hang ≡ true → (i : ℕ) → length xs ≤ i → test (get_or (map f xs) i Hang) ≡ true
  passes_past hang i le = ap test (get_or_past (map f xs) i Hang (simp length-map (omega arith))) ∙ hang

  by_found : test Hang ≡ true → (o : Option ℕ) → position (λ s. not (test (f s))) xs ≡ o → Least (Failing test (map f xs)) o
  by_found hang None e = λ i fails.
      let all : list_all (λ s. test (f s)) xs ≡ true = sym (all_if_none (λ s. test (f s)) xs) ∙ ap is_none e in
      ⊎_elim
      (λ lt. both_ways _ (list_all_at (λ s. test (f s)) xs i d lt (sym (at_place i lt) ∙ fails)) all)
      (λ le. both_ways _ fails (passes_past hang i le))
      (cases_lt i (length xs))
  by_found hang (Some i) e =
      let found = position-Some (λ s. not (test (f s))) xs i d e in
      (at_place i found.0 ∙ not-true _ found.1, λ j lt fails. both_ways _ (sym (at_place j (omega arith)) ∙ fails) (not-false _ (found.2 j lt)))

  pub least_failing : test Hang ≡ true → Least (Failing test (map f xs)) (position (λ s. not (test (f s))) xs)
  least_failing hang = by_found hang _ refl
