-- What holds of every mention of a term.
use Rattle.std.specs.Prelude.{◌≡◌, List, [], ◌∷◌, ℤ, refl}
use Rattle.terms.specs.declared.row.Row.{Row}
use Rattle.terms.specs.declared.row.Row.TheVariants.{Constant, Mention, Operator as Applied}
use Rattle.terms.specs.Terms.{numbered, value}
use Rattle.reckoning.specs.Evaluation.{Mentions}
use Rattle.reckoning.proofs.Relating.{related}

module _ {M : Type 0} (P : M → Type 0) where
  pub mentions_tail : (r : Row M) (rs : List (Row M)) → Mentions P (r ∷ rs) → Mentions P rs
  mentions_tail (Constant n) rs h = h
  mentions_tail (Mention m) rs h = h.1
  mentions_tail (Applied o) rs h = h

  pub mentions_all : ((m : M) → P m) → (rs : List (Row M)) → Mentions P rs
  mentions_all h [] = tt
  mentions_all h (Constant n ∷ rs) = mentions_all h rs
  mentions_all h (Mention m ∷ rs) = (h m, mentions_all h rs)
  mentions_all h (Applied o ∷ rs) = mentions_all h rs

-- a term's number depends only on what it mentions
pub value_agrees : {M : Type 0} (env other : M → ℤ) (rs : List (Row M)) → Mentions (λ m. env m ≡ other m) rs → value env rs ≡ value other rs
value_agrees env other rs same =
    related (numbered env) (numbered other) (numbered other) (λ x y _. x ≡ y) (Mentions (λ m. env m ≡ other m)) (mentions_tail (λ m. env m ≡ other m)) refl (λ n rs h. refl) (λ m rs h. h.0)
    (λ o rs h is. let e0 = is 0 in let e1 = is 1 in let e2 = is 2 in cc) rs same 0
