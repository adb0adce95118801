-- Related algebras give related folds.
use Rattle.std.specs.Prelude.{◌≡◌, ℕ, zero, suc, ◌+◌, List, [], ◌∷◌, ℤ, slice_index_or}
use Rattle.std.proofs.Common.{sym, subst}
use Rattle.std.proofs.lemmas.List.{get_or-drop}
use Rattle.terms.specs.declared.operator.Operator.{Operator}
use Rattle.terms.specs.declared.row.Row.{Row}
use Rattle.terms.specs.declared.row.Row.TheVariants.{Constant, Mention, Operator as Applied}
use Rattle.terms.specs.Operators.{arity}
use Rattle.terms.specs.Terms.{Algebra, fold}

-- what stands at k on the stack that rows leave
abbrev pub entry : {M X : Type 0} → Algebra M X → List (Row M) → ℕ → X
entry g rs k = slice_index_or (fold g rs) k g.absent

pub below : {M X : Type 0} (g : Algebra M X) (o : Operator) (rs : List (Row M)) (k : ℕ) → entry g rs (arity o + k) ≡ entry g (Applied o ∷ rs) (suc k)
below g o rs k = sym (get_or-drop (arity o) (fold g rs) k g.absent)

-- three algebras at once, so that kinds can stand beside what they are a premise of; for two, name one of them twice. P is what holds of every tail of the rows
module _ {M X Y Z : Type 0} (f : Algebra M X) (g : Algebra M Y) (h : Algebra M Z) (R : X → Y → Z → Type 0) (P : List (Row M) → Type 0)
    (tail : (r : Row M) (rs : List (Row M)) → P (r ∷ rs) → P rs)
    (absents : R f.absent g.absent h.absent)
    (constants : (n : ℤ) (rs : List (Row M)) → P (Constant n ∷ rs) → R (f.constant n) (g.constant n) (h.constant n))
    (mentions : (m : M) (rs : List (Row M)) → P (Mention m ∷ rs) → R (f.mention m) (g.mention m) (h.mention m))
    (operators : (o : Operator) (rs : List (Row M)) → P (Applied o ∷ rs) → ((k : ℕ) → R (entry f rs k) (entry g rs k) (entry h rs k)) → R (entry f (Applied o ∷ rs) 0) (entry g (Applied o ∷ rs) 0) (entry h (Applied o ∷ rs) 0)) where
  pub related : (rs : List (Row M)) → P rs → (k : ℕ) → R (entry f rs k) (entry g rs k) (entry h rs k)
  related [] ok k = absents
  related (Constant n ∷ rs) ok zero = constants n rs ok
  related (Constant n ∷ rs) ok (suc k) = related rs (tail (Constant n) rs ok) k
  related (Mention m ∷ rs) ok zero = mentions m rs ok
  related (Mention m ∷ rs) ok (suc k) = related rs (tail (Mention m) rs ok) k
  related (Applied o ∷ rs) ok zero = operators o rs ok (related rs (tail (Applied o) rs ok))
  related (Applied o ∷ rs) ok (suc k) =
      subst (λ z. R (entry f (Applied o ∷ rs) (suc k)) (entry g (Applied o ∷ rs) (suc k)) z) (below h o rs k)
      (subst (λ y. R (entry f (Applied o ∷ rs) (suc k)) y (entry h rs (arity o + k))) (below g o rs k)
      (subst (λ x. R x (entry g rs (arity o + k)) (entry h rs (arity o + k))) (below f o rs k) (related rs (tail (Applied o) rs ok) (arity o + k))))
