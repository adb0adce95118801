-- Terms of the right kinds have numbers of those kinds.
use Rattle.std.specs.Prelude.{◌≡◌, ℕ, Bool, true, false, cond, List, [], ◌∷◌, ℤ, Some, None, Option, refl}
use Rattle.std.proofs.Common.{subst, arith}
use Rattle.std.proofs.lemmas.Bool.{and_parts}
use Rattle.terms.specs.declared.operator.Operator.{Operator}
use Rattle.terms.specs.declared.operator.Operator.TheVariants.{Addi, Subi, Negi, Mul, Divi, Mod, Odd, Gei, Lei, Gti, Lti, Mini, Maxi, True, False, And, Or, Not, Implies, Impliedby, Notimplies, Notimpliedby, Equal, Notequal, If}
use Rattle.terms.specs.declared.kind.Kind.{Kind}
use Rattle.terms.specs.declared.kind.Kind.TheVariants.{Number, Truth}
use Rattle.terms.specs.declared.kind.Sort.{Sort}
use Rattle.terms.specs.declared.kind.Sort.TheVariants.{Of, Same}
use Rattle.terms.specs.declared.row.Row.{Row}
use Rattle.terms.specs.Operators.{operands_of, result_of, each}
use Rattle.terms.specs.Numbers.{holds, computed}
use Rattle.terms.specs.Terms.{numbered, value}
use Rattle.reckoning.specs.Kinds.{of_kind, of_sort, Chosen, Choice, alike, asked, is_kind, kinds_fit, kind_given, kinds, IsKinded}
use Rattle.reckoning.specs.Evaluation.{Mentions, Kindly}
use Rattle.reckoning.specs.Sorting.{result_sort}
use Rattle.reckoning.proofs.Relating.{related, entry}
use Rattle.reckoning.proofs.Mentioning.{mentions_tail}

-- where there is a kind, the number is of it and is from the mark
abbrev pub Fine : {X : Type 0} → (X → ℤ → Type 0) → Option Kind → X → ℤ → Type 0
Fine from k m n = (j : Kind) → k ≡ Some j → (of_kind j n ≡ true) × from m n

clash : {X : Type 0} → false ≡ true → X
clash e = absurd (let z : ◌≡◌ {A = ℕ} 0 1 = cc in omega arith)

of_alike : (j k : Kind) (n : ℤ) → alike j k ≡ true → of_kind j n ≡ true → of_kind k n ≡ true
of_alike Number Number n e h = refl
of_alike Number Truth n e h = clash e
of_alike Truth Number n e h = refl
of_alike Truth Truth n e h = h

module _ {X : Type 0} (from : X → ℤ → Type 0) where
  of_kind_lem : (k : Option Kind) (j : Kind) (m : X) (n : ℤ) → is_kind k j ≡ true → Fine from k m n → (of_kind j n ≡ true) × from m n
  of_kind_lem None j m n e h = clash e
  of_kind_lem (Some i) j m n e h = (of_alike i j n e (h i refl).0, (h i refl).1)

  of_sort_lem : (shared : Kind) (s : Sort) (k : Option Kind) (m : X) (n : ℤ) → is_kind k (asked shared s) ≡ true → Fine from k m n → (of_sort s n ≡ true) × from m n
  of_sort_lem shared (Of k) j m n e h = of_kind_lem j k m n e h
  of_sort_lem shared Same j m n e h = (refl, (of_kind_lem j shared m n e h).1)

abbrev fits : Kind → Sort → Option Kind → Bool
fits shared s k = is_kind k (asked shared s)

-- operands of the kinds that an operator asks for are a choice, and it gives a number of the kind that the table says
module _ {X : Type 0} (from : X → ℤ → Type 0) (a b c : Option Kind) (l m n : X) (x y z : ℤ) (p : Fine from a l x) (q : Fine from b m y) (r : Fine from c n z) where
  chosen : (shared : Kind) (ss : List Sort) → each (fits shared) ss (a ∷ b ∷ c ∷ []) ≡ true → Chosen from ss (l ∷ m ∷ n ∷ []) (x ∷ y ∷ z ∷ [])
  chosen shared [] e = tt
  chosen shared (s ∷ ss) e = let d = and_parts _ _ e in let t = of_sort_lem from shared s a l x d.0 p in (t.0, t.1, two ss d.1)
    where
      none : (ss : List Sort) → each (fits shared) ss [] ≡ true → Chosen from ss [] []
      none [] e = tt
      none (s ∷ ss) e = clash e

      three : (ss : List Sort) → each (fits shared) ss (c ∷ []) ≡ true → Chosen from ss (n ∷ []) (z ∷ [])
      three [] e = tt
      three (s ∷ ss) e = let d = and_parts _ _ e in let t = of_sort_lem from shared s c n z d.0 r in (t.0, t.1, none ss d.1)

      two : (ss : List Sort) → each (fits shared) ss (b ∷ c ∷ []) ≡ true → Chosen from ss (m ∷ n ∷ []) (y ∷ z ∷ [])
      two [] e = tt
      two (s ∷ ss) e = let d = and_parts _ _ e in let t = of_sort_lem from shared s b m y d.0 q in (t.0, t.1, three ss d.1)

  result_kind : (o : Operator) (shared : Kind) → kinds_fit shared o a b c ≡ true → of_kind (asked shared (result_of o)) (computed o x y z) ≡ true
  result_kind Addi s h = refl
  result_kind Subi s h = refl
  result_kind Negi s h = refl
  result_kind Mul s h = refl
  result_kind Divi s h = refl
  result_kind Mod s h = refl
  result_kind Odd s h = result_sort Odd x y z
  result_kind Gei s h = result_sort Gei x y z
  result_kind Lei s h = result_sort Lei x y z
  result_kind Gti s h = result_sort Gti x y z
  result_kind Lti s h = result_sort Lti x y z
  result_kind Mini s h = refl
  result_kind Maxi s h = refl
  result_kind True s h = refl
  result_kind False s h = refl
  result_kind And s h = result_sort And x y z
  result_kind Or s h = result_sort Or x y z
  result_kind Not s h = result_sort Not x y z
  result_kind Implies s h = result_sort Implies x y z
  result_kind Impliedby s h = result_sort Impliedby x y z
  result_kind Notimplies s h = result_sort Notimplies x y z
  result_kind Notimpliedby s h = result_sort Notimpliedby x y z
  result_kind Equal s h = result_sort Equal x y z
  result_kind Notequal s h = result_sort Notequal x y z
  result_kind If s h =
      let branches = and_parts _ _ (and_parts _ _ h).1 in
      pick s (holds x) (of_kind_lem from b s m y branches.0 q).0 (of_kind_lem from c s n z (and_parts _ _ branches.1).0 r).0
    where
      pick : (s : Kind) (t : Bool) → of_kind s y ≡ true → of_kind s z ≡ true → of_kind s (cond t y z) ≡ true
      pick s true f g = f
      pick s false f g = g

  fitting : (o : Operator) (shared k : Kind) → kinds_fit shared o a b c ≡ true → Some (asked shared (result_of o)) ≡ Some k → Choice from o l m n x y z × (of_kind k (computed o x y z) ≡ true)
  fitting o shared k e is =
      let same : asked shared (result_of o) ≡ k = cc in
      (chosen shared (operands_of o) e, subst (λ j. of_kind j (computed o x y z) ≡ true) same (result_kind o shared e))

  pub given_kind : (o : Operator) (k : Kind) → kind_given o a b c ≡ Some k → Choice from o l m n x y z × (of_kind k (computed o x y z) ≡ true)
  given_kind o k e = go (kinds_fit Number o a b c) (kinds_fit Truth o a b c) refl refl e
    where
      go : (s t : Bool) → kinds_fit Number o a b c ≡ s → kinds_fit Truth o a b c ≡ t → cond s (Some (asked Number (result_of o))) (cond t (Some (asked Truth (result_of o))) None) ≡ Some k → Choice from o l m n x y z × (of_kind k (computed o x y z) ≡ true)
      go true t f g e = fitting o Number k f e
      go false true f g e = fitting o Truth k g e
      go false false f g e = absurd (let z : ◌≡◌ {A = ℕ} 0 1 = cc in omega arith)

pub a_number : (n : ℤ) (k : Kind) → Some Number ≡ Some k → of_kind k n ≡ true
a_number n Number e = refl
a_number n Truth e = absurd (let z : ◌≡◌ {A = ℕ} 0 1 = cc in omega arith)

-- of numbers alone
abbrev SomeNumber : ℤ → ℤ → Type 0
SomeNumber m n = Unit {0}

-- a term comes to a number of its kind, so one that is a truth to 0 or 1
pub kind_holds : {M : Type 0} (at : M → Option Kind) (env : M → ℤ) (rs : List (Row M)) → Mentions (Kindly at env) rs → (k : Kind) → IsKinded at k rs → of_kind k (value env rs) ≡ true
kind_holds at env rs known k e =
    (related (kinds at) (numbered env) (numbered env) (Fine SomeNumber) (Mentions (Kindly at env)) (mentions_tail (Kindly at env))
    (λ j e. absurd (let z : ◌≡◌ {A = ℕ} 0 1 = cc in omega arith)) (λ n rs ok j e. (a_number n j e, tt)) (λ m rs ok j e. (ok.0 j e, tt))
    (λ o rs ok h j e. ((given_kind SomeNumber _ _ _ (entry (numbered env) rs 0) (entry (numbered env) rs 1) (entry (numbered env) rs 2) _ _ _ (h 0) (h 1) (h 2) o j e).1, tt)) rs known 0 k e).0
