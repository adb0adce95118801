-- Over points a term's mark is the point of its number, as long as every row stays in the span.
use Rattle.std.proofs.Common.{◌≡◌, ℕ, ◌≤◌, true, List, [], ◌∷◌, length, ℤ, Some, Option, unwrap_or, sym, refl, ap, ◌∙◌, subst, arith}
use Rattle.std.proofs.lemmas.Int.{ints}
use Rattle.std.proofs.lemmas.Bool.{and_from, cond-true, le-leb}
use Rattle.terms.specs.declared.kind.Kind.{Kind}
use Rattle.terms.specs.declared.kind.Sort.{Sort}
use Rattle.terms.specs.declared.operator.Operator.{Operator}
use Rattle.terms.specs.declared.row.Row.{Row}
use Rattle.terms.specs.Operators.{operands_of, each}
use Rattle.terms.specs.Numbers.{in_span, computed}
use Rattle.terms.specs.Terms.{numbered, value}
use Rattle.reckoning.specs.declared.mark.Mark.{Mark}
use Rattle.reckoning.specs.Kinds.{of_sort, Chosen, Choice, kinds}
use Rattle.reckoning.specs.Points.{is_point, any_mark, point_or, point, point_number, point_fits, point_applied, points}
use Rattle.reckoning.specs.Evaluation.{marks_by, evaluated, Mentions, Kindly}
use Rattle.reckoning.specs.Exactness.{Spans, Exact}
use Rattle.reckoning.proofs.Relating.{related, entry}
use Rattle.reckoning.proofs.Kinding.{Fine, a_number, given_kind}
use Rattle.reckoning.proofs.Mentioning.{mentions_tail}
use Rattle.reckoning.specs.Pointwise.{Holds, same_result}

-- a mark that is the point of a number in the span
pub record Pointed (m : Mark) (n : ℤ) : Type 0 where
  pub is : m ≡ record { low = n; high = n }
  pub spans : in_span n ≡ true

point_of : (n : ℤ) → in_span n ≡ true → point n ≡ record { low = n; high = n }
point_of n h = ap point_or (cond-true _ _ _ h)

is_point_lem : (n : ℤ) → in_span n ≡ true → is_point (record { low = n; high = n }) ≡ true
is_point_lem n h = grind (arith, ints)

pointed : (n : ℤ) → in_span n ≡ true → Pointed (point n) n
pointed n h = record { is = point_of n h; spans = h }

holds : (m : Mark) (n : ℤ) → Pointed m n → Holds m n
holds m n p = let e = p.is in grind (arith, ints)

fits : (s : Sort) (m : Mark) (n : ℤ) → of_sort s n ≡ true → Pointed m n → point_fits s m ≡ true
fits s m n h p = subst (λ k. point_fits s k ≡ true) (sym p.is) (and_from _ _ (is_point_lem n p.spans) h)

all_fit : (ss : List Sort) (ms : List Mark) (ns : List ℤ) → Chosen Pointed ss ms ns → each point_fits ss ms ≡ true
all_fit [] ms ns h = refl
all_fit (s ∷ ss) [] ns h = absurd h
all_fit (s ∷ ss) (m ∷ ms) [] h = absurd h
all_fit (s ∷ ss) (m ∷ ms) (n ∷ ns) h = and_from _ _ (fits s m n h.0 h.1) (all_fit ss ms ns h.2)

all_hold : (ss : List Sort) (ms : List Mark) (ns : List ℤ) → Chosen Pointed ss ms ns → Chosen Holds ss ms ns
all_hold [] ms ns h = tt
all_hold (s ∷ ss) [] ns h = absurd h
all_hold (s ∷ ss) (m ∷ ms) [] h = absurd h
all_hold (s ∷ ss) (m ∷ ms) (n ∷ ns) h = (h.0, holds m n h.1, all_hold ss ms ns h.2)

applied : (o : Operator) (a b c : Mark) (x y z : ℤ) → Choice Pointed o a b c x y z → in_span (computed o x y z) ≡ true → Pointed (point_applied o a b c) (computed o x y z)
applied o a b c x y z h spans =
    let ready = all_fit (operands_of o) (a ∷ b ∷ c ∷ []) (x ∷ y ∷ z ∷ []) h in
    let same = same_result a b c x y z o ready (all_hold (operands_of o) (a ∷ b ∷ c ∷ []) (x ∷ y ∷ z ∷ []) h) in
    record { is = cond-true _ _ _ ready ∙ ap point (sym same) ∙ point_of (computed o x y z) spans; spans = spans }

module _ {M : Type 0} (found : M → Option Mark) where
  abbrev Known : (M → Option Kind) → (M → ℤ) → List (Row M) → Type 0
  Known at env rs = Mentions (Kindly at env) rs × Mentions (λ m. found m ≡ Some (point (env m))) rs × Spans env rs

  all_pointed : (at : M → Option Kind) (env : M → ℤ) (rs : List (Row M)) → Known at env rs → (k : ℕ) → Fine Pointed (entry (kinds at) rs k) (entry (marks_by points found) rs k) (entry (numbered env) rs k)
  all_pointed at env =
      related (kinds at) (marks_by points found) (numbered env) (Fine Pointed) (Known at env)
      (λ row rs h. (mentions_tail (Kindly at env) row rs h.0, mentions_tail (λ m. found m ≡ Some (point (env m))) row rs h.1, h.2.1))
      (λ j e. absurd (let z : ◌≡◌ {A = ℕ} 0 1 = cc in omega arith))
      (λ n rs h j e. (a_number n j e, pointed n h.2.0))
      (λ m rs h j e. (h.0.0 j e, subst (λ q. Pointed (unwrap_or q any_mark) (env m)) (sym h.1.0) (pointed (env m) h.2.0)))
      (λ o rs h fine j e.
      let t = given_kind Pointed _ _ _ _ _ _ _ _ _ (fine 0) (fine 1) (fine 2) o j e in
      (t.1, applied o _ _ _ _ _ _ t.0 h.2.0))

  -- the number of a term's mark is the term's
  pub exact : (rs : List (Row M)) (room : ℕ) → length rs ≤ room → Exact found rs (point_number (evaluated points found rs room))
  exact rs room enough at env k is known told spans =
      let p = (all_pointed at env rs (known, told, spans) 0 k is).1 in
      ap point_number (cond-true _ _ _ (le-leb _ _ enough) ∙ p.is) ∙ cond-true _ _ _ (is_point_lem (value env rs) p.spans)

pub its_number : (m : Mark) (n v : ℤ) → point_number m ≡ Some n → Holds m v → n ≡ v
its_number m n v e h = grind (arith, ints)
