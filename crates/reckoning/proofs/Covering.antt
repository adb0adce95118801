-- A term's mark covers its number, over any reckoning.
use Rattle.std.proofs.Common.{◌≡◌, ℕ, List, ℤ, Some, None, Option, unwrap_or, refl, arith}
use Rattle.terms.specs.declared.kind.Kind.{Kind}
use Rattle.terms.specs.declared.row.Row.{Row}
use Rattle.terms.specs.Terms.{numbered}
use Rattle.reckoning.specs.declared.mark.Mark.{Mark}
use Rattle.reckoning.specs.Kinds.{kinds}
use Rattle.reckoning.specs.Reckonings.{Meaning, Lawful}
use Rattle.reckoning.specs.Evaluation.{marks_by, mark_of, Mentions, Kindly, Covered, Covering}
use Rattle.reckoning.proofs.Relating.{related, entry}
use Rattle.reckoning.proofs.Kinding.{Fine, a_number, given_kind}
use Rattle.reckoning.proofs.Mentioning.{mentions_tail}

module _ {M : Type 0} (covers : Mark → ℤ → Type 0) (r : Meaning) (laws : Lawful covers r) (found : M → Option Mark) where
  found_covers : (o : Option Mark) (n : ℤ) → ((m : Mark) → o ≡ Some m → covers m n) → covers (unwrap_or o r.anything) n
  found_covers None n h = laws.anything n
  found_covers (Some m) n h = h m refl

  abbrev Told : (M → Option Kind) → (M → ℤ) → List (Row M) → Type 0
  Told at env rs = Mentions (Kindly at env) rs × Mentions (Covered covers found env) rs

  all_fine : (at : M → Option Kind) (env : M → ℤ) (rs : List (Row M)) → Told at env rs → (k : ℕ) → Fine covers (entry (kinds at) rs k) (entry (marks_by r found) rs k) (entry (numbered env) rs k)
  all_fine at env =
      related (kinds at) (marks_by r found) (numbered env) (Fine covers) (Told at env)
      (λ row rs h. (mentions_tail (Kindly at env) row rs h.0, mentions_tail (Covered covers found env) row rs h.1))
      (λ j e. absurd (let z : ◌≡◌ {A = ℕ} 0 1 = cc in omega arith))
      (λ n rs h j e. (a_number n j e, laws.marking n))
      (λ m rs h j e. (h.0.0 j e, found_covers (found m) (env m) h.1.0))
      (λ o rs h fine j e.
      let t = given_kind covers _ _ _ _ _ _ _ _ _ (fine 0) (fine 1) (fine 2) o j e in
      (t.1, laws.applying o _ _ _ _ _ _ t.0))

  pub covering : (rs : List (Row M)) → Covering covers found rs (mark_of r found rs)
  covering rs at env k is known told = (all_fine at env rs (known, told) 0 k is).1
