-- A term that is spelled within a nesting writes one term, no deeper than that, of rows that each pass what their leaders show.
use Rattle.std.proofs.Common.{◌≡◌, ℕ, zero, suc, ◌+◌, ◌<◌, ◌≤◌, max, Bool, true, false, ltb, List, [], ◌∷◌, ◌++◌, map, length, get_or, drop, Some, None, Option, sym, refl, ap, ◌∙◌, arith}
use Rattle.std.specs.List.{list_all, AllByRecursion}
use Rattle.std.proofs.lemmas.Bool.{and_from, cond-true, lt-ltb}
use Rattle.std.proofs.lemmas.List.{append_assoc, append-nil}
use Rattle.std.proofs.lemmas.List.Folds.{list_all-append}
use Rattle.terms.specs.declared.operator.Operands.{Operands}
use Rattle.terms.specs.declared.operator.Operands.TheVariants.{None as Nothing, One, Two, Three}
use Rattle.terms.specs.declared.row.Row.TheVariants.{Constant, Mention as Mentioned, Operator as Applied}
use Rattle.terms.specs.Operators.{signature_of, sorts}
use Rattle.terms.specs.Terms.{onto, fold}
use Rattle.jcode.specs.Rows.{UnitRow, operands_after}
use Rattle.jcode.specs.Scopes.{Scope}
use Rattle.jcode.specs.Spelling.{Leader, Operands as Spelled, Term}
use Rattle.checking.specs.Nesting.{deepest, raised, nesting, single, writes_term}

-- none is deeper than this
abbrev UpTo : ℕ → List ℕ → Type 0
UpTo k ns = AllByRecursion (λ n. n ≤ k) ns

-- an operator's own operands are taken from the stack, and what is below them is left
record Taken (k : ℕ) (ops : Operands) (stack rest : List (Option ℕ)) : Type 0 where
  depth : ℕ
  most : depth ≤ k
  deep : deepest ops (get_or stack 0 None) (get_or stack 1 None) (get_or stack 2 None) ≡ Some depth
  left : drop (length (sorts ops)) stack ≡ rest

taken : (k : ℕ) (ops : Operands) (ns : List ℕ) (rest : List (Option ℕ)) → length ns ≡ length (sorts ops) → UpTo k ns → Taken k ops (map Some ns ++ rest) rest
taken k Nothing [] rest e h = record { depth = 0; most = omega arith; deep = refl; left = refl }
taken k Nothing (a ∷ ns) rest e h = absurd (omega arith)
taken k (One s) [] rest e h = absurd (omega arith)
taken k (One s) (a ∷ []) rest e h = record { depth = a; most = h.0; deep = refl; left = refl }
taken k (One s) (a ∷ b ∷ ns) rest e h = absurd (omega arith)
taken k (Two s t) [] rest e h = absurd (omega arith)
taken k (Two s t) (a ∷ []) rest e h = absurd (omega arith)
taken k (Two s t) (a ∷ b ∷ []) rest e h = let x = h.0 in let y = h.1.0 in record { depth = max a b; most = omega arith; deep = refl; left = refl }
taken k (Two s t) (a ∷ b ∷ c ∷ ns) rest e h = absurd (omega arith)
taken k (Three s t u) [] rest e h = absurd (omega arith)
taken k (Three s t u) (a ∷ []) rest e h = absurd (omega arith)
taken k (Three s t u) (a ∷ b ∷ []) rest e h = absurd (omega arith)
taken k (Three s t u) (a ∷ b ∷ c ∷ []) rest e h = let x = h.0 in let y = h.1.0 in let z = h.1.1.0 in record { depth = max a (max b c); most = omega arith; deep = refl; left = refl }
taken k (Three s t u) (a ∷ b ∷ c ∷ d ∷ ns) rest e h = absurd (omega arith)

module _ (limit : ℕ) where
  once_more : (n : ℕ) → n < limit → raised limit (Some n) ≡ Some (n + 1)
  once_more n lt = cond-true (ltb n limit) (Some (n + 1)) None (lt-ltb n limit lt)

  -- a row over its operands leaves one entry in their place
  raises : (k : ℕ) → suc k ≤ limit → (r : UnitRow) (ns : List ℕ) (rest : List (Option ℕ)) → length ns ≡ operands_after r → UpTo k ns → (n : ℕ) × (n ≤ suc k) × (onto (nesting limit) r (map Some ns ++ rest) ≡ Some n ∷ rest)
  raises k le (Constant z) [] rest e h = (1, omega arith, ap (λ o. o ∷ rest) (once_more 0 (omega arith)))
  raises k le (Constant z) (n ∷ ns) rest e h = absurd (omega arith)
  raises k le (Mentioned m) [] rest e h = (1, omega arith, ap (λ o. o ∷ rest) (once_more 0 (omega arith)))
  raises k le (Mentioned m) (n ∷ ns) rest e h = absurd (omega arith)
  raises k le (Applied o) ns rest e h =
      let t = taken k (signature_of o).operands ns rest e h in
      let most = t.most in
      (t.depth + 1, omega arith, (λ i. raised limit (t.deep i) ∷ t.left i) ∙ ap (λ o. o ∷ rest) (once_more t.depth (omega arith)))

  module _ (sc : Scope) (known : UnitRow → Bool) (leads : (r : UnitRow) (w : List ℕ) → Leader sc r w → known r ≡ true) where
    -- rows leave so many entries on any stack, none deeper than this
    record Leaves (k n : ℕ) (rs : List UnitRow) : Type 0 where
      entries : (below : List UnitRow) → (ns : List ℕ) × (length ns ≡ n) × UpTo k ns × (fold (nesting limit) (rs ++ below) ≡ map Some ns ++ fold (nesting limit) below)
      all : list_all known rs ≡ true

    -- and one term's rows leave one
    record Writes (k : ℕ) (rs : List UnitRow) : Type 0 where
      entry : (below : List UnitRow) → (n : ℕ) × (n ≤ k) × (fold (nesting limit) (rs ++ below) ≡ Some n ∷ fold (nesting limit) below)
      all : list_all known rs ≡ true

    operands : (k : ℕ) → ((rs : List UnitRow) (w : List ℕ) → Term sc k rs w → Writes k rs) → (n : ℕ) (first : Bool) (rs : List UnitRow) (w : List ℕ) → Spelled (Term sc k) n first rs w → Leaves k n rs
    operands k one zero first rs w h = record {
      entries = λ below. ([], refl, tt, ap (λ rs. fold (nesting limit) (rs ++ below)) h.0);
      all = ap (list_all known) h.0;
    }
    operands k one (suc n) first rs w h =
        let a = h.0 in
        let b = h.1 in
        let parts = h.3.3 in
        let p = one a parts.0 parts.2 in
        let q = operands k one n false b parts.1 parts.3 in
        record {
          entries = λ below.
              let x = p.entry (b ++ below) in
              let y = q.entries below in
              (x.0 ∷ y.0, ap suc y.1, (x.1, y.2), ap (λ rs. fold (nesting limit) (rs ++ below)) h.2 ∙ ap (fold (nesting limit)) (append_assoc a b below) ∙ x.2 ∙ ap (λ s. Some x.0 ∷ s) y.3);
          all = ap (list_all known) h.2 ∙ list_all-append known a b ∙ and_from _ _ p.all q.all;
        }

    term : (k : ℕ) → k ≤ limit → (rs : List UnitRow) (w : List ℕ) → Term sc k rs w → Writes k rs
    term zero le rs w h = absurd h
    term (suc k) le [] w h = absurd h
    term (suc k) le (r ∷ rs) w h =
        let lead = h.3.3.2 in
        let rest = h.3.3.3 in
        let q = operands k (term k (omega arith)) (operands_after r) true rs rest.0 rest.2 in
        record {
          entry = λ below.
              let y = q.entries below in
              let x = raises k le r y.0 (fold (nesting limit) below) y.1 y.2 in
              (x.0, x.1, ap (onto (nesting limit) r) y.3 ∙ x.2);
          all = and_from _ _ (leads r h.3.3.0 lead) q.all;
        }

    pub writes : (rs : List UnitRow) (w : List ℕ) → Term sc limit rs w → (writes_term limit rs ≡ true) × (list_all known rs ≡ true)
    writes rs w h =
        let t = term limit (omega arith) rs w h in
        let x = t.entry [] in
        (ap (λ rs. single (fold (nesting limit) rs)) (sym (append-nil rs)) ∙ ap single x.2, t.all)
