-- How many entries it takes to read a term.
use Rattle.std.proofs.Common.{◌≡◌, ℕ, ◌+◌, ◌*◌, ◌<◌, ◌≤◌, max, true, false, Bool, cond, ltb, List, [], ◌∷◌, length, get_or, drop, Some, None, Option, refl, arith}
use Rattle.std.proofs.lemmas.List.{length-take, length-drop}
use Rattle.std.proofs.lemmas.Bool.{ltb-true}
use Rattle.terms.specs.declared.operator.Operands.{Operands}
use Rattle.terms.specs.declared.operator.Operands.TheVariants.{None as Nothing, One, Two, Three}
use Rattle.terms.specs.declared.row.Row.{Row}
use Rattle.terms.specs.declared.row.Row.TheVariants.{Constant, Mention, Operator as Applied}
use Rattle.terms.specs.Operators.{signature_of, sorts}
use Rattle.terms.specs.Terms.{fold, entries_for}
use Rattle.terms.proofs.Stacking.{entries_within, length-fold}
use Rattle.jcode.specs.declared.mention.Mention.{Mention as UnitMention}
use Rattle.jcode.specs.declared.statement.Term.{Term}
use Rattle.jcode.specs.Units.{term_in}
use Rattle.checking.specs.Nesting.{deepest, raised, nesting, single, writes_term}

-- no more than the table has rows
pub term_entries : (rows : List (Row UnitMention)) (t : Term) → entries_for (term_in rows t) ≤ length rows
term_entries rows t = let few = entries_within (term_in rows t) in omega (arith, few, length-take t.rows (drop t.first rows), length-drop t.first rows)

-- no entry is missing
abbrev Whole : List (Option ℕ) → Type 0
Whole [] = Unit {0}
Whole (None ∷ ns) = ⊥
Whole (Some n ∷ ns) = Whole ns

-- and each is a nesting up to the limit
abbrev Deep : ℕ → List (Option ℕ) → Type 0
Deep limit [] = Unit {0}
Deep limit (None ∷ ns) = ⊥
Deep limit (Some n ∷ ns) = (0 < n) × (n ≤ limit) × Deep limit ns

-- the most entries that a stack took to come to: for a term twice its nesting, above the entries that stand below it
abbrev most : List (Option ℕ) → ℕ
most [] = 0
most (None ∷ ns) = most ns
most (Some n ∷ ns) = max (2 * n + length ns) (most ns)

-- what comes of a stack is as deep as it may, and took room for one entry more than stood there
abbrev Grown : ℕ → List (Option ℕ) → List (Option ℕ) → Type 0
Grown limit stack after = Whole stack × (Deep limit stack → Deep limit after × (most stack ≤ most after) × (length stack + 1 ≤ most after))

module _ (limit : ℕ) where
  -- one more than n, in the place of operands that nest at most so deep
  grown : (n : ℕ) (stack rest : List (Option ℕ)) → (Whole rest → Whole stack) → (Deep limit stack → Deep limit rest × (most stack ≤ max (2 * (n + 1) + length rest) (most rest)) × (length stack + 1 ≤ 2 * (n + 1) + length rest)) → Whole (raised limit (Some n) ∷ rest) → Grown limit stack (raised limit (Some n) ∷ rest)
  grown n stack rest whole deep = go (ltb n limit) refl
    where
      go : (b : Bool) → ltb n limit ≡ b → Whole (cond b (Some (n + 1)) None ∷ rest) → Grown limit stack (cond b (Some (n + 1)) None ∷ rest)
      go true e h = (whole h, λ d. let k = deep d in ((omega arith, let small = ltb-true n limit e in omega arith, k.0), k.1, omega (arith, k.2)))
      go false e h = absurd h

  abbrev result : Operands → List (Option ℕ) → List (Option ℕ)
  result os stack = raised limit (deepest os (get_or stack 0 None) (get_or stack 1 None) (get_or stack 2 None)) ∷ drop (length (sorts os)) stack

  applied : (os : Operands) (stack : List (Option ℕ)) → Whole (result os stack) → Grown limit stack (result os stack)
  applied Nothing stack h = grown 0 stack stack (λ w. w) (λ d. (d, omega arith, omega arith)) h
  applied (One s) [] h = absurd h
  applied (One s) (None ∷ ns) h = absurd h
  applied (One s) (Some a ∷ ns) h = grown a (Some a ∷ ns) ns (λ w. w) (λ d. (d.2, omega arith, omega arith)) h
  applied (Two s t) [] h = absurd h
  applied (Two s t) (None ∷ ns) h = absurd h
  applied (Two s t) (Some a ∷ []) h = absurd h
  applied (Two s t) (Some a ∷ None ∷ ns) h = absurd h
  applied (Two s t) (Some a ∷ Some b ∷ ns) h = grown (max a b) (Some a ∷ Some b ∷ ns) ns (λ w. w) (λ d. (d.2.2, omega arith, omega (arith, d.0))) h
  applied (Three s t u) [] h = absurd h
  applied (Three s t u) (None ∷ ns) h = absurd h
  applied (Three s t u) (Some a ∷ []) h = absurd h
  applied (Three s t u) (Some a ∷ None ∷ ns) h = absurd h
  applied (Three s t u) (Some a ∷ Some b ∷ []) h = absurd h
  applied (Three s t u) (Some a ∷ Some b ∷ None ∷ ns) h = absurd h
  applied (Three s t u) (Some a ∷ Some b ∷ Some c ∷ ns) h = grown (max a (max b c)) (Some a ∷ Some b ∷ Some c ∷ ns) ns (λ w. w) (λ d. (d.2.2.2, omega arith, omega (arith, d.0))) h

  alone : (ns : List (Option ℕ)) → single ns ≡ true → Whole ns × (Deep limit ns → most ns ≤ 2 * limit)
  alone [] e = absurd (let z : ◌≡◌ {A = ℕ} 0 1 = cc in omega arith)
  alone (None ∷ ns) e = absurd (let z : ◌≡◌ {A = ℕ} 0 1 = cc in omega arith)
  alone (Some n ∷ []) e = (tt, λ d. omega (arith, d.1))
  alone (Some n ∷ m ∷ ns) e = absurd (let z : ◌≡◌ {A = ℕ} 0 1 = cc in omega arith)

  module _ {M : Type 0} where
    abbrev stack_of : List (Row M) → List (Option ℕ)
    stack_of rs = fold (nesting limit) rs

    read : (r : Row M) (rs : List (Row M)) → Whole (stack_of (r ∷ rs)) → Grown limit (stack_of rs) (stack_of (r ∷ rs))
    read (Constant z) rs = grown 0 (stack_of rs) (stack_of rs) (λ w. w) (λ d. (d, omega arith, omega arith))
    read (Mention m) rs = grown 0 (stack_of rs) (stack_of rs) (λ w. w) (λ d. (d, omega arith, omega arith))
    read (Applied o) rs = applied (signature_of o).operands (stack_of rs)

    entries : (rs : List (Row M)) → Whole (stack_of rs) → Deep limit (stack_of rs) × (entries_for rs ≤ most (stack_of rs))
    entries [] h = (tt, omega arith)
    entries (r ∷ rs) h =
        let g = read r rs h in
        let before = entries rs g.0 in
        let after = g.1 before.0 in
        (after.0, omega (arith, before.1, after.1, after.2, length-fold (nesting limit) rs))

    -- one term takes at most twice as many as it may nest deep
    pub nested_entries : (rs : List (Row M)) → writes_term limit rs ≡ true → entries_for rs ≤ 2 * limit
    nested_entries rs e =
        let one = alone (stack_of rs) e in
        let all = entries rs one.0 in
        omega (arith, all.1, one.1 all.0)
