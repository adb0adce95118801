-- Rows that write one term: some bytes spell it.
use Rattle.std.proofs.Common.{◌≡◌, ℕ, zero, suc, ◌+◌, ◌<◌, ◌≤◌, max, Bool, true, false, cond, ltb, List, [], ◌∷◌, ◌++◌, length, get_or, drop, Some, None, Option, sym, refl, ap, ◌∙◌, subst, is_some, arith}
use Rattle.std.specs.Prelude.{codes}
use Rattle.std.specs.List.{list_all}
use Rattle.std.proofs.lemmas.Bool.{and_parts, ltb-true}
use Rattle.std.proofs.lemmas.List.{append_assoc, append-nil}
use Rattle.flow.proofs.Leading.{never}
use Rattle.terms.specs.declared.operator.Operands.{Operands as Sorts}
use Rattle.terms.specs.declared.operator.Operands.TheVariants.{None as Nothing, One, Two, Three}
use Rattle.terms.specs.declared.row.Row.TheVariants.{Constant, Mention as Mentioned, Operator as Applied}
use Rattle.terms.specs.Operators.{word_of, signature_of, sorts}
use Rattle.terms.specs.Numbers.{in_span}
use Rattle.terms.specs.Terms.{fold}
use Rattle.jcode.specs.declared.mention.Aspect.{Aspect}
use Rattle.jcode.specs.declared.mention.Aspect.TheVariants.{Value, Shadow}
use Rattle.jcode.specs.declared.mention.Stage.{Stage}
use Rattle.jcode.specs.declared.mention.Stage.TheVariants.{Current, New as Renewed}
use Rattle.jcode.specs.Scopes.{Scope, member}
use Rattle.jcode.specs.Spelling.{Variable, Listed, Mention, Leader, Lead, Operands, Term}
use Rattle.jcode.specs.Rows.{UnitRow, operands_after}
use Rattle.checking.specs.Nesting.{deeper, deepest, raised, nesting, single, writes_term}
use Rattle.checking.specs.Pieces.{stage_known, row_known}
use Rattle.checking.proofs.Wording.{Spelled, ◌&◌, these, gap, no_gap, close, number}

-- an entry of the stack is there, and nests at most so deep
abbrev Within : ℕ → Option ℕ → Type 0
Within k o = (n : ℕ) × (o ≡ Some n) × (n ≤ k)

-- so many entries from one on
abbrev AllWithin : ℕ → ℕ → ℕ → List (Option ℕ) → Type 0
AllWithin k zero i stack = Unit {0}
AllWithin k (suc m) i stack = Within k (get_or stack i None) × AllWithin k m (suc i) stack

all_past : (k m i : ℕ) (x : Option ℕ) (stack : List (Option ℕ)) → AllWithin k m (suc i) (x ∷ stack) → AllWithin k m i stack
all_past k zero i x stack h = tt
all_past k (suc m) i x stack h = (h.0, all_past k m (suc i) x stack h.1)

-- the deeper of two, where both are there
both_within : (k d : ℕ) (a b : Option ℕ) → deeper a b ≡ Some d → d ≤ k → Within k a × Within k b
both_within k d None b e le = never (ap is_some e)
both_within k d (Some m) None e le = never (ap is_some e)
both_within k d (Some m) (Some n) e le = let is : max m n ≡ d = cc in ((m, refl, omega arith), (n, refl, omega arith))

within_deepest : (k d : ℕ) (os : Sorts) (stack : List (Option ℕ)) → deepest os (get_or stack 0 None) (get_or stack 1 None) (get_or stack 2 None) ≡ Some d → d ≤ k → AllWithin k (length (sorts os)) 0 stack
within_deepest k d Nothing stack e le = tt
within_deepest k d (One s) stack e le = ((d, e, le), tt)
within_deepest k d (Two s t) stack e le = let h = both_within k d (get_or stack 0 None) (get_or stack 1 None) e le in (h.0, (h.1, tt))
within_deepest k d (Three s t u) stack e le = go (deeper (get_or stack 1 None) (get_or stack 2 None)) refl e
  where
    go : (o : Option ℕ) → deeper (get_or stack 1 None) (get_or stack 2 None) ≡ o → deeper (get_or stack 0 None) o ≡ Some d → AllWithin k 3 0 stack
    go None is e = never (ap is_some (both_within k d (get_or stack 0 None) None e le).1.1)
    go (Some m) is e =
        let h = both_within k d (get_or stack 0 None) (Some m) e le in
        let n : m ≡ h.1.0 = (let same = h.1.1 in cc) in
        let r = both_within k m (get_or stack 1 None) (get_or stack 2 None) is (let less = h.1.2 in omega arith) in
        (h.0, (r.0, (r.1, tt)))

raised_is : (limit : ℕ) (o : Option ℕ) (n : ℕ) → raised limit o ≡ Some n → (d : ℕ) × (o ≡ Some d) × (d < limit) × (n ≡ d + 1)
raised_is limit None n e = never (ap is_some e)
raised_is limit (Some d) n e = go (ltb d limit) refl e
  where
    go : (b : Bool) → ltb d limit ≡ b → cond b (Some (d + 1)) None ≡ Some n → (m : ℕ) × (Some d ≡ Some m) × (m < limit) × (n ≡ m + 1)
    go true is e = (d, refl, ltb-true d limit is, let same : d + 1 ≡ n = cc in sym same)
    go false is e = never (ap is_some e)

module _ (sc : Scope) (count : ℕ) (listed : List ℕ) (limit : ℕ) (named : (v : ℕ) → ltb v count ≡ true → Spelled (Variable sc v)) (renewed : (v : ℕ) → ltb v count ≡ true → member v listed ≡ true → Spelled (Listed sc v)) where
  mention : (a : Aspect) (s : Stage) (v : ℕ) → ltb v count ≡ true → stage_known listed v s ≡ true → Spelled (Mention sc a s v)
  mention Value Current v e k = named v e
  mention Shadow Current v e k = these (codes "defined!") & gap & named v e
  mention Value Renewed v e k = these (codes "new!") & gap & renewed v e k
  mention Shadow Renewed v e k = these (codes "defined!") & gap & these (codes "new!") & gap & renewed v e k

  leader : (r : UnitRow) → row_known count listed r ≡ true → Spelled (Leader sc r)
  leader (Constant z) e = these (codes "consti!") & gap & number z e
  leader (Mentioned m) e = let h = and_parts (ltb m.variable count) (stage_known listed m.variable m.stage) e in mention m.aspect m.stage m.variable h.0 h.1
  leader (Applied o) e = these (word_of o ++ codes "!")

  lead : (first : Bool) → Spelled (Lead first)
  lead true = gap
  lead false = no_gap

  -- the rows that an entry was read from: at its nesting and any higher, some bytes spell them
  abbrev Told : Option ℕ → List UnitRow → Type 0
  Told None rs = Unit {0}
  Told (Some n) rs = (n ≤ limit) × ((k : ℕ) → n ≤ k → Spelled (Term sc k rs))

  -- rows that a stack was read from: those of each entry, one after another
  abbrev Stacked : List (Option ℕ) → List UnitRow → Type 0
  Stacked [] rs = rs ≡ []
  Stacked (o ∷ stack) rs = (a : List UnitRow) × (b : List UnitRow) × (rs ≡ a ++ b) × Told o a × Stacked stack b

  shallow : (k : ℕ) (o : Option ℕ) (rs : List UnitRow) → Told o rs → Within k o → Spelled (Term sc k rs)
  shallow k None rs t w = never (ap is_some w.1)
  shallow k (Some n) rs t w = t.1 k (let same : n ≡ w.0 = (let is = w.1 in cc) in omega (arith, w.2))

  -- the rows of so many entries from the top, as operands
  record Taken (m : ℕ) (stack : List (Option ℕ)) (rs : List UnitRow) : Type 0 where
    own : List UnitRow
    rest : List UnitRow
    split : rs ≡ own ++ rest
    below : Stacked (drop m stack) rest
    spelled : (k : ℕ) (first : Bool) → AllWithin k m 0 stack → Spelled (Operands (Term sc k) m first own)

  taken : (m : ℕ) (stack : List (Option ℕ)) (rs : List UnitRow) → Stacked stack rs → Taken m stack rs
  taken zero stack rs h = record { own = []; rest = rs; split = refl; below = h; spelled = λ k first d. ([], (refl, refl)) }
  taken (suc m) [] rs h = record { own = []; rest = rs; split = refl; below = h; spelled = λ k first d. never (ap is_some d.0.1) }
  taken (suc m) (o ∷ stack) rs h =
      let t = taken m stack h.1 h.4 in
      record {
        own = h.0 ++ t.own;
        rest = t.rest;
        split = h.2 ∙ ap (λ b. h.0 ++ b) t.split ∙ sym (append_assoc h.0 t.own t.rest);
        below = t.below;
        spelled = λ k first d. let s = lead first & shallow k o h.0 h.3 d.0 & t.spelled k false (all_past k m 0 o stack d.1) in (s.0, (h.0, t.own, refl, s.1));
      }

  -- a row and its operands
  whole : (k : ℕ) (r : UnitRow) (rs : List UnitRow) → row_known count listed r ≡ true → Spelled (Operands (Term sc k) (operands_after r) true rs) → Spelled (Term sc (suc k) (r ∷ rs))
  whole k r rs e operands = these (codes "(") & no_gap & leader r e & operands & close

  module _ (r : UnitRow) (known : row_known count listed r ≡ true) (stack : List (Option ℕ)) (rs : List UnitRow) (before : Stacked stack rs) (o : Option ℕ) (deep : (d k : ℕ) → o ≡ Some d → d ≤ k → AllWithin k (operands_after r) 0 stack) where
    abbrev operands : Taken (operands_after r) stack rs
    operands = taken (operands_after r) stack rs before

    told : (x : Option ℕ) → raised limit o ≡ x → Told x (r ∷ operands.own)
    told None is = tt
    told (Some n) is = let d = raised_is limit o n is in (omega (arith, d.2, d.3), λ k le. at d.0 k d.1 (omega (arith, d.3)))
      where
        at : (d k : ℕ) → o ≡ Some d → d < k → Spelled (Term sc k (r ∷ operands.own))
        at d zero is lt = absurd (omega arith)
        at d (suc k) is lt = whole k r operands.own known (operands.spelled k true (deep d k is (omega arith)))

    read : Stacked (raised limit o ∷ drop (operands_after r) stack) (r ∷ rs)
    read = (r ∷ operands.own, operands.rest, ap (λ x. r ∷ x) operands.split, told (raised limit o) refl, operands.below)

  stacked : (rs : List UnitRow) → list_all (row_known count listed) rs ≡ true → Stacked (fold (nesting limit) rs) rs
  stacked [] e = refl
  stacked (Constant z ∷ rs) e = let h = and_parts (in_span z) (list_all (row_known count listed) rs) e in read (Constant z) h.0 (fold (nesting limit) rs) rs (stacked rs h.1) (Some 0) (λ d k is le. tt)
  stacked (Mentioned m ∷ rs) e = let h = and_parts (row_known count listed (Mentioned m)) (list_all (row_known count listed) rs) e in read (Mentioned m) h.0 (fold (nesting limit) rs) rs (stacked rs h.1) (Some 0) (λ d k is le. tt)
  stacked (Applied o ∷ rs) e = read (Applied o) refl (fold (nesting limit) rs) rs (stacked rs e) _ (λ d k is le. within_deepest k d (signature_of o).operands (fold (nesting limit) rs) is le)

  pub term_spelled : (e : List UnitRow) → writes_term limit e ≡ true → list_all (row_known count listed) e ≡ true → Spelled (Term sc limit e)
  term_spelled e one known = go (fold (nesting limit) e) one (stacked e known)
    where
      go : (stack : List (Option ℕ)) → single stack ≡ true → Stacked stack e → Spelled (Term sc limit e)
      go [] s h = never s
      go (None ∷ ns) s h = never s
      go (Some n ∷ []) s h = subst (λ rs. Spelled (Term sc limit rs)) (sym (h.2 ∙ ap (λ b. h.0 ++ b) h.4 ∙ append-nil h.0)) (h.3.1 limit h.3.0)
      go (Some n ∷ m ∷ ns) s h = never s
