-- What a sheet that keeps the rules says of a valuation.
use Rattle.std.specs.Prelude.{◌≡◌, ℕ, zero, suc, ◌+◌, ◌<◌, Bool, true, false, ◌&&◌, List, [], ◌∷◌, length, ℤ, pos, Some, None, Option, int_le, slice_index_or, refl}
use Rattle.std.specs.List.{list_all, slice_get}
use Rattle.std.proofs.Common.{sym, ap, ◌∙◌, subst, arith}
use Rattle.std.proofs.lemmas.Int.{ints}
use Rattle.std.proofs.lemmas.Bool.{and_parts, true≢false}
use Rattle.terms.specs.declared.kind.Kind.{Kind}
use Rattle.terms.specs.declared.kind.Kind.TheVariants.{Number, Truth}
use Rattle.terms.specs.declared.operator.Operator.TheVariants.{Equal}
use Rattle.terms.specs.Numbers.{same_number, truth}
use Rattle.terms.specs.Terms.{fold, value}
use Rattle.reckoning.specs.Kinds.{kind_given, kinds, kind_of, IsKinded}
use Rattle.sheets.specs.declared.cell.Cell.{Cell}
use Rattle.sheets.specs.Sheets.{CellTerm, Condition, part, cell_kind, setting_term, Sets, Keeps}
use Rattle.sheets.proofs.Spanning.{part_truth}
use Rattle.sheets.specs.Valuations.{cell_in, Within, GoalAloneFalse}

clash : {X : Type 0} → false ≡ true → X
clash e = absurd (true≢false (sym e))

-- what holds of each element of a list
pub at_each : {X : Type 0} (test : X → Bool) (xs : List X) (i : ℕ) (d : X) → list_all test xs ≡ true → i < length xs → test (slice_index_or xs i d) ≡ true
at_each test [] i d all lt = absurd (omega arith)
at_each test (x ∷ xs) zero d all lt = (and_parts _ _ all).0
at_each test (x ∷ xs) (suc i) d all lt = at_each test xs i d (and_parts _ _ all).1 (omega arith)

pub same_numbers : (a b : ℤ) → same_number a b ≡ true → a ≡ b
same_numbers a b e = grind (arith, ints)

pub same_number_lem : (a b : ℤ) → a ≡ b → same_number a b ≡ true
same_number_lem a b e = grind (arith, ints)

pub within_length : (cs : List Cell) (v : List ℤ) → Within cs v → length v ≡ length cs
within_length [] [] within = refl
within_length [] (n ∷ v) within = clash within
within_length (c ∷ cs) [] within = clash within
within_length (c ∷ cs) (n ∷ v) within = ap suc (within_length cs v (and_parts _ _ within).1)

pub within_at : (cs : List Cell) (v : List ℤ) → Within cs v → (i : ℕ) (c : Cell) → slice_get cs i ≡ Some c → (int_le c.low (cell_in v i) && int_le (cell_in v i) c.high) ≡ true
within_at [] v within i c is = absurd (let z : ◌≡◌ {A = ℕ} 0 1 = cc in omega arith)
within_at (d ∷ cs) [] within i c is = clash within
within_at (d ∷ cs) (n ∷ v) within zero c is = let same : d ≡ c = cc in subst (λ e. (int_le e.low n && int_le n e.high) ≡ true) same (and_parts _ _ within).0
within_at (d ∷ cs) (n ∷ v) within (suc i) c is = within_at cs v (and_parts _ _ within).1 i c is

-- the second operand of `equal!` has a kind
equal_kind : (a b c : Option Kind) (k : Kind) → kind_given Equal a b c ≡ Some k → (j : Kind) × (b ≡ Some j)
equal_kind a None c k e = absurd (go a e)
  where
    none : {X : Type 0} → None ≡ Some k → X
    none e = absurd (let z : ◌≡◌ {A = ℕ} 0 1 = cc in omega arith)

    go : (a : Option Kind) → kind_given Equal a None c ≡ Some k → ⊥
    go None e = none e
    go (Some Number) e = none e
    go (Some Truth) e = none e
equal_kind a (Some j) c k e = (j, refl)

module _ (s : Condition) (keeps : Keeps s) (p i : ℕ) (sets : Sets s p i) where
  -- a part that sets a cell sets it to a term of some kind
  pub setting_kind : (j : Kind) × IsKinded (cell_kind s.cells) j (setting_term (part s p))
  setting_kind =
      equal_kind (cell_kind s.cells i) (kind_of (cell_kind s.cells) (setting_term (part s p))) (slice_index_or (fold (kinds (cell_kind s.cells)) (setting_term (part s p))) 1 None) Truth
      (sym (ap (kind_of (cell_kind s.cells)) sets.shape) ∙ part_truth s keeps p (let e = sets.earlier in omega arith))

  -- and it is true exactly where the cell has that term's number
  pub part_value : (env : ℕ → ℤ) → value env (part s p) ≡ truth (same_number (env i) (value env (setting_term (part s p))))
  part_value env = ap (value env) sets.shape

truth_one : (b : Bool) → truth b ≡ pos 1 → b ≡ true
truth_one true e = refl
truth_one false e = absurd (let z : ◌≡◌ {A = ℕ} 0 1 = cc in omega arith)

pub set_value : (s : Condition) (p i : ℕ) → Sets s p i → (env : ℕ → ℤ) → value env (part s p) ≡ pos 1 → value env (setting_term (part s p)) ≡ env i
set_value s p i sets env e = sym (same_numbers _ _ (truth_one _ (sym (ap (value env) sets.shape) ∙ e)))

-- of a falsifying valuation each part but the last is true, and the last is false
pub part_true : (v : List ℤ) (es : List CellTerm) → GoalAloneFalse v es → (p : ℕ) → p + 1 < length es → value (cell_in v) (slice_index_or es p []) ≡ pos 1
part_true v [] f p lt = absurd f
part_true v (e ∷ []) f p lt = absurd (omega arith)
part_true v (e ∷ f ∷ es) h zero lt = h.0
part_true v (e ∷ f ∷ es) h (suc p) lt = part_true v (f ∷ es) h.1 p (omega arith)
