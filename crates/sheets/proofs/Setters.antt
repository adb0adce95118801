-- Cells that parts set: a part is said to set at most the one cell that it begins with.
use Rattle.std.proofs.Common.{◌≡◌, ℕ, zero, suc, ◌+◌, ◌<◌, Bool, true, false, ◌&&◌, ltb, List, [], ◌∷◌, length, get_or, pos, Some, None, Option, position, refl, sym, ap, ◌∙◌, subst, arith}
use Rattle.std.proofs.Math.ListN.{get_or-map}
use Rattle.std.specs.List.{list_all, enumerate_from, position_or_len}
use Rattle.std.specs.Bool.{then_some}
use Rattle.std.proofs.lemmas.Bool.{and_parts, cond-true, cond-false, lt-ltb, le-ltb, ltb-true}
use Rattle.std.proofs.lemmas.Bool.Decides.{nat_tests}
use Rattle.std.proofs.lemmas.List.Sums.{position_or_len_is}
use Rattle.terms.specs.declared.kind.Kind.TheVariants.{Number}
use Rattle.sheets.specs.declared.cell.Cell.{Cell}
use Rattle.sheets.specs.Sheets.{Condition, part, set_by, is_some_of, is_set_by, cell_set, is_bounded}
use Rattle.sheets.specs.Tables.{first_cell, sets, is_part, is_set, are_set, keeps}

pub clash : {X : Type 0} → false ≡ true → X
clash e = absurd (let z : ◌≡◌ {A = ℕ} 0 1 = cc in omega arith)

pub unlike : {A X : Type 0} {x : A} → None ≡ Some x → X
unlike e = absurd (let z : ◌≡◌ {A = ℕ} 0 1 = cc in omega arith)

not_true : (b : Bool) → (b ≡ true → ⊥) → b ≡ false
not_true true h = absurd (h refl)
not_true false h = refl

-- a place where a test passes alone is its position
module _ {X : Type 0} (p : X → Bool) (xs : List X) (d : X) where
  position_alone : (i : ℕ) → i < length xs → p (get_or xs i d) ≡ true → ((k : ℕ) → k < length xs → p (get_or xs k d) ≡ true → k ≡ i) → position p xs ≡ Some i
  position_alone i small here only =
      let e : position_or_len p xs ≡ i = position_or_len_is p xs i d (omega arith) (λ k l. not_true (p (get_or xs k d)) (λ h. let s = only k (omega arith) h in omega arith)) (λ l. here) in
      cond-true _ _ _ (lt-ltb (position_or_len p xs) (length xs) (omega arith)) ∙ ap Some e

  position_none : ((k : ℕ) → k < length xs → p (get_or xs k d) ≡ true → ⊥) → position p xs ≡ None
  position_none none =
      let e : position_or_len p xs ≡ length xs = position_or_len_is p xs (length xs) d (omega arith) (λ k l. not_true (p (get_or xs k d)) (none k l)) (λ l. absurd (omega arith)) in
      cond-false _ _ _ (le-ltb (position_or_len p xs) (length xs) (omega arith))

pub some_of : (p : ℕ) (o : Option ℕ) → is_some_of p o ≡ true → o ≡ Some p
some_of p None e = clash e
some_of p (Some q) e = let same : q ≡ p = grind (arith, nat_tests) in ap Some same

pub is_some : (p : ℕ) → is_some_of p (Some p) ≡ true
is_some p = grind (arith, nat_tests)

abbrev blank : Cell
blank = record { kind = Number; low = pos 0; high = pos 0; set_by = None }

-- a cell that is set is there
set_within : (p : ℕ) (cs : List Cell) (i : ℕ) → is_set_by p (get_or cs i blank) ≡ true → i < length cs
set_within p [] i e = clash e
set_within p (x ∷ xs) zero e = omega arith
set_within p (x ∷ xs) (suc i) e = let more = set_within p xs i e in omega arith

-- the test of each cell in order
set_from : (c : Condition) (n : ℕ) (cs : List Cell) → list_all (λ e. is_set c e.0 e.1.set_by) (enumerate_from n cs) ≡ true → (i p : ℕ) → set_by cs i ≡ Some p → is_set c (n + i) (Some p) ≡ true
set_from c n [] h i p e = unlike e
set_from c n (x ∷ xs) h zero p e = subst (λ k. is_set c k (Some p) ≡ true) (omega arith) (subst (λ o. is_set c n o ≡ true) e (and_parts _ _ h).0)
set_from c n (x ∷ xs) h (suc i) p e = subst (λ k. is_set c k (Some p) ≡ true) (omega arith) (set_from c (n + 1) xs (and_parts _ _ h).1 i p e)

pub kept_set : (c : Condition) → keeps c ≡ true → are_set c ≡ true
kept_set c h = (and_parts (list_all is_bounded c.cells) (are_set c) (and_parts (list_all (is_part c.cells) c.parts) (list_all is_bounded c.cells && are_set c) (and_parts (ltb 0 (length c.parts)) (list_all (is_part c.cells) c.parts && (list_all is_bounded c.cells && are_set c)) h).1).1).1

module _ (c : Condition) (kept : are_set c ≡ true) where
  pub set_at : (i p : ℕ) → set_by c.cells i ≡ Some p → (p + 1 < length c.parts) × (sets i (part c p) ≡ true)
  set_at i p e = let h = and_parts _ _ (set_from c 0 c.cells kept i p e) in (ltb-true _ _ h.0, subst (λ k. sets k (part c p) ≡ true) (omega arith) h.1)

  begins : (i p : ℕ) → set_by c.cells i ≡ Some p → first_cell (part c p) ≡ Some i
  begins i p e = some_of i (first_cell (part c p)) (and_parts _ _ (set_at i p e).1).0

  module _ (p : ℕ) where
    its_part : (i : ℕ) → is_set_by p (get_or c.cells i blank) ≡ true → first_cell (part c p) ≡ Some i
    its_part i h = begins i p (get_or-map (λ x. x.set_by) c.cells i blank ∙ some_of p (get_or c.cells i blank).set_by h)

    pub no_cell : first_cell (part c p) ≡ None → None ≡ cell_set c p
    no_cell e = sym (position_none (is_set_by p) c.cells blank (λ k l h. unlike (sym e ∙ its_part k h)))

    one_cell : (i : ℕ) → first_cell (part c p) ≡ Some i → (b : Bool) → is_set_by p (get_or c.cells i blank) ≡ b → then_some b i ≡ cell_set c p
    one_cell i e true f =
        sym (position_alone (is_set_by p) c.cells blank i (set_within p c.cells i f) f (λ k l h. let same : Some k ≡ Some i = sym (its_part k h) ∙ e in cc))
    one_cell i e false f = sym (position_none (is_set_by p) c.cells blank (λ k l h. let same : Some k ≡ Some i = sym (its_part k h) ∙ e in let at : k ≡ i = cc in clash (sym f ∙ subst (λ j. is_set_by p (get_or c.cells j blank) ≡ true) at h)))

    pub the_cell : (i : ℕ) → first_cell (part c p) ≡ Some i → then_some (is_some_of p (set_by c.cells i)) i ≡ cell_set c p
    the_cell i e = ap (λ o. then_some (is_some_of p o) i) (get_or-map (λ x. x.set_by) c.cells i blank) ∙ one_cell i e _ refl
