-- The hull of an operator's results, by its choices.
use Rattle.std.specs.Prelude.{◌≡◌, Bool, true, false, [], ◌∷◌, ℤ, pos, ◌≤ℤ◌, refl}
use Rattle.std.proofs.Common.{sym, ap, ◌∙◌, subst, arith}
use Rattle.std.proofs.lemmas.Int.{ints}
use Rattle.terms.specs.declared.operator.Operator.{Operator}
use Rattle.terms.specs.declared.kind.Sort.{Sort}
use Rattle.terms.specs.Operators.{operands_of}
use Rattle.terms.specs.Numbers.{computed, truth}
use Rattle.reckoning.specs.declared.mark.Mark.{Mark}
use Rattle.reckoning.specs.declared.decision.Decision.{Decision}
use Rattle.reckoning.specs.declared.decision.Decision.TheVariants.{Yes, No, Unknown}
use Rattle.reckoning.specs.Kinds.{of_sort, Chosen, Choice}
use Rattle.reckoning.specs.Ranges.{ranged, truth_range}
use Rattle.reckoning.specs.Hulls.{Holds, Reached, Hull}
use Rattle.reckoning.specs.Telling.{Told, Pairs, At, Always}

-- a number of the sort from the mark
abbrev pub From : Sort → Mark → ℤ → Type 0
From s m n = (of_sort s n ≡ true) × Holds m n

abbrev pub low_of : Decision → ℤ
low_of Yes = pos 1
low_of No = pos 0
low_of Unknown = pos 0

abbrev pub high_of : Decision → ℤ
high_of Yes = pos 1
high_of No = pos 0
high_of Unknown = pos 1

pub truth_ranged : (d : Decision) → truth_range d ≡ ranged (low_of d) (high_of d)
truth_ranged Yes = refl
truth_ranged No = refl
truth_ranged Unknown = refl

truth_above : (v : Bool) → pos 0 ≤ℤ truth v
truth_above true = omega (arith, ints)
truth_above false = omega (arith, ints)

truth_below : (v : Bool) → truth v ≤ℤ pos 1
truth_below true = omega (arith, ints)
truth_below false = omega (arith, ints)

-- a truth that is told over choices
module _ (o : Operator) (a b c : Mark) where
  moved : (m n : ℤ) → m ≡ n → Reached o a b c m → Reached o a b c n
  moved m n e r = record { x = r.x; y = r.y; z = r.z; choice = r.choice; result = r.result ∙ e }

  module _ {A : Type 0} (S : A → Type 0) (P : A → Bool) (into : (p : A) → S p → Reached o a b c (truth (P p)))
      (back : (x y z : ℤ) → Choice Holds o a b c x y z → (p : A) × S p × (computed o x y z ≡ truth (P p))) where
    reach : (v : Bool) → At S P v → Reached o a b c (truth v)
    reach v h = moved (truth (P h.0)) (truth v) (ap truth h.2) (into h.0 h.1)

    result_is : (v : Bool) → Always S P v → (x y z : ℤ) → Choice Holds o a b c x y z → computed o x y z ≡ truth v
    result_is v h x y z ch = let q = back x y z ch in q.2 ∙ ap truth (h q.0 q.1)

    truth_hull : (d : Decision) → Told d S P → Hull o a b c (low_of d) (high_of d)
    truth_hull Yes h = record {
      bottom = reach true h.0;
      top = reach true h.0;
      above = λ x y z ch. let e = result_is true h.1 x y z ch in omega (arith, ints);
      below = λ x y z ch. let e = result_is true h.1 x y z ch in omega (arith, ints);
    }
    truth_hull No h = record {
      bottom = reach false h.0;
      top = reach false h.0;
      above = λ x y z ch. let e = result_is false h.1 x y z ch in omega (arith, ints);
      below = λ x y z ch. let e = result_is false h.1 x y z ch in omega (arith, ints);
    }
    truth_hull Unknown h = record {
      bottom = reach false h.1;
      top = reach true h.0;
      above = λ x y z ch. let q = back x y z ch in let t = truth_above (P q.0) in let e = q.2 in omega (arith, ints);
      below = λ x y z ch. let q = back x y z ch in let t = truth_below (P q.0) in let e = q.2 in omega (arith, ints);
    }

-- an operator of two operands, by what it computes of them
module _ (o : Operator) (s t : Sort) (takes : operands_of o ≡ s ∷ t ∷ []) (a b c : Mark) where
  pub choose : (x y z : ℤ) → From s a x → From t b y → Choice Holds o a b c x y z
  choose x y z p q = subst (λ ss. Chosen Holds ss (a ∷ b ∷ c ∷ []) (x ∷ y ∷ z ∷ [])) (sym takes) (p.0, p.1, (q.0, q.1, tt))

  pub chosen : (x y z : ℤ) → Choice Holds o a b c x y z → From s a x × From t b y
  chosen x y z ch = let h = subst (λ ss. Chosen Holds ss (a ∷ b ∷ c ∷ []) (x ∷ y ∷ z ∷ [])) takes ch in ((h.0, h.1), (h.2.0, h.2.1))

  module _ (P : ℤ × ℤ → Bool) (is : (x y z : ℤ) → computed o x y z ≡ truth (P (x, y))) where
    pub truth₂ : (d : Decision) → Told d (Pairs (From s a) (From t b)) P → Hull o a b c (low_of d) (high_of d)
    truth₂ = truth_hull o a b c (Pairs (From s a) (From t b)) P
        (λ p m. record { x = p.0; y = p.1; z = pos 0; choice = choose p.0 p.1 (pos 0) m.0 m.1; result = is p.0 p.1 (pos 0) })
        (λ x y z ch. ((x, y), chosen x y z ch, is x y z))

-- of one operand
module _ (o : Operator) (s : Sort) (takes : operands_of o ≡ s ∷ []) (a b c : Mark) where
  choose₁ : (x y z : ℤ) → From s a x → Choice Holds o a b c x y z
  choose₁ x y z p = subst (λ ss. Chosen Holds ss (a ∷ b ∷ c ∷ []) (x ∷ y ∷ z ∷ [])) (sym takes) (p.0, p.1, tt)

  chosen₁ : (x y z : ℤ) → Choice Holds o a b c x y z → From s a x
  chosen₁ x y z ch = let h = subst (λ ss. Chosen Holds ss (a ∷ b ∷ c ∷ []) (x ∷ y ∷ z ∷ [])) takes ch in (h.0, h.1)

  module _ (P : ℤ → Bool) (is : (x y z : ℤ) → computed o x y z ≡ truth (P x)) where
    pub truth₁ : (d : Decision) → Told d (From s a) P → Hull o a b c (low_of d) (high_of d)
    truth₁ = truth_hull o a b c (From s a) P
        (λ x m. record { x = x; y = pos 0; z = pos 0; choice = choose₁ x (pos 0) (pos 0) m; result = is x (pos 0) (pos 0) })
        (λ x y z ch. (x, chosen₁ x y z ch, is x y z))
