-- What a decision tells of a truth over a set of choices, and how negation and connectives keep it.
use Rattle.std.specs.Prelude.{◌≡◌, Bool, true, false, not, ◌&&◌, refl}
use Rattle.std.proofs.Common.{ap, ap₂, ◌∙◌}
use Rattle.reckoning.specs.declared.decision.Decision.{Decision}
use Rattle.reckoning.specs.declared.decision.Decision.TheVariants.{Yes, No, Unknown}
use Rattle.reckoning.specs.Decisions.{negated, both, either}

-- some member of S at which P is v
abbrev pub At : {A : Type 0} → (A → Type 0) → (A → Bool) → Bool → Type 0
At {A} S P v = (p : A) × S p × (P p ≡ v)

abbrev pub Always : {A : Type 0} → (A → Type 0) → (A → Bool) → Bool → Type 0
Always {A} S P v = (p : A) → S p → P p ≡ v

-- yes if P holds all over S, no if nowhere, and unknown if both come; S has a member
abbrev pub Told : {A : Type 0} → Decision → (A → Type 0) → (A → Bool) → Type 0
Told Yes S P = At S P true × Always S P true
Told No S P = At S P false × Always S P false
Told Unknown S P = At S P true × At S P false

module _ {A : Type 0} (S : A → Type 0) (P : A → Bool) where
  at_not : (v : Bool) → At S P v → At S (λ p. not (P p)) (not v)
  at_not v h = (h.0, h.1, ap not h.2)

  pub told_not : (d : Decision) → Told d S P → Told (negated d) S (λ p. not (P p))
  told_not Yes h = (at_not true h.0, λ p m. ap not (h.1 p m))
  told_not No h = (at_not false h.0, λ p m. ap not (h.1 p m))
  told_not Unknown h = (at_not false h.1, at_not true h.0)

abbrev pub Pairs : {A B : Type 0} → (A → Type 0) → (B → Type 0) → A × B → Type 0
Pairs S T p = S p.0 × T p.1

module _ {A B : Type 0} (S : A → Type 0) (P : A → Bool) (T : B → Type 0) (Q : B → Bool) where
  at_both : (u v : Bool) → At S P u → At T Q v → At (Pairs S T) (λ p. P p.0 && Q p.1) (u && v)
  at_both u v h k = ((h.0, k.0), (h.1, k.1), ap₂ ◌&&◌ h.2 k.2)

  never_left : Always S P false → Always (Pairs S T) (λ p. P p.0 && Q p.1) false
  never_left h p m = ap (λ s. s && Q p.1) (h p.0 m.0)

  never_right : Always T Q false → Always (Pairs S T) (λ p. P p.0 && Q p.1) false
  never_right h p m = ap (λ t. P p.0 && t) (h p.1 m.1) ∙ and_false (P p.0)
    where
      and_false : (s : Bool) → (s && false) ≡ false
      and_false true = refl
      and_false false = refl

  some : (d : Decision) → Told d T Q → (v : Bool) × At T Q v
  some Yes k = (true, k.0)
  some No k = (false, k.0)
  some Unknown k = (true, k.0)

  pub told_both : (d e : Decision) → Told d S P → Told e T Q → Told (both d e) (Pairs S T) (λ p. P p.0 && Q p.1)
  told_both No e h k = let t = some e k in (at_both false t.0 h.0 t.1, never_left h.1)
  told_both Yes Yes h k = (at_both true true h.0 k.0, λ p m. ap₂ ◌&&◌ (h.1 p.0 m.0) (k.1 p.1 m.1))
  told_both Yes No h k = (at_both true false h.0 k.0, never_right k.1)
  told_both Yes Unknown h k = (at_both true true h.0 k.0, at_both true false h.0 k.1)
  told_both Unknown No h k = (at_both true false h.0 k.0, never_right k.1)
  told_both Unknown Yes h k = (at_both true true h.0 k.0, at_both false true h.1 k.0)
  told_both Unknown Unknown h k = (at_both true true h.0 k.0, at_both false true h.1 k.0)

module _ {A B : Type 0} (S : A → Type 0) (P : A → Bool) (T : B → Type 0) (Q : B → Bool) where
  pub told_either : (d e : Decision) → Told d S P → Told e T Q → Told (either d e) (Pairs S T) (λ p. not (not (P p.0) && not (Q p.1)))
  told_either d e h k = told_not (Pairs S T) (λ p. not (P p.0) && not (Q p.1)) (both (negated d) (negated e)) (told_both S (λ p. not (P p)) T (λ q. not (Q q)) (negated d) (negated e) (told_not S P d h) (told_not T Q e k))

-- the same truth over choices that are named otherwise
module _ {A B : Type 0} (S : A → Type 0) (P : A → Bool) (T : B → Type 0) (Q : B → Bool) (f : A → B) (g : B → A)
    (into : (p : A) → S p → T (f p)) (back : (q : B) → T q → S (g q)) (kept : (p : A) → Q (f p) ≡ P p) (same : (q : B) → Q q ≡ P (g q)) where
  at_along : (v : Bool) → At S P v → At T Q v
  at_along v h = (f h.0, into h.0 h.1, kept h.0 ∙ h.2)

  always_along : (v : Bool) → Always S P v → Always T Q v
  always_along v h q m = same q ∙ h (g q) (back q m)

  pub told_along : (d : Decision) → Told d S P → Told d T Q
  told_along Yes h = (at_along true h.0, always_along true h.1)
  told_along No h = (at_along false h.0, always_along false h.1)
  told_along Unknown h = (at_along true h.0, at_along false h.1)
