-- One thing more, or no more, of a repeated reading.
use Rattle.std.proofs.Common.{◌≡◌, ℕ, zero, suc, ◌+◌, ◌-◌, ◌<◌, Bool, true, false, leb, List, [], ◌∷◌, ◌++◌, sym, refl, ap, ◌∙◌, ⊎_elim, arith}
use Rattle.std.proofs.lemmas.Bool.{cond-true, cond-false, lt-leb, le-leb, cases_lt}
use Rattle.jcode.specs.declared.refusal.ReadFault.{ReadFault}
use Rattle.jcode.specs.Pieces.{Answer, got, refused, Reader, and_then, repeated}
use Rattle.jcode.proofs.Chains.{on, off}

abbrev is_zero : ℕ → Bool
is_zero zero = true
is_zero (suc n) = false

full : (limit count : ℕ) → leb limit count ≡ is_zero (limit - count)
full limit count =
    ⊎_elim
    (λ h. let e : limit - count ≡ suc (limit - (count + 1)) = omega arith in lt-leb limit count h ∙ sym (ap is_zero e))
    (λ h. let e : limit - count ≡ 0 = omega arith in le-leb limit count h ∙ sym (ap is_zero e))
    (cases_lt count limit)

module _ {A : Type 0} (more : List ℕ → ℕ → Bool) (step : Bool → List A → Reader A) (done : List A → Reader (List A)) where
  -- what comes after one thing more
  abbrev rest : ℕ → List A → List ℕ → A → ℕ → Answer (List A)
  rest zero seen bytes a j = got seen j
  rest (suc left) seen bytes a j = repeated more step done left (seen ++ a ∷ []) bytes j

  one_more : (left : ℕ) (seen : List A) (bytes : List ℕ) (at : ℕ) → more bytes at ≡ true → and_then (step (is_zero left) seen bytes at) (rest left seen bytes) ≡ repeated more step done left seen bytes at
  one_more zero seen bytes at e = sym (cond-true _ _ _ e)
  one_more (suc left) seen bytes at e = sym (cond-true _ _ _ e)

  no_more : (left : ℕ) (seen : List A) (bytes : List ℕ) (at : ℕ) → more bytes at ≡ false → done seen bytes at ≡ repeated more step done left seen bytes at
  no_more zero seen bytes at e = sym (cond-false _ _ _ e)
  no_more (suc left) seen bytes at e = sym (cond-false _ _ _ e)

  module _ (limit count : ℕ) (seen : List A) (bytes : List ℕ) (at : ℕ) (whole : Answer (List A)) (goal : repeated more step done (limit - count) seen bytes at ≡ whole) where
    onward : more bytes at ≡ true → and_then (step (leb limit count) seen bytes at) (rest (limit - count) seen bytes) ≡ whole
    onward e = ap (λ b. and_then (step b seen bytes at) (rest (limit - count) seen bytes)) (full limit count) ∙ one_more (limit - count) seen bytes at e ∙ goal

    pub step_refused : more bytes at ≡ true → {y : ReadFault} → refused y ≡ step (leb limit count) seen bytes at → refused y ≡ whole
    step_refused e h = off (rest (limit - count) seen bytes) h ∙ onward e

    pub step_read : more bytes at ≡ true → count < limit → (a : A) (j : ℕ) → got a j ≡ step (leb limit count) seen bytes at → repeated more step done (limit - (count + 1)) (seen ++ a ∷ []) bytes j ≡ whole
    step_read e h a j k =
        let n : suc (limit - (count + 1)) ≡ limit - count = omega arith in
        ap (λ l. rest l seen bytes a j) n ∙ on (rest (limit - count) seen bytes) k refl ∙ onward e

    pub all_done : more bytes at ≡ false → done seen bytes at ≡ whole
    all_done e = no_more (limit - count) seen bytes at e ∙ goal
