-- The cell that turns: its number grows by one.
use Rattle.std.proofs.Common.{◌≡◌, ℕ, suc, ◌+◌, ◌-◌, ◌<◌, true, false, List, ℤ, Some, sym, ap, ◌∙◌, subst, refl, arith}
use Rattle.std.proofs.lemmas.Bool.{cond-true, cond-false}
use Rattle.reckoning.specs.declared.mark.Mark.{Mark}
use Rattle.judges.specs.Walks.{is_open, stepped, turning, Turned}

module _ (rs : List Mark) (v w : List ℤ) (i ended : ℕ) (some : 0 < i) (so_far : turning rs v i ≡ turning rs v ended) (same : w ≡ v) where
  back : suc (i - 1) ≡ i
  back = omega arith

  pub turned_here : (after : List ℤ) → true ≡ is_open rs w (i - 1) → after ≡ stepped w (i - 1) → Turned (turning rs v ended) v (Some (i - 1 + 1)) after
  turned_here after h is =
      let here : turning rs v i ≡ Some (i - 1) = ap (turning rs v) (sym back) ∙ cond-true _ _ _ (ap (λ l. is_open rs l (i - 1)) (sym same) ∙ sym h) in
      subst (λ o. Turned o v (Some (i - 1 + 1)) after) (sym here ∙ so_far) (refl, is ∙ ap (λ l. stepped l (i - 1)) same)

  pub not_here : false ≡ is_open rs w (i - 1) → turning rs v (i - 1) ≡ turning rs v ended
  not_here h = sym (ap (turning rs v) (sym back) ∙ cond-false _ _ _ (ap (λ l. is_open rs l (i - 1)) (sym same) ∙ sym h)) ∙ so_far
