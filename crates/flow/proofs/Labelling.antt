-- Two places of a step, by the first and what stands behind it.
use Rattle.std.proofs.Common.{◌≡◌, ℕ, ◌+◌, ◌-◌, ◌<◌, Bool, false, ◌≢◌, List, Option, None, Some, MatchOption, length, drop, Decides, take, sym, ap, subst, ◌∙◌, ⊎_elim, arith, length-drop}
use Rattle.std.proofs.lemmas.List.{get_or-drop, take_all}
use Rattle.std.proofs.lemmas.Bool.{cases_lt, both_ways}
use Rattle.flow.specs.declared.step.Step.{Step}
use Rattle.flow.specs.declared.step.Step.TheVariants.{Hang}
use Rattle.flow.specs.Steps.{at}
use Rattle.flow.specs.Labels.{Has, HasTwo}

pub two : (u : List Step) (s : Step) (i : ℕ) (r : Bool)
    → at u i ≡ s → ((k : ℕ) → k < i → at u k ≢ s) → Decides r (Has (take (length u - (i + 1)) (drop (i + 1) u)) s) → Decides r (HasTwo u s)
two u s i r e first behind = let rest = subst (λ v. Decides r (Has v s)) (take_all (length u - (i + 1)) (drop (i + 1) u) (omega (arith, length-drop (i + 1) u))) behind in (
  λ t. let h = rest.0 t in
      (i, i + 1 + h.0, omega arith, (let l = h.1 in omega (arith, length-drop (i + 1) u)), e, sym (get_or-drop (i + 1) u h.0 Hang) ∙ h.2),
  λ h. let a = h.2 in let b = h.3 in
      let late : i < h.1 = ⊎_elim (λ l. absurd (first h.0 l h.4)) (λ l. omega arith) (cases_lt h.0 i) in
      let k : i + 1 + (h.1 - (i + 1)) ≡ h.1 = omega arith in
      rest.1 (h.1 - (i + 1), omega (arith, length-drop (i + 1) u), get_or-drop (i + 1) u (h.1 - (i + 1)) Hang ∙ ap (at u) k ∙ h.5),
)

-- the same by what is found, where nothing may be
pub two_if_found : (u : List Step) (s : Step) {Behind : ℕ → Type 0} (o : Option ℕ) (r : Bool)
    → MatchOption o ((k : ℕ) → k < length u → at u k ≢ s) (λ i. (at u i ≡ s) × ((k : ℕ) → k < i → at u k ≢ s))
    → ((i : ℕ) → Behind i → Decides r (Has (take (length u - (i + 1)) (drop (i + 1) u)) s))
    → MatchOption o (r ≡ false) Behind → Decides r (HasTwo u s)
two_if_found u s None r none tells found = (λ t. absurd (both_ways r found t), λ h. let l = h.2 in let m = h.3 in absurd (none h.0 (omega arith) h.4))
two_if_found u s (Some i) r first tells behind = two u s i r first.0 first.1 (tells i behind)
