-- The flow BREAK, REQUIRE, HANG has one path and no circle.
use Rattle.std.proofs.Common.{◌≡◌, ℕ, zero, suc, ◌<◌, true, List, [], ◌∷◌, subst, ⊎_elim, arith}
use Rattle.std.proofs.lemmas.Bool.{eqb-true}
use Rattle.flow.specs.declared.step.Step.{Step}
use Rattle.flow.specs.declared.step.Step.TheVariants.{Hang, Break, Require}
use Rattle.flow.specs.Steps.{at, leads, Reach, one, onto}
use Rattle.flow.specs.Counts.{TooMany}
use Rattle.flow.proofs.Leading.{never}

abbrev pub house : List Step
house = Break ∷ Require ∷ Hang ∷ []

rises : (i j : ℕ) → leads i (at house i) j (at house j) ≡ true → i < j
rises zero j e = omega (arith, eqb-true j 1 e)
rises (suc zero) j e = omega (arith, eqb-true j 2 e)
rises (suc (suc zero)) j e = never e
rises (suc (suc (suc i))) j e = never e

rising : (i j : ℕ) → Reach house i j → i < j
rising i j (one n) = rises i j n.1
rising i k (onto {j = j} r n) = let a = rising i j r in let b = rises j k n.1 in omega arith

pub few : (u : List Step) → u ≡ house → TooMany u → ⊥
few u e t = ⊎_elim (λ h. let l = rising h.0 h.0 h.1 in omega arith) (λ h. omega arith) (subst TooMany e t)
