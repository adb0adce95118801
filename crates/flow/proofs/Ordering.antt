-- What is out of order is a statement or the end.
use Rattle.std.proofs.Common.{ℕ, ◌+◌, ◌<◌, List, length, ⊎_elim, arith}
use Rattle.flow.specs.declared.step.Step.{Step}
use Rattle.flow.specs.Orders.{Misplaced}

pub within : (u : List Step) (i : ℕ) → Misplaced u i → i < length u + 1
within u i = ⊎_elim (λ h. let e = h.0 in omega arith) (⊎_elim (λ h. let l = h.1 in omega arith) (λ h. let e = h.1 in omega arith))
