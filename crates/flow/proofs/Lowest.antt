-- The least place of all by a search through those below a bound.
use Rattle.std.proofs.Common.{ℕ, ◌<◌, ◌≤◌, Some, None, Option, MatchOption, arith}
use Rattle.flow.specs.Least.{Least}

pub lowest : (P : ℕ → Type 0) (n : ℕ) (r : Option ℕ) → ((i : ℕ) → P i → i < n)
    → MatchOption r ((k : ℕ) → 0 ≤ k → k < n → P k → ⊥) (λ i. (0 ≤ i) × (i < n) × P i × ((k : ℕ) → 0 ≤ k → k < i → P k → ⊥)) → Least P r
lowest P n None b h = λ i p. h i (omega arith) (b i p) p
lowest P n (Some i) b h = (h.2, λ k l. h.3 k (omega arith) l)
