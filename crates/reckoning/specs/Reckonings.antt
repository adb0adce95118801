-- What a reckoning answers, and the laws that it keeps.
use Rattle.std.specs.Prelude.{◌≡◌, ℤ, pos, ◌≤ℤ◌, Some, None, Option, ◌≢◌}
use Rattle.terms.specs.declared.operator.Operator.{Operator}
use Rattle.terms.specs.Numbers.{computed}
use Rattle.reckoning.specs.declared.mark.Mark.{Mark}
use Rattle.reckoning.specs.declared.decision.Decision.{Decision}
use Rattle.reckoning.specs.declared.decision.Decision.TheVariants.{Yes, No}
use Rattle.reckoning.specs.Kinds.{Choice}

-- its answers: where nothing is known, of a constant, of a low and high, of an operator over marks, of two marks met, of a truth
pub record Meaning : Type 0 where
  pub anything : Mark
  pub marked : ℤ → Mark
  pub bounded : ℤ → ℤ → Mark
  pub applied : Operator → Mark → Mark → Mark → Mark
  pub met : Mark → Mark → Option Mark
  pub decided : Mark → Decision

pub record Lawful (covers : Mark → ℤ → Type 0) (r : Meaning) : Type 0 where
  pub anything : (n : ℤ) → covers r.anything n
  pub marking : (n : ℤ) → covers (r.marked n) n
  pub bounding : (low high n : ℤ) → low ≤ℤ n → n ≤ℤ high → covers (r.bounded low high) n
  -- every result of covered operands of the operator's kinds
  pub applying : (o : Operator) (a b c : Mark) (x y z : ℤ) → Choice covers o a b c x y z → covers (r.applied o a b c) (computed o x y z)
  -- a meet covers what both cover, and is nothing exactly if they share no number
  pub meeting : (a b m : Mark) (n : ℤ) → r.met a b ≡ Some m → covers a n → covers b n → covers m n
  pub apart : (a b : Mark) (n : ℤ) → r.met a b ≡ None → covers a n → covers b n → ⊥
  pub sharing : (a b m : Mark) → r.met a b ≡ Some m → (n : ℤ) × covers a n × covers b n
  -- no exactly if 1 is not covered, else yes exactly if 0 is not
  pub denied : (m : Mark) → r.decided m ≡ No → covers m (pos 1) → ⊥
  pub denying : (m : Mark) → (covers m (pos 1) → ⊥) → r.decided m ≡ No
  pub affirmed : (m : Mark) → r.decided m ≡ Yes → covers m (pos 0) → ⊥
  pub affirming : (m : Mark) → (r.decided m ≢ No) → (covers m (pos 0) → ⊥) → r.decided m ≡ Yes
