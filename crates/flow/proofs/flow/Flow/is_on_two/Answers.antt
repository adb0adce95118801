use Rattle.std.proofs.Common.{inl, inr, rules}
use Rattle.flow.proofs.flow.Flow.is_on_two.Goals as goal
use Rattle.flow.proofs.flow.Flow.is_on_two.Goals.{then-has_two, else-has_two}

pub returns-then-has_two-2 : goal.returns-then-has_two-2
returns-then-has_two-2 c = (
  λ t. elim c.if-has_two.branch [ then-has_two w ↦ inl (inl (search rules)) | else-has_two w ↦ inl (inr (search rules)) ],
  λ h. c.if-has_two-2.true,
)
