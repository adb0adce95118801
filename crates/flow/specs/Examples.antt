-- Worked examples of flows.
use Rattle.std.specs.Prelude.{◌≡◌, List, [], ◌∷◌, Some, None}
use Rattle.flow.specs.declared.step.Step.{Step}
use Rattle.flow.specs.declared.step.Step.TheVariants.{Hang, Break, Require, Plain, Split, When, Branch, Join}
use Rattle.flow.specs.Steps.{OnCircle}
use Rattle.flow.specs.Least.{Least}
use Rattle.flow.specs.Orders.{Misplaced}
use Rattle.flow.specs.Labels.{Mislabelled}
use Rattle.flow.specs.Numbers.{paths}

-- BREAK, REQUIRE, PROCLAIM, ASSIGN, REQUIRE, HANG
abbrev pub two : List Step
two = Break ∷ Require ∷ Plain ∷ Plain ∷ Require ∷ Hang ∷ []

-- the BRANCH at 6 jumps back to the JOIN at 2
abbrev pub back : List Step
back = Break ∷ Branch 1 ∷ Join 2 ∷ Require ∷ Hang ∷ Join 1 ∷ Branch 2 ∷ []

-- the SPLIT at 1 goes to the WHENs at 2 and 4, and both to the JOIN at 6
abbrev pub fork : List Step
fork = Break ∷ Split 1 ∷ When 1 ∷ Branch 2 ∷ When 1 ∷ Branch 2 ∷ Join 2 ∷ Require ∷ Hang ∷ []

-- the BRANCH at 3 jumps back to the JOIN at 2
abbrev pub round : List Step
round = Break ∷ Branch 1 ∷ Join 1 ∷ Branch 1 ∷ []

pub record Examples : Type 0 where
  -- a path that begins another comes first
  pub two_has : paths two ≡ (0 ∷ 1 ∷ []) ∷ (0 ∷ 1 ∷ 2 ∷ 3 ∷ 4 ∷ []) ∷ []
  pub none_has : paths (Break ∷ Hang ∷ []) ≡ []
  pub back_has : paths back ≡ (0 ∷ 1 ∷ 5 ∷ 6 ∷ 2 ∷ 3 ∷ []) ∷ []
  pub fork_has : paths fork ≡ (0 ∷ 1 ∷ 2 ∷ 3 ∷ 6 ∷ 7 ∷ []) ∷ (0 ∷ 1 ∷ 4 ∷ 5 ∷ 6 ∷ 7 ∷ []) ∷ []
  -- no path goes through a second BREAK
  pub second_has : paths (Break ∷ Break ∷ Require ∷ Hang ∷ []) ≡ (1 ∷ 2 ∷ []) ∷ []
  -- the lowest statement that reaches itself
  pub back_is_open : Least (OnCircle back) None
  pub round_closes : Least (OnCircle round) (Some 2)
  -- a unit without a statement, a WHEN in an open block, a statement after a closed one, a last block that is open
  pub nothing_opens : Least (Misplaced []) (Some 0)
  pub when_in_block : Least (Misplaced (Break ∷ When 1 ∷ Hang ∷ [])) (Some 1)
  pub plain_after_hang : Least (Misplaced (Break ∷ Hang ∷ Plain ∷ [])) (Some 2)
  pub end_in_block : Least (Misplaced (Break ∷ Plain ∷ [])) (Some 2)
  pub fork_in_order : Least (Misplaced fork) None
  -- a SPLIT with one WHEN, a label on a SPLIT and a JOIN, a JOIN without a BRANCH
  pub split_of_one : Least (Mislabelled (Break ∷ Split 1 ∷ When 1 ∷ Hang ∷ [])) (Some 1)
  pub label_on_two : Least (Mislabelled (Break ∷ Split 1 ∷ When 1 ∷ Branch 1 ∷ When 1 ∷ Branch 1 ∷ Join 1 ∷ Hang ∷ [])) (Some 1)
  pub join_of_none : Least (Mislabelled (Break ∷ Hang ∷ Join 1 ∷ Hang ∷ [])) (Some 2)
  pub fork_is_labelled : Least (Mislabelled fork) None
