-- The steps of a unit, from its tables and from itself.
use Rattle.std.proofs.Common.{◌≡◌, ℕ, zero, suc, ◌<◌, Bool, Ok, Err, Result, List, [], ◌∷◌, ◌++◌, map, length, get_or, refl, ap₂, arith}
use Rattle.flow.specs.declared.step.Step.{Step}
use Rattle.flow.specs.declared.flow.Full.{Full}
use Rattle.flow.specs.Flows.{Pushed}
use Rattle.jcode.specs.declared.statement.Statement.{Statement}
use Rattle.jcode.specs.declared.statement.Statement.TheVariants as stands
use Rattle.jcode.specs.declared.variable.Domain.{Domain}
use Rattle.jcode.specs.ReadTerms.{UnitRow}
use Rattle.jcode.specs.Sentences.{Sentence, Hang, Break, Require, Proclaim, New, Assign, Split, When, Branch, Join}
use Rattle.jcode.specs.Units.{retold, sentence_in}
use Rattle.checking.specs.Breaks.{step_of}
use Rattle.checking.specs.Rules.{kinds_kept, span_kept}
use Rattle.checking.specs.Steps.{record_step}

pub pushed_more : (u v : List Step) (s : Step) (r : Result (Unit {0}) Full) → Pushed u s v r → length u < 200 → v ≡ u ++ s ∷ []
pushed_more u v s (Ok _) p lt = p.1
pushed_more u v s (Err _) p lt = absurd (omega (arith, p.0))

-- neither rows nor texts change what a statement is to the flow
row_step : (rows : List UnitRow) (s : Statement) → record_step s ≡ step_of (sentence_in rows s)
row_step rows stands.Hang = refl
row_step rows (stands.Break t) = refl
row_step rows (stands.Require e t) = refl
row_step rows (stands.Proclaim e) = refl
row_step rows (stands.New vs e t) = refl
row_step rows (stands.Assign v e f) = refl
row_step rows (stands.Split l) = refl
row_step rows (stands.When e l) = refl
row_step rows (stands.Branch t l) = refl
row_step rows (stands.Join l) = refl

-- nor do texts change its kinds and its rows' marks
module _ {S T : Type 0} (f : S → T) where
  text_step : (s : Sentence S) → step_of s ≡ step_of (retold f s)
  text_step Hang = refl
  text_step (Break t) = refl
  text_step (Require e t) = refl
  text_step (Proclaim e) = refl
  text_step (New vs e t) = refl
  text_step (Assign v e g) = refl
  text_step (Split l) = refl
  text_step (When e l) = refl
  text_step (Branch t l) = refl
  text_step (Join l) = refl

  pub text_kinds : (ds : List Domain) (s : Sentence S) → kinds_kept ds s ≡ kinds_kept ds (retold f s)
  text_kinds ds Hang = refl
  text_kinds ds (Break t) = refl
  text_kinds ds (Require e t) = refl
  text_kinds ds (Proclaim e) = refl
  text_kinds ds (New vs e t) = refl
  text_kinds ds (Assign v e g) = refl
  text_kinds ds (Split l) = refl
  text_kinds ds (When e l) = refl
  text_kinds ds (Branch t l) = refl
  text_kinds ds (Join l) = refl

  pub text_span : (ds : List Domain) (s : Sentence S) → span_kept ds s ≡ span_kept ds (retold f s)
  text_span ds Hang = refl
  text_span ds (Break t) = refl
  text_span ds (Require e t) = refl
  text_span ds (Proclaim e) = refl
  text_span ds (New vs e t) = refl
  text_span ds (Assign v e g) = refl
  text_span ds (Split l) = refl
  text_span ds (When e l) = refl
  text_span ds (Branch t l) = refl
  text_span ds (Join l) = refl

  -- a test that texts do not change fails at the same places
  pub same_test : (p : Sentence S → Bool) (q : Sentence T → Bool) → ((s : Sentence S) → p s ≡ q (retold f s)) → (ss : List (Sentence S)) (i : ℕ) → p (get_or ss i Hang) ≡ q (get_or (map (retold f) ss) i Hang)
  same_test p q same [] i = same Hang
  same_test p q same (s ∷ ss) zero = same s
  same_test p q same (s ∷ ss) (suc i) = same_test p q same ss i

  pub text_steps : (ss : List (Sentence S)) → map step_of ss ≡ map step_of (map (retold f) ss)
  text_steps [] = refl
  text_steps (s ∷ ss) = ap₂ ◌∷◌ (text_step s) (text_steps ss)

pub record_steps : (rows : List UnitRow) (ss : List Statement) → map record_step ss ≡ map step_of (map (sentence_in rows) ss)
record_steps rows [] = refl
record_steps rows (s ∷ ss) = ap₂ ◌∷◌ (row_step rows s) (record_steps rows ss)
