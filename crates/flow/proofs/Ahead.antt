-- A chain over the places to look at yields those to go to.
use Rattle.std.proofs.Common.{◌≡◌, ℕ, ◌-◌, ◌<◌, ◌≤◌, Bool, List, length, get_or, Some, None, Option, refl, ◌∙◌, subst, arith}
use Rattle.std.proofs.lemmas.List.{get_or_default}
use Rattle.std.specs.declared.ops.Range.{Range}
use Rattle.std.specs.declared.iter.Filter.{Filter}
use Rattle.std.proofs.iter.Yields.{nat_range_steps}
use Rattle.std.specs.Iterator.{Yields}
use Rattle.std.specs.Iterator.Adapters.{filter_source, filter_callee, filter_steps}
use Rattle.std.proofs.lemmas.Iterator.{YieldsList, YieldsList-from_range}
use Rattle.std.proofs.lemmas.Iterator.Consumers.{YieldsList-from_filter, YieldsList-at, YieldsList-turn, YieldsList-end}
use denote.Param.Members.{Mut}
use Rattle.std.specs.Fn.{CalledAt}
use denote.Ref.{Bor}
use Rattle.flow.specs.declared.step.Step.{Step}
use Rattle.flow.specs.Numbers.{may, onward}
use Rattle.flow.specs.Counts.{Enclosed}
use Rattle.flow.proofs.Leading.{enclosed}

pub yields_onward : {F : Type 0} {g : Mut F (Bor ℕ × Unit {0}) Bool} {f : F} (u : List Step) (from : Option ℕ) (s : Filter (Range ℕ) F) (r : Range ℕ) → Enclosed (may u from) (length u) r.start r.end
    → filter_source s ≡ r → filter_callee s ≡ f → ((x : ℕ) (b : Bool) (q : F) → CalledAt g f x b q → (q ≡ f) × (b ≡ may u from x))
    → YieldsList (filter_steps nat_range_steps g) (λ x. x) s (onward u from)
yields_onward u from s r h source callee calls = subst (YieldsList (filter_steps nat_range_steps _) (λ x. x) s) (enclosed u from r.start r.end h)
    (YieldsList-from_filter _ (may u from) (YieldsList-at source (YieldsList-from_range r.start r.end (r.end - r.start) refl refl)) callee calls)

-- a loop over such a chain: the next place, and the end
module _ {F : Type 0} {g : Mut F (Bor ℕ × Unit {0}) Bool} {f : F} (u : List Step) (from : Option ℕ) (s begun : Filter (Range ℕ) F) (xs : List ℕ) (t : Filter (Range ℕ) F) (yielded : Yields (filter_steps nat_range_steps g) s xs t) (o : Option ℕ) (v : Filter (Range ℕ) F) (step : filter_steps nat_range_steps g t o v)
    (begins : s ≡ begun) (r : Range ℕ) (h : Enclosed (may u from) (length u) r.start r.end) (source : filter_source begun ≡ r) (callee : filter_callee begun ≡ f) (calls : (x : ℕ) (b : Bool) (q : F) → CalledAt g f x b q → (q ≡ f) × (b ≡ may u from x)) where
  chain : YieldsList (filter_steps nat_range_steps g) (λ x. x) s (onward u from)
  chain = YieldsList-at begins (yields_onward u from begun r h source callee calls)

  pub onward_turn : (j : ℕ) → o ≡ Some j → (length xs < length (onward u from)) × (j ≡ get_or (onward u from) (length xs) 0)
  onward_turn j is = let turn = YieldsList-turn chain xs t yielded o v j is step in (turn.0, turn.1 ∙ get_or_default (onward u from) (length xs) j 0 turn.0)

  pub onward_end : o ≡ None → length (onward u from) ≤ length xs
  onward_end is = let whole = YieldsList-end chain xs t yielded o v is step in omega (arith, whole.1)
