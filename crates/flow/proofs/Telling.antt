-- What turns tell.
use Rattle.std.proofs.Common.{◌≡◌, ℕ, zero, suc, ◌+◌, ◌≤◌, Bool, false, List, [], ◌∷◌, ◌++◌, map, length, Some, None, Option, refl, ap, ⊎_elim, arith}
use Rattle.std.proofs.lemmas.Bool.{cases_lt}
use Rattle.std.proofs.lemmas.List.{get_or_past}
use Rattle.std.proofs.ByRecursion.{All-get_or}
use Rattle.flow.specs.declared.step.Step.{Step}
use Rattle.flow.specs.declared.step.Step.TheVariants.{Hang}
use Rattle.flow.specs.declared.turn.Turn.{Turn}
use Rattle.flow.specs.Steps.{is_require, Acyclic}
use Rattle.flow.specs.Counts.{ends}
use Rattle.flow.specs.Paths.{required}
use Rattle.std.specs.List.{flat_map}
use Rattle.flow.specs.Numbers.{onward, here, ways, ways_from}
use Rattle.flow.specs.Turns.{told, tail, Tells, Stands, Starts, Follows, Picked}
use Rattle.flow.proofs.Leading.{among_none, may_next, leads_inside}
use Rattle.flow.proofs.Descending.{ways_length_on, told_on}
use Rattle.flow.proofs.Numbering.{Begins, ways_sound}

begins_tail : (target : ℕ → Bool) (u : List Step) (i : ℕ) (p : List ℕ) → Begins target u i p → p ≡ i ∷ tail p
begins_tail target u i [] b = absurd b
begins_tail target u i (x ∷ rest) b = ap (λ (y : ℕ). y ∷ rest) b.0

pub tells : (u : List Step) (t : Turn) → Stands u t → Tells u t
tells u t s = record {
  inside = s.inside;
  begins = begins_tail (required u) u t.place (told u t) (All-get_or (Begins (required u) u t.place) (ways_from u t.place) t.number [] s.known (ways_sound (required u) (length u) u t.place));
}

pub starts : (u : List Step) (k : ℕ) (r : Option Turn) → Picked u None k r → Starts u k r
starts u k None p = p
starts u k (Some t) p = (p.2, p.1, tells u t p.0)

-- ---- a turn that tells no way
unknown : (u : List Step) (t : Turn) → length (ways_from u t.place) ≤ t.number → Follows u t None
unknown u t h = ap tail (get_or_past (ways_from u t.place) t.number [] h)

nowhere : (u : List Step) (i : ℕ) → length u ≤ i → onward u (Some i) ≡ []
nowhere u i h = among_none u (Some i) 0 (length u) (λ j a b e. let l = leads_inside u i j (may_next u i j (omega arith) e).0 in omega arith)

no_end : (u : List Step) (i : ℕ) → length u ≤ i → required u i ≡ false
no_end u i h = ap is_require (get_or_past u i Hang h)

no_ways : (u : List Step) (f i : ℕ) → length u ≤ i → ways (required u) f u i ≡ []
no_ways u zero i h = refl
no_ways u (suc f) i h = λ t. here (no_end u i h t) i ++ map (λ way. i ∷ way) (flat_map (ways (required u) f u) (nowhere u i h t))

-- ---- the turn after a turn
pub follows : (u : List Step) → Acyclic u → (t : Turn) (k : ℕ) (r : Option Turn) → t.number ≡ ends (required u t.place) + k → Picked u (Some t.place) k r → Follows u t r
follows u a t k None e p = ⊎_elim
    (λ l. unknown u t (let n = ways_length_on u a t l in omega arith))
    (λ l. unknown u t (omega (arith, ap length (no_ways u (length u) t.place l))))
    (cases_lt t.place (length u))
follows u a t k (Some next) e p = (
  ⊎_elim
      (λ l. told_on u a t l k next e p)
      (λ l. absurd (let n = p.2 in omega (arith, ap (λ (js : List ℕ). length (flat_map (ways_from u) js)) (nowhere u t.place l))))
      (cases_lt t.place (length u)),
  tells u next p.0,
)
