-- Clipped counts are those of the ways.
use Rattle.std.proofs.Common.{◌≡◌, ℕ, suc, ◌+◌, ◌-◌, ◌^◌, ◌<◌, ◌≤◌, min, Bool, true, false, List, [], ◌∷◌, fold, map, length, get_or, slice_index, Some, None, Option, refl, ◌∙◌, add-one, arith, length-append}
use Rattle.std.proofs.lemmas.List.{length-map}
use Rattle.std.proofs.lemmas.List.Sums.{sum_by-cons}
use Rattle.std.specs.List.{AllByRecursion as All}
use Rattle.std.proofs.ByRecursion.{All-weaker}
use Rattle.flow.specs.declared.step.Step.{Step}
use Rattle.flow.specs.Paths.{required}
use Rattle.std.specs.List.{flat_map}
use Rattle.flow.specs.Numbers.{may, onward, here, ways, ways_from, paths}
use Rattle.flow.specs.Counts.{limit, sum_at, ends, clipped, Counted}
use Rattle.flow.proofs.Leading.{onward_may}

-- ---- sums of counts
pub clipped_fold : (counts js : List ℕ) (s : ℕ) → s ≤ limit → fold (λ a j. min (min (a + slice_index counts j) (2 ^ 32 - 1)) limit) s js ≡ min (s + sum_at counts js) limit
clipped_fold counts [] s h = omega arith
clipped_fold counts (j ∷ js) s h = omega (arith, sum_by-cons (slice_index counts) j js, clipped_fold counts js (min (min (s + slice_index counts j) (2 ^ 32 - 1)) limit) (omega arith))

pub sum_clipped : (on : ℕ → List (List ℕ)) (counts js : List ℕ) → All (λ j. get_or counts j 0 ≡ min (length (on j)) limit) js → min (sum_at counts js) limit ≡ min (length (flat_map on js)) limit
sum_clipped on counts [] h = refl
sum_clipped on counts (j ∷ js) h = omega (arith, h.0, sum_by-cons (slice_index counts) j js, sum_clipped on counts js h.1, length-append (on j) (flat_map on js))

pub sum_onward : (u : List Step) (on : ℕ → List (List ℕ)) (counts : List ℕ) (from : Option ℕ) → ((k : ℕ) → k < length u → get_or counts k 0 ≡ min (length (on k)) limit)
    → min (sum_at counts (onward u from)) limit ≡ min (length (flat_map on (onward u from))) limit
sum_onward u on counts from h = sum_clipped on counts (onward u from) (All-weaker (λ j. (j < length u) × (may u from j ≡ true)) (λ j. get_or counts j 0 ≡ min (length (on j)) limit) (λ j k. h j k.0) (onward u from) (onward_may u from))

here_length : (b : Bool) (i : ℕ) → length (here b i) ≡ ends b
here_length true i = refl
here_length false i = refl

pub ways_count : (target : ℕ → Bool) (t : ℕ) (u : List Step) (i : ℕ) → length (ways target (suc t) u i) ≡ ends (target i) + length (flat_map (ways target t u) (onward u (Some i)))
ways_count target t u i = omega (arith, here_length (target i) i, length-append (here (target i) i) (map (λ way. i ∷ way) (flat_map (ways target t u) (onward u (Some i)))), length-map (flat_map (ways target t u) (onward u (Some i))) (λ way. i ∷ way))

-- ---- one sweep more
pub further : (u : List Step) (t : ℕ) (old new : List ℕ) → ((k : ℕ) → k < length u → get_or old k 0 ≡ min (length (ways (required u) t u k)) limit)
    → ((k : ℕ) → k < length u → get_or new k 0 ≡ clipped u old k)
    → (k : ℕ) → k < length u → get_or new k 0 ≡ min (length (ways (required u) (t + 1) u k)) limit
further u t old new h e k l = rw add-one (omega (arith, e k l, sum_onward u (ways (required u) t u) old (Some k) h, ways_count (required u) t u k))

-- ---- all paths
pub total_is : (u : List Step) (counts : List ℕ) (total : ℕ) → Counted u counts → total ≡ min (sum_at counts (onward u None)) limit → total ≡ min (length (paths u)) limit
total_is u counts total c e = e ∙ sum_onward u (ways_from u) counts None c
