-- A path by its number, one place after the other.
use Rattle.std.proofs.Common.{◌≡◌, ℕ, zero, suc, ◌+◌, ◌-◌, ◌<◌, ◌≤◌, Bool, true, false, List, [], ◌∷◌, ◌++◌, map, length, take, get_or, Some, None, Option, sym, refl, ap, ◌∙◌, arith}
use Rattle.std.specs.List.{AllByRecursion as All}
use Rattle.std.proofs.lemmas.List.{get_or-map, length-map, take_all}
use Rattle.std.proofs.lemmas.List.Concat.{get_or-flat_map, length-flat_map}
use Rattle.std.proofs.lemmas.List.Folds.{length-flat_map-take}
use Rattle.std.proofs.lemmas.List.Sums.{sum_by_more}
use Rattle.std.proofs.ByRecursion.{All-weaker}
use Rattle.flow.specs.declared.step.Step.{Step}
use Rattle.flow.specs.declared.turn.Turn.{Turn}
use Rattle.flow.specs.Steps.{Acyclic}
use Rattle.flow.specs.Paths.{required}
use Rattle.std.specs.List.{flat_map}
use Rattle.flow.specs.Numbers.{may, onward, here, ways, ways_to, ways_from}
use Rattle.flow.specs.Counts.{limit, ends, Counted}
use Rattle.flow.specs.Turns.{told, Picked}
use Rattle.flow.proofs.Leading.{may_next, onward_may, onward_inside}
use Rattle.flow.proofs.Walking.{Short, short, shorter}

-- ---- with fuel for all statements, more changes nothing
flat_map_same : (on also : ℕ → List (List ℕ)) (js : List ℕ) → All (λ j. on j ≡ also j) js → flat_map on js ≡ flat_map also js
flat_map_same on also [] h = refl
flat_map_same on also (j ∷ js) h = λ t. h.0 t ++ flat_map_same on also js h.1 t

enough : (target : ℕ → Bool) (u : List Step) (f i : ℕ) → Short u f i → ways target f u i ≡ ways target (suc f) u i
enough target u zero i s = let l = s [] tt in absurd (omega arith)
enough target u (suc f) i s = ap (λ (g : List (List ℕ)). here (target i) i ++ map (λ way. i ∷ way) g)
    (flat_map_same (ways target f u) (ways target (suc f) u) (onward u (Some i))
    (All-weaker (λ j. (j < length u) × (may u (Some i) j ≡ true)) (λ j. ways target f u j ≡ ways target (suc f) u j)
    (λ j h. enough target u f j (shorter u f i j (may_next u i j h.0 h.1).0 s)) (onward u (Some i)) (onward_may u (Some i))))

-- the ways from i by those from its successors
pub ways_on : (target : ℕ → Bool) (u : List Step) → Acyclic u → (i : ℕ) → i < length u → ways_to target u i ≡ here (target i) i ++ map (λ way. i ∷ way) (flat_map (ways_to target u) (onward u (Some i)))
ways_on target u a i h = enough target u (length u) i (short u a i h)

-- ---- the search for a number
-- of all ways those from the first i places to go to are passed, and the number k is left
abbrev pub Left : List Step → Option ℕ → ℕ → ℕ → ℕ → Type 0
Left u from number i k = number ≡ length (flat_map (ways_from u) (take i (onward u from))) + k

module _ (u : List Step) (counts : List ℕ) (from : Option ℕ) (number i k j : ℕ) (counted : Counted u counts) (small : number < limit) (left : Left u from number i k) (among : i < length (onward u from)) (is : j ≡ get_or (onward u from) i 0) where
  inside : j < length u
  inside = onward_inside u from i j among is

  pub found : k < get_or counts j 0 → Picked u from number (Some (record { place = j; number = k }))
  found h =
      let all = flat_map (ways_from u) (onward u from) in
      let known : k < length (ways_from u j) = omega (arith, counted j inside) in
      let told_at : get_or all number [] ≡ get_or (ways_from u j) k [] = rw (left, is) (get_or-flat_map (ways_from u) (onward u from) i k 0 [] among (rw is at known)) in (
        record { inside = inside; known = known },
        sym told_at,
        omega (arith, left, ap (λ (x : ℕ). length (ways_from u x)) is, length-flat_map-take (ways_from u) (onward u from) i 0 among),
      )

  pub passed : get_or counts j 0 ≤ k → Left u from number (i + 1) (k - get_or counts j 0)
  passed h = omega (
    arith,
    left,
    counted j inside,
    ap (λ (x : ℕ). length (ways_from u x)) is,
    length-flat_map (ways_from u) (take i (onward u from)),
    length-flat_map (ways_from u) (take (i + 1) (onward u from)),
    sum_by_more (λ (x : ℕ). length (ways_from u x)) (onward u from) i 0 among,
  )

pub none_left : (u : List Step) (from : Option ℕ) (number i k : ℕ) → length (onward u from) ≤ i → Left u from number i k → Picked u from number None
none_left u from number i k e left = omega (arith, left, ap (λ (js : List ℕ). length (flat_map (ways_from u) js)) (take_all i (onward u from) e))

-- ---- one place more
ahead : (b : Bool) (i : ℕ) (g : List (List ℕ)) (k : ℕ) → k < length g → get_or (here b i ++ map (λ way. i ∷ way) g) (ends b + k) [] ≡ i ∷ get_or g k []
ahead true i g k h = ap (λ (n : ℕ). get_or (here true i ++ map (λ way. i ∷ way) g) n []) (let e : 1 + k ≡ suc k = omega arith in e) ∙ get_or-map (λ way. i ∷ way) g k [] [] h
ahead false i g k h = ap (λ (n : ℕ). get_or (here false i ++ map (λ way. i ∷ way) g) n []) (let e : 0 + k ≡ k = omega arith in e) ∙ get_or-map (λ way. i ∷ way) g k [] [] h

length_on : (b : Bool) (i : ℕ) (g : List (List ℕ)) → length (here b i ++ map (λ way. i ∷ way) g) ≡ ends b + length g
length_on true i g = omega (arith, length-map g (λ way. i ∷ way))
length_on false i g = omega (arith, length-map g (λ way. i ∷ way))

module _ (u : List Step) (a : Acyclic u) (t : Turn) (inside : t.place < length u) where
  -- what the ways of the turn's place are made of
  pub ways_length_on : length (ways_from u t.place) ≡ ends (required u t.place) + length (flat_map (ways_from u) (onward u (Some t.place)))
  ways_length_on = omega (arith, ap length (ways_on (required u) u a t.place inside), length_on (required u t.place) t.place (flat_map (ways_from u) (onward u (Some t.place))))

  pub told_on : (k : ℕ) (next : Turn) → t.number ≡ ends (required u t.place) + k → Picked u (Some t.place) k (Some next) → told u t ≡ t.place ∷ told u next
  told_on k next e p =
      ap (λ (ws : List (List ℕ)). get_or ws t.number []) (ways_on (required u) u a t.place inside)
      ∙ ap (λ (n : ℕ). get_or (here (required u t.place) t.place ++ map (λ way. t.place ∷ way) (flat_map (ways_from u) (onward u (Some t.place)))) n []) e
      ∙ ahead (required u t.place) t.place (flat_map (ways_from u) (onward u (Some t.place))) k p.2
      ∙ ap (λ (way : List ℕ). t.place ∷ way) (sym p.1)
