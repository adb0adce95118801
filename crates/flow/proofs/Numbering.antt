-- The list of paths has the paths, all and nothing else, in their order.
use Rattle.std.proofs.Common.{◌≡◌, ℕ, zero, suc, ◌+◌, ◌<◌, ◌≤◌, Bool, true, false, ◌≢◌, List, [], ◌∷◌, ◌++◌, map, length, take, get_or, Some, None, Option, sym, refl, ap, ◌∙◌, subst, inl, inr, ⊎_elim, arith}
use Rattle.std.specs.List.{AllByRecursion as All, Contains}
use Rattle.std.proofs.lemmas.List.{get_or-map, get_or_default, length-map}
use Rattle.std.proofs.lemmas.List.Concat.{get_or-flat_map}
use Rattle.std.proofs.lemmas.List.Elements.{Contains-append_left, Contains-append_right}
use Rattle.std.proofs.lemmas.List.Folds.{length-flat_map-take}
use Rattle.std.proofs.lemmas.Bool.{cond_both, cases_order}
use Rattle.std.proofs.ByRecursion.{All-weaker, All-append, All-map, All-get_or}
use Rattle.flow.specs.declared.step.Step.{Step}
use Rattle.flow.specs.declared.step.Step.TheVariants.{Break}
use Rattle.flow.specs.Steps.{at, is_break, Next, Acyclic}
use Rattle.flow.specs.Paths.{Way, PathTo, Path, required, Before}
use Rattle.std.specs.List.{flat_map}
use Rattle.flow.specs.Numbers.{may, onward, here, ways, ways_to, paths_to, paths, Numbered}
use Rattle.flow.proofs.Leading.{among}
use Rattle.flow.proofs.Leading.{never, break_is, may_next, next_may, onward_may, onward_in, break_inside}
use Rattle.flow.proofs.Walking.{short, way_walk}

-- ---- parts of the list
here_all : (P : List ℕ → Type 0) (b : Bool) (i : ℕ) → (b ≡ true → P (i ∷ [])) → All P (here b i)
here_all P true i h = (h refl, tt)
here_all P false i h = tt

flat_map_all : (P : List ℕ → Type 0) (on : ℕ → List (List ℕ)) (js : List ℕ) → All (λ j. All P (on j)) js → All P (flat_map on js)
flat_map_all P on [] h = tt
flat_map_all P on (j ∷ js) h = All-append P (on j) (flat_map on js) h.0 (flat_map_all P on js h.1)

-- what holds of the ways from each place to go to
flat_map_each : (P : List ℕ → Type 0) (on : ℕ → List (List ℕ)) (u : List Step) (from : Option ℕ) → ((j : ℕ) → j < length u → may u from j ≡ true → All P (on j)) → All P (flat_map on (onward u from))
flat_map_each P on u from h = flat_map_all P on (onward u from) (All-weaker (λ j. (j < length u) × (may u from j ≡ true)) (λ j. All P (on j)) (λ j k. h j k.0 k.1) (onward u from) (onward_may u from))

-- what holds of each way from i
ways_each : (target : ℕ → Bool) (P : List ℕ → Type 0) (f : ℕ) (u : List Step) (i : ℕ) → (target i ≡ true → P (i ∷ [])) → ((j : ℕ) → j < length u → may u (Some i) j ≡ true → All (λ way. P (i ∷ way)) (ways target f u j)) → All P (ways target (suc f) u i)
ways_each target P f u i h k = All-append P (here (target i) i) (map (λ way. i ∷ way) (flat_map (ways target f u) (onward u (Some i))))
    (here_all P (target i) i h)
    (All-map P (λ way. i ∷ way) (flat_map (ways target f u) (onward u (Some i))) (flat_map_each (λ way. P (i ∷ way)) (ways target f u) u (Some i) k))

in_map : (i : ℕ) (x : List ℕ) (xs : List (List ℕ)) → Contains xs x → Contains (map (λ way. i ∷ way) xs) (i ∷ x)
in_map i x xs h = (h.0, (let l = h.1 in omega (arith, length-map xs (λ way. i ∷ way))), get_or-map (λ way. i ∷ way) xs h.0 x (i ∷ x) h.1 ∙ ap (λ way. i ∷ way) h.2)

in_flat_map : (on : ℕ → List (List ℕ)) (x : List ℕ) (j : ℕ) (js : List ℕ) → Contains js j → Contains (on j) x → Contains (flat_map on js) x
in_flat_map on x j js h k =
    let l : k.0 < length (on (get_or js h.0 j)) = subst (λ (y : ℕ). k.0 < length (on y)) (sym h.2) k.1 in (
      length (flat_map on (take h.0 js)) + k.0,
      omega (arith, length-flat_map-take on js h.0 j h.1),
      get_or-flat_map on js h.0 k.0 j x h.1 l ∙ ap (λ (y : ℕ). get_or (on y) k.0 x) h.2 ∙ k.2,
    )

in_here : (b : Bool) (i : ℕ) → b ≡ true → Contains (here b i) (i ∷ [])
in_here true i e = (0, omega arith, refl)
in_here false i e = never e

in_at : (x d : List ℕ) (xs : List (List ℕ)) → Contains xs x → (k : ℕ) × (k < length xs) × (get_or xs k d ≡ x)
in_at x d xs h = (h.0, h.1, get_or_default xs h.0 d x h.1 ∙ h.2)

-- ---- nothing else
-- a way that begins with i
abbrev pub Begins : (ℕ → Bool) → List Step → ℕ → List ℕ → Type 0
Begins target u i [] = ⊥
Begins target u i (x ∷ rest) = (x ≡ i) × Way target u x rest

extend : (target : ℕ → Bool) (u : List Step) (i j : ℕ) (way : List ℕ) → j < length u → may u (Some i) j ≡ true → Begins target u j way → Way target u i way
extend target u i j [] l e b = absurd b
extend target u i j (x ∷ rest) l e b =
    let h = may_next u i j l e in
    (subst (λ (y : ℕ). Next u i y) (sym b.0) h.0, subst (λ (y : ℕ). at u y ≢ Break) (sym b.0) h.1, b.1)

pub ways_sound : (target : ℕ → Bool) (f : ℕ) (u : List Step) (i : ℕ) → All (Begins target u i) (ways target f u i)
ways_sound target zero u i = tt
ways_sound target (suc f) u i = ways_each target (Begins target u i) f u i (λ e. (refl, e))
    (λ j l e. All-weaker (Begins target u j) (λ way. Begins target u i (i ∷ way)) (λ way b. (refl, extend target u i j way l e b)) (ways target f u j) (ways_sound target f u j))

begun : (target : ℕ → Bool) (u : List Step) (i : ℕ) (p : List ℕ) → is_break (at u i) ≡ true → Begins target u i p → PathTo target u p
begun target u i [] e b = absurd b
begun target u i (x ∷ rest) e b = (ap (at u) b.0 ∙ break_is (at u i) e, b.1)

pub paths_sound : (target : ℕ → Bool) (u : List Step) → All (PathTo target u) (paths_to target u)
paths_sound target u = flat_map_each (PathTo target u) (ways_to target u) u None (λ j l e. All-weaker (Begins target u j) (PathTo target u) (λ p b. begun target u j p e b) (ways_to target u j) (ways_sound target (length u) u j))

-- a way has no more places than its fuel
pub ways_length : (target : ℕ → Bool) (f : ℕ) (u : List Step) (i : ℕ) → All (λ p. length p ≤ f) (ways target f u i)
ways_length target zero u i = tt
ways_length target (suc f) u i = ways_each target (λ p. length p ≤ suc f) f u i (λ e. omega arith)
    (λ j l e. All-weaker (λ p. length p ≤ f) (λ way. length (i ∷ way) ≤ suc f) (λ way b. omega arith) (ways target f u j) (ways_length target f u j))

-- ---- all of them
pub ways_complete : (target : ℕ → Bool) (f : ℕ) (u : List Step) (i : ℕ) (rest : List ℕ) → Way target u i rest → length rest < f → Contains (ways target f u i) (i ∷ rest)
ways_complete target zero u i rest w h = absurd (omega arith)
ways_complete target (suc f) u i [] w h = Contains-append_left (here (target i) i) (map (λ way. i ∷ way) (flat_map (ways target f u) (onward u (Some i)))) (i ∷ []) (in_here (target i) i w)
ways_complete target (suc f) u i (j ∷ rest) w h = Contains-append_right (here (target i) i) (map (λ way. i ∷ way) (flat_map (ways target f u) (onward u (Some i)))) (i ∷ j ∷ rest)
    (in_map i (j ∷ rest) (flat_map (ways target f u) (onward u (Some i)))
    (in_flat_map (ways target f u) (j ∷ rest) j (onward u (Some i)) (onward_in u (Some i) j w.0.0 (next_may u i j w.0 w.1)) (ways_complete target f u j rest w.2 (omega arith))))

pub paths_complete : (target : ℕ → Bool) (u : List Step) → Acyclic u → (p : List ℕ) → PathTo target u p → Contains (paths_to target u) p
paths_complete target u a [] w = absurd w
paths_complete target u a (i ∷ rest) w =
    let l = break_inside u i w.0 in
    in_flat_map (ways_to target u) (i ∷ rest) i (onward u None) (onward_in u None i l (ap is_break w.0))
    (ways_complete target (length u) u i rest w.1 (short u a i l rest (way_walk target u i rest w.1)))

-- ---- in their order
abbrev pub Ascending : List (List ℕ) → Type 0
Ascending [] = Unit {0}
Ascending (p ∷ ps) = All (Before p) ps × Ascending ps

append_ascending : (xs ys : List (List ℕ)) → Ascending xs → Ascending ys → All (λ x. All (Before x) ys) xs → Ascending (xs ++ ys)
append_ascending [] ys a b h = b
append_ascending (x ∷ xs) ys a b h = (All-append (Before x) xs ys a.0 h.0, append_ascending xs ys a.1 b h.1)

map_ascending : (i : ℕ) (xs : List (List ℕ)) → Ascending xs → Ascending (map (λ way. i ∷ way) xs)
map_ascending i [] a = tt
map_ascending i (x ∷ xs) a = (All-map (Before (i ∷ x)) (λ way. i ∷ way) xs (All-weaker (Before x) (λ way. Before (i ∷ x) (i ∷ way)) (λ way b. inr (refl, b)) xs a.0), map_ascending i xs a.1)

here_ascending : (b : Bool) (i : ℕ) → Ascending (here b i)
here_ascending true i = (tt, tt)
here_ascending false i = tt

-- a list that begins at a or later
abbrev From : ℕ → List ℕ → Type 0
From a [] = ⊥
From a (x ∷ p) = a ≤ x

from_begins : (target : ℕ → Bool) (u : List Step) (a : ℕ) (p : List ℕ) → Begins target u a p → From a p
from_begins target u a [] b = absurd b
from_begins target u a (x ∷ p) b = let e = b.0 in omega arith

from_later : (a : ℕ) (p : List ℕ) → From (a + 1) p → From a p
from_later a [] h = absurd h
from_later a (x ∷ p) h = omega arith

before_later : (target : ℕ → Bool) (u : List Step) (a : ℕ) (p q : List ℕ) → Begins target u a p → From (a + 1) q → Before p q
before_later target u a [] q b h = absurd b
before_later target u a (x ∷ p) [] b h = absurd h
before_later target u a (x ∷ p) (y ∷ q) b h = inl (let e = b.0 in omega arith)

before_longer : (i : ℕ) (q : List ℕ) → From 0 q → Before (i ∷ []) (i ∷ q)
before_longer i [] h = absurd h
before_longer i (y ∷ q) h = inr (refl, tt)

flat_map_from : (target : ℕ → Bool) (u : List Step) (f : ℕ) (from : Option ℕ) (a m : ℕ) → All (From a) (flat_map (ways target f u) (among u from a m))
flat_map_from target u f from a zero = tt
flat_map_from target u f from a (suc m) =
    let rest = All-weaker (From (a + 1)) (From a) (from_later a) (flat_map (ways target f u) (among u from (a + 1) m)) (flat_map_from target u f from (a + 1) m) in
    cond_both (may u from a) (a ∷ among u from (a + 1) m) (among u from (a + 1) m) (λ js. All (From a) (flat_map (ways target f u) js))
    (λ e. All-append (From a) (ways target f u a) (flat_map (ways target f u) (among u from (a + 1) m)) (All-weaker (Begins target u a) (From a) (from_begins target u a) (ways target f u a) (ways_sound target f u a)) rest)
    (λ e. rest)

flat_map_ascending : (target : ℕ → Bool) (u : List Step) (f : ℕ) → ((i : ℕ) → Ascending (ways target f u i)) → (from : Option ℕ) (a m : ℕ) → Ascending (flat_map (ways target f u) (among u from a m))
flat_map_ascending target u f h from a zero = tt
flat_map_ascending target u f h from a (suc m) =
    let rest = flat_map_ascending target u f h from (a + 1) m in
    cond_both (may u from a) (a ∷ among u from (a + 1) m) (among u from (a + 1) m) (λ js. Ascending (flat_map (ways target f u) js))
    (λ e. append_ascending (ways target f u a) (flat_map (ways target f u) (among u from (a + 1) m)) (h a) rest
    (All-weaker (Begins target u a) (λ p. All (Before p) (flat_map (ways target f u) (among u from (a + 1) m)))
    (λ p b. All-weaker (From (a + 1)) (Before p) (λ q l. before_later target u a p q b l) (flat_map (ways target f u) (among u from (a + 1) m)) (flat_map_from target u f from (a + 1) m))
    (ways target f u a) (ways_sound target f u a)))
    (λ e. rest)

pub ways_ascending : (target : ℕ → Bool) (f : ℕ) (u : List Step) (i : ℕ) → Ascending (ways target f u i)
ways_ascending target zero u i = tt
ways_ascending target (suc f) u i =
    append_ascending (here (target i) i) (map (λ way. i ∷ way) (flat_map (ways target f u) (onward u (Some i))))
    (here_ascending (target i) i)
    (map_ascending i (flat_map (ways target f u) (onward u (Some i))) (flat_map_ascending target u f (ways_ascending target f u) (Some i) 0 (length u)))
    (here_all (λ x. All (Before x) (map (λ way. i ∷ way) (flat_map (ways target f u) (onward u (Some i))))) (target i) i
    (λ e. All-map (Before (i ∷ [])) (λ way. i ∷ way) (flat_map (ways target f u) (onward u (Some i)))
    (All-weaker (From 0) (λ way. Before (i ∷ []) (i ∷ way)) (before_longer i) (flat_map (ways target f u) (onward u (Some i))) (flat_map_from target u f (Some i) 0 (length u)))))

pub paths_ascending : (target : ℕ → Bool) (u : List Step) → Ascending (paths_to target u)
paths_ascending target u = flat_map_ascending target u (length u) (ways_ascending target (length u) u) None 0 (length u)

ascending_at : (ps : List (List ℕ)) → Ascending ps → (j k : ℕ) → j < k → k < length ps → Before (get_or ps j []) (get_or ps k [])
ascending_at [] a j k h l = absurd (omega arith)
ascending_at (p ∷ ps) a j zero h l = absurd (omega arith)
ascending_at (p ∷ ps) a zero (suc k) h l = All-get_or (Before p) ps k [] (omega arith) a.0
ascending_at (p ∷ ps) a (suc j) (suc k) h l = ascending_at ps a.1 j k (omega arith) (omega arith)

-- ---- no list comes before itself
irreflexive : (p : List ℕ) → Before p p → ⊥
irreflexive [] b = b
irreflexive (i ∷ p) b = ⊎_elim (λ h. omega arith) (λ h. irreflexive p h.1) b

apart_at : (ps : List (List ℕ)) → Ascending ps → (j k : ℕ) → j < k → k < length ps → get_or ps j [] ≡ get_or ps k [] → ⊥
apart_at ps a j k h l e = irreflexive (get_or ps k []) (subst (λ (p : List ℕ). Before p (get_or ps k [])) e (ascending_at ps a j k h l))

one_at : (ps : List (List ℕ)) → Ascending ps → (j k : ℕ) → j < length ps → k < length ps → get_or ps j [] ≡ get_or ps k [] → j ≡ k
one_at ps a j k l m e = ⊎_elim (λ is. is) (⊎_elim (λ h. absurd (apart_at ps a j k h m e)) (λ h. absurd (apart_at ps a k j h l (sym e)))) (cases_order j k)

-- ---- the theorem
pub numbered : (u : List Step) → Acyclic u → Numbered u
numbered u a = record {
  each_is_path = λ k h. All-get_or (Path u) (paths u) k [] h (paths_sound (required u) u);
  each_path_is = λ p w. in_at p [] (paths u) (paths_complete (required u) u a p w);
  one_to_one = one_at (paths u) (paths_ascending (required u) u);
  in_order = ascending_at (paths u) (paths_ascending (required u) u);
}
