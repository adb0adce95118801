-- A path has no more places than there are statements.
use Rattle.std.proofs.Common.{◌≡◌, ℕ, zero, suc, ◌≤◌, Bool, true, false, leb, List, [], ◌∷◌, map, length, get_or, Some, None, refl, ◌∙◌, arith}
use Rattle.std.proofs.lemmas.Bool.{and_parts, and_from, leb-true, le-leb}
use Rattle.std.proofs.lemmas.List.Folds.{list_all-append}
use Rattle.std.specs.List.{list_all, flat_map}
use Rattle.flow.specs.declared.step.Step.{Step}
use Rattle.flow.specs.Numbers.{here, ways, onward, ways_to, paths, nth}
use Rattle.flow.specs.Paths.{required}

all_flat : {X Y : Type 0} (p : Y → Bool) (f : X → List Y) (xs : List X) → ((x : X) → list_all p (f x) ≡ true) → list_all p (flat_map f xs) ≡ true
all_flat p f [] each = refl
all_flat p f (x ∷ xs) each = list_all-append p (f x) (flat_map f xs) ∙ and_from (list_all p (f x)) _ (each x) (all_flat p f xs each)

short_at : (n : ℕ) (ws : List (List ℕ)) → list_all (λ w. leb (length w) n) ws ≡ true → (k : ℕ) → length (get_or ws k []) ≤ n
short_at n [] all k = omega arith
short_at n (w ∷ ws) all zero = leb-true (length w) n (and_parts (leb (length w) n) _ all).0
short_at n (w ∷ ws) all (suc k) = short_at n ws (and_parts (leb (length w) n) _ all).1 k

short_here : (n : ℕ) (b : Bool) (i : ℕ) → list_all (λ w. leb (length w) (suc n)) (here b i) ≡ true
short_here n true i = and_from (leb 1 (suc n)) true (le-leb 1 (suc n) (omega arith)) refl
short_here n false i = refl

one_longer : (n i : ℕ) (ws : List (List ℕ)) → list_all (λ w. leb (length w) n) ws ≡ true → list_all (λ w. leb (length w) (suc n)) (map (λ w. i ∷ w) ws) ≡ true
one_longer n i [] all = refl
one_longer n i (w ∷ ws) all =
    let p = and_parts (leb (length w) n) _ all in
    and_from (leb (suc (length w)) (suc n)) _ (let h = leb-true (length w) n p.0 in le-leb (suc (length w)) (suc n) (omega (arith, h))) (one_longer n i ws p.1)

short : (target : ℕ → Bool) (n : ℕ) (u : List Step) (i : ℕ) → list_all (λ w. leb (length w) n) (ways target n u i) ≡ true
short target zero u i = refl
short target (suc n) u i =
    let rest = flat_map (ways target n u) (onward u (Some i)) in
    list_all-append (λ w. leb (length w) (suc n)) (here (target i) i) (map (λ w. i ∷ w) rest)
    ∙ and_from _ _ (short_here n (target i) i) (one_longer n i rest (all_flat (λ w. leb (length w) n) (ways target n u) (onward u (Some i)) (short target n u)))

pub path_short : (u : List Step) (k : ℕ) → length (nth u k) ≤ length u
path_short u k = short_at (length u) (paths u) (all_flat (λ w. leb (length w) (length u)) (ways_to (required u) u) (onward u None) (short (required u) (length u) u)) k
