-- A walk without circles has no more places than there are statements.
use Rattle.std.proofs.Common.{ℕ, zero, suc, ◌<◌, ◌≤◌, Bool, cond, eqb, ◌≢◌, List, [], ◌∷◌, length, sym, subst, arith}
use Rattle.std.specs.List.{AllByRecursion as All}
use Rattle.std.proofs.lemmas.Bool.{cond_both, eqb-true, eqb-false}
use Rattle.flow.specs.declared.step.Step.{Step}
use Rattle.flow.specs.Steps.{Next, Reach, one, onto, Acyclic}
use Rattle.flow.specs.Paths.{Way}

-- ---- distinct numbers below n are at most n
abbrev pub Distinct : List ℕ → Type 0
Distinct [] = Unit {0}
Distinct (x ∷ xs) = All (λ y. x ≢ y) xs × Distinct xs

without : ℕ → List ℕ → List ℕ
without n [] = []
without n (x ∷ xs) = cond (eqb x n) (without n xs) (x ∷ without n xs)

without_all : (P : ℕ → Type 0) (n : ℕ) (xs : List ℕ) → All P xs → All P (without n xs)
unfolding without
without_all P n [] h = tt
without_all P n (x ∷ xs) h = cond_both (eqb x n) (without n xs) (x ∷ without n xs) (All P) (λ e. without_all P n xs h.1) (λ e. (h.0, without_all P n xs h.1))

without_below : (n : ℕ) (xs : List ℕ) → All (λ x. x < suc n) xs → All (λ x. x < n) (without n xs)
unfolding without
without_below n [] h = tt
without_below n (x ∷ xs) h = cond_both (eqb x n) (without n xs) (x ∷ without n xs) (All (λ x. x < n)) (λ e. without_below n xs h.1)
    (λ e. (let ne : x ≢ n = eqb-false x n e in let l = h.0 in omega arith, without_below n xs h.1))

without_distinct : (n : ℕ) (xs : List ℕ) → Distinct xs → Distinct (without n xs)
unfolding without
without_distinct n [] h = tt
without_distinct n (x ∷ xs) h = cond_both (eqb x n) (without n xs) (x ∷ without n xs) Distinct (λ e. without_distinct n xs h.1) (λ e. (without_all (λ y. x ≢ y) n xs h.0, without_distinct n xs h.1))

without_none : (n : ℕ) (xs : List ℕ) → All (λ y. n ≢ y) xs → length xs ≤ length (without n xs)
unfolding without
without_none n [] h = omega arith
without_none n (x ∷ xs) h = let k = without_none n xs h.1 in
    cond_both (eqb x n) (without n xs) (x ∷ without n xs) (λ ys. length (x ∷ xs) ≤ length ys) (λ e. absurd (h.0 (sym (eqb-true x n e)))) (λ e. omega arith)

without_length : (n : ℕ) (xs : List ℕ) → Distinct xs → length xs ≤ suc (length (without n xs))
unfolding without
without_length n [] h = omega arith
without_length n (x ∷ xs) h = let k = without_length n xs h.1 in
    cond_both (eqb x n) (without n xs) (x ∷ without n xs) (λ ys. length (x ∷ xs) ≤ suc (length ys))
    (λ e. let l = without_none n xs (subst (λ (z : ℕ). All (λ y. z ≢ y) xs) (eqb-true x n e) h.0) in omega arith) (λ e. omega arith)

pub pigeonhole : (n : ℕ) (xs : List ℕ) → Distinct xs → All (λ x. x < n) xs → length xs ≤ n
pigeonhole zero [] d h = omega arith
pigeonhole zero (x ∷ xs) d h = let l = h.0 in absurd (omega arith)
pigeonhole (suc n) xs d h =
    let k = pigeonhole n (without n xs) (without_distinct n xs d) (without_below n xs h) in
    let l = without_length n xs d in omega arith

-- ---- walks
-- from i the places go by successors
abbrev pub Walk : List Step → ℕ → List ℕ → Type 0
Walk u i [] = Unit {0}
Walk u i (j ∷ rest) = Next u i j × Walk u j rest

pub way_walk : (target : ℕ → Bool) (u : List Step) (i : ℕ) (rest : List ℕ) → Way target u i rest → Walk u i rest
way_walk target u i [] w = tt
way_walk target u i (j ∷ rest) w = (w.0, way_walk target u j rest w.2)

walk_below : (u : List Step) (i : ℕ) (rest : List ℕ) → Walk u i rest → All (λ j. j < length u) rest
walk_below u i [] w = tt
walk_below u i (j ∷ rest) w = (w.0.0, walk_below u j rest w.1)

apart : (u : List Step) → Acyclic u → (k i : ℕ) (rest : List ℕ) → Reach u k i → Walk u i rest → All (λ j. k ≢ j) (i ∷ rest)
apart u a k i [] r w = (λ e. a k (subst (Reach u k) (sym e) r), tt)
apart u a k i (j ∷ rest) r w = (λ e. a k (subst (Reach u k) (sym e) r), apart u a k j rest (onto r w.0) w.1)

walk_distinct : (u : List Step) → Acyclic u → (i : ℕ) (rest : List ℕ) → Walk u i rest → Distinct (i ∷ rest)
walk_distinct u a i [] w = (tt, tt)
walk_distinct u a i (j ∷ rest) w = (apart u a i j rest (one w.0) w.1, walk_distinct u a j rest w.1)

-- every walk from i has fewer than f places after i
abbrev pub Short : List Step → ℕ → ℕ → Type 0
Short u f i = (rest : List ℕ) → Walk u i rest → length rest < f

pub short : (u : List Step) → Acyclic u → (i : ℕ) → i < length u → Short u (length u) i
short u a i h rest w = pigeonhole (length u) (i ∷ rest) (walk_distinct u a i rest w) (h, walk_below u i rest w)

pub shorter : (u : List Step) (f i j : ℕ) → Next u i j → Short u (suc f) i → Short u f j
shorter u f i j n s rest w = let k = s (j ∷ rest) (n, w) in omega arith
