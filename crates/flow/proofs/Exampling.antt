-- The worked examples of flows.
use Rattle.std.proofs.Common.{◌≡◌, ℕ, zero, suc, ◌-◌, ◌<◌, true, ◌≢◌, List, [], ◌∷◌, length, get_or, sym, refl, ap, ◌∙◌, subst, inl, inr, ⊎_elim, true≢false, arith}
use Rattle.std.proofs.lemmas.Bool.{eqb-true}
use Rattle.flow.specs.declared.step.Step.{Step}
use Rattle.flow.specs.declared.step.Step.TheVariants.{Hang, Break, Require, Plain, Split, When, Branch, Join}
use Rattle.flow.specs.Steps.{at, is_when, is_join, closes, opens, leads, Reach, one, onto}
use Rattle.flow.specs.Orders.{Misplaced}
use Rattle.flow.specs.Labels.{OnTwo, Mislabelled}
use Rattle.flow.specs.Examples.{Examples, back, fork, round}
use Rattle.flow.proofs.Leading.{never}

-- ---- circles
-- in `back` each step goes to a higher rank
rank : ℕ → ℕ
rank i = get_or (0 ∷ 1 ∷ 4 ∷ 5 ∷ 6 ∷ 2 ∷ 3 ∷ []) i 0

joins_1 : (j : ℕ) → is_join 1 (at back j) ≡ true → j ≡ 5
joins_1 zero e = never e
joins_1 (suc zero) e = never e
joins_1 (suc (suc zero)) e = never e
joins_1 (suc (suc (suc zero))) e = never e
joins_1 (suc (suc (suc (suc zero)))) e = never e
joins_1 (suc (suc (suc (suc (suc zero))))) e = refl
joins_1 (suc (suc (suc (suc (suc (suc zero)))))) e = never e
joins_1 (suc (suc (suc (suc (suc (suc (suc j))))))) e = never e

joins_2 : (j : ℕ) → is_join 2 (at back j) ≡ true → j ≡ 2
joins_2 zero e = never e
joins_2 (suc zero) e = never e
joins_2 (suc (suc zero)) e = refl
joins_2 (suc (suc (suc zero))) e = never e
joins_2 (suc (suc (suc (suc zero)))) e = never e
joins_2 (suc (suc (suc (suc (suc zero))))) e = never e
joins_2 (suc (suc (suc (suc (suc (suc zero)))))) e = never e
joins_2 (suc (suc (suc (suc (suc (suc (suc j))))))) e = never e

rises : (i j : ℕ) → leads i (at back i) j (at back j) ≡ true → rank i < rank j
unfolding rank
rises zero j e = omega (arith, ap rank (eqb-true j 1 e))
rises (suc zero) j e = omega (arith, ap rank (joins_1 j e))
rises (suc (suc zero)) j e = omega (arith, ap rank (eqb-true j 3 e))
rises (suc (suc (suc zero))) j e = omega (arith, ap rank (eqb-true j 4 e))
rises (suc (suc (suc (suc zero)))) j e = never e
rises (suc (suc (suc (suc (suc zero))))) j e = omega (arith, ap rank (eqb-true j 6 e))
rises (suc (suc (suc (suc (suc (suc zero)))))) j e = omega (arith, ap rank (joins_2 j e))
rises (suc (suc (suc (suc (suc (suc (suc i))))))) j e = never e

rising : (i j : ℕ) → Reach back i j → rank i < rank j
rising i j (one n) = rises i j n.1
rising i k (onto {j = j} r n) = let a = rising i j r in let b = rises j k n.1 in omega arith

-- in `round` nothing leads to 0, and only 0 to 1
to_0 : (i : ℕ) → leads i (at round i) 0 (at round 0) ≡ true → ⊥
to_0 zero e = never e
to_0 (suc zero) e = never e
to_0 (suc (suc zero)) e = never e
to_0 (suc (suc (suc zero))) e = never e
to_0 (suc (suc (suc (suc i)))) e = never e

to_1 : (i : ℕ) → leads i (at round i) 1 (at round 1) ≡ true → i ≡ 0
to_1 zero e = refl
to_1 (suc zero) e = never e
to_1 (suc (suc zero)) e = never e
to_1 (suc (suc (suc zero))) e = never e
to_1 (suc (suc (suc (suc i)))) e = never e

reach_0 : (i j : ℕ) → Reach round i j → j ≡ 0 → ⊥
reach_0 i j (one n) e = to_0 i (subst (λ (k : ℕ). leads i (at round i) k (at round k) ≡ true) e n.1)
reach_0 i k (onto {j = j} r n) e = to_0 j (subst (λ (k : ℕ). leads j (at round j) k (at round k) ≡ true) e n.1)

reach_1 : (i j : ℕ) → Reach round i j → i ≡ 1 → j ≡ 1 → ⊥
reach_1 i j (one n) a b = let z = to_1 i (subst (λ (k : ℕ). leads i (at round i) k (at round k) ≡ true) b n.1) in omega arith
reach_1 i k (onto {j = j} r n) a b = reach_0 i j r (to_1 j (subst (λ (k : ℕ). leads j (at round j) k (at round k) ≡ true) b n.1))

-- ---- order
first_fits : (u : List Step) → 0 < length u → at u 0 ≡ Break → Misplaced u 0 → ⊥
first_fits u h e = ⊎_elim (λ m. m.1 e) (⊎_elim (λ m. let l = m.0 in omega arith) (λ m. let l = m.0 in omega arith))

fits : (u : List Step) (i : ℕ) → i ≢ 0 → i ≢ length u → closes (at u (i - 1)) ≡ opens (at u i) → Misplaced u i → ⊥
fits u i a b e = ⊎_elim (λ m. a m.0) (⊎_elim (λ m. m.2 e) (λ m. b m.1))

fork_fits : (i : ℕ) → Misplaced fork i → ⊥
fork_fits zero = first_fits fork (omega arith) refl
fork_fits (suc zero) = fits fork 1 (omega arith) (omega arith) refl
fork_fits (suc (suc zero)) = fits fork 2 (omega arith) (omega arith) refl
fork_fits (suc (suc (suc zero))) = fits fork 3 (omega arith) (omega arith) refl
fork_fits (suc (suc (suc (suc zero)))) = fits fork 4 (omega arith) (omega arith) refl
fork_fits (suc (suc (suc (suc (suc zero))))) = fits fork 5 (omega arith) (omega arith) refl
fork_fits (suc (suc (suc (suc (suc (suc zero)))))) = fits fork 6 (omega arith) (omega arith) refl
fork_fits (suc (suc (suc (suc (suc (suc (suc zero))))))) = fits fork 7 (omega arith) (omega arith) refl
fork_fits (suc (suc (suc (suc (suc (suc (suc (suc zero)))))))) = fits fork 8 (omega arith) (omega arith) refl
fork_fits (suc (suc (suc (suc (suc (suc (suc (suc (suc i))))))))) =
    ⊎_elim (λ m. let e = m.0 in omega arith) (⊎_elim (λ m. let l = m.1 in omega arith) (λ m. true≢false (sym (ap (λ (k : ℕ). closes (at fork (k - 1))) m.1) ∙ m.2)))

-- ---- labels
-- the labels of SPLITs and JOINs, one higher, and 0 for all others
splits : Step → ℕ
splits Hang = 0
splits Break = 0
splits Require = 0
splits Plain = 0
splits (Split l) = suc l
splits (When l) = 0
splits (Branch l) = 0
splits (Join l) = 0

joins : Step → ℕ
joins Hang = 0
joins Break = 0
joins Require = 0
joins Plain = 0
joins (Split l) = 0
joins (When l) = 0
joins (Branch l) = 0
joins (Join l) = suc l

fork_splits : (l i : ℕ) → at fork i ≡ Split l → (i ≡ 1) × (l ≡ 1)
unfolding splits
fork_splits l zero e = absurd (omega (arith, ap splits e))
fork_splits l (suc zero) e = (refl, omega (arith, ap splits e))
fork_splits l (suc (suc zero)) e = absurd (omega (arith, ap splits e))
fork_splits l (suc (suc (suc zero))) e = absurd (omega (arith, ap splits e))
fork_splits l (suc (suc (suc (suc zero)))) e = absurd (omega (arith, ap splits e))
fork_splits l (suc (suc (suc (suc (suc zero))))) e = absurd (omega (arith, ap splits e))
fork_splits l (suc (suc (suc (suc (suc (suc zero)))))) e = absurd (omega (arith, ap splits e))
fork_splits l (suc (suc (suc (suc (suc (suc (suc zero))))))) e = absurd (omega (arith, ap splits e))
fork_splits l (suc (suc (suc (suc (suc (suc (suc (suc zero)))))))) e = absurd (omega (arith, ap splits e))
fork_splits l (suc (suc (suc (suc (suc (suc (suc (suc (suc i))))))))) e = absurd (omega (arith, ap splits e))

fork_joins : (l i : ℕ) → at fork i ≡ Join l → (i ≡ 6) × (l ≡ 2)
unfolding joins
fork_joins l zero e = absurd (omega (arith, ap joins e))
fork_joins l (suc zero) e = absurd (omega (arith, ap joins e))
fork_joins l (suc (suc zero)) e = absurd (omega (arith, ap joins e))
fork_joins l (suc (suc (suc zero))) e = absurd (omega (arith, ap joins e))
fork_joins l (suc (suc (suc (suc zero)))) e = absurd (omega (arith, ap joins e))
fork_joins l (suc (suc (suc (suc (suc zero))))) e = absurd (omega (arith, ap joins e))
fork_joins l (suc (suc (suc (suc (suc (suc zero)))))) e = (refl, omega (arith, ap joins e))
fork_joins l (suc (suc (suc (suc (suc (suc (suc zero))))))) e = absurd (omega (arith, ap joins e))
fork_joins l (suc (suc (suc (suc (suc (suc (suc (suc zero)))))))) e = absurd (omega (arith, ap joins e))
fork_joins l (suc (suc (suc (suc (suc (suc (suc (suc (suc i))))))))) e = absurd (omega (arith, ap joins e))

fork_apart : (l : ℕ) → OnTwo fork l → ⊥
fork_apart l = ⊎_elim
    (⊎_elim
    (λ h. let a = fork_splits l h.0 h.4 in let b = fork_splits l h.1 h.5 in let k = h.2 in omega arith)
    (λ h. let a = fork_joins l h.0 h.4 in let b = fork_joins l h.1 h.5 in let k = h.2 in omega arith))
    (λ h. let a = fork_splits l h.0.0 h.0.2 in let b = fork_joins l h.1.0 h.1.2 in omega arith)

fork_labelled : (i : ℕ) → Mislabelled fork i → ⊥
fork_labelled zero = ⊎_elim absurd absurd
fork_labelled (suc zero) = ⊎_elim (fork_apart 1) (λ m. m (2, 4, omega arith, omega arith, refl, refl))
fork_labelled (suc (suc zero)) = ⊎_elim absurd (λ m. m (1, omega arith, refl))
fork_labelled (suc (suc (suc zero))) = ⊎_elim absurd (λ m. m (6, omega arith, refl))
fork_labelled (suc (suc (suc (suc zero)))) = ⊎_elim absurd (λ m. m (1, omega arith, refl))
fork_labelled (suc (suc (suc (suc (suc zero))))) = ⊎_elim absurd (λ m. m (6, omega arith, refl))
fork_labelled (suc (suc (suc (suc (suc (suc zero)))))) = ⊎_elim (fork_apart 2) (λ m. m (3, omega arith, refl))
fork_labelled (suc (suc (suc (suc (suc (suc (suc zero))))))) = ⊎_elim absurd absurd
fork_labelled (suc (suc (suc (suc (suc (suc (suc (suc zero)))))))) = ⊎_elim absurd absurd
fork_labelled (suc (suc (suc (suc (suc (suc (suc (suc (suc i))))))))) = ⊎_elim absurd absurd

one_when : (i : ℕ) → at (Break ∷ Split 1 ∷ When 1 ∷ Hang ∷ []) i ≡ When 1 → i ≡ 2
one_when zero e = never (ap (is_when 1) e)
one_when (suc zero) e = never (ap (is_when 1) e)
one_when (suc (suc zero)) e = refl
one_when (suc (suc (suc zero))) e = never (ap (is_when 1) e)
one_when (suc (suc (suc (suc i)))) e = never (ap (is_when 1) e)

no_branch : (i : ℕ) → at (Break ∷ Hang ∷ Join 1 ∷ Hang ∷ []) i ≡ Branch 1 → ⊥
no_branch zero e = never (ap (λ s. leads 0 s 0 (Join 1)) e)
no_branch (suc zero) e = never (ap (λ s. leads 0 s 0 (Join 1)) e)
no_branch (suc (suc zero)) e = never (ap (λ s. leads 0 s 0 (Join 1)) e)
no_branch (suc (suc (suc zero))) e = never (ap (λ s. leads 0 s 0 (Join 1)) e)
no_branch (suc (suc (suc (suc i)))) e = never (ap (λ s. leads 0 s 0 (Join 1)) e)

-- ---- below one and two
below_one : (P : ℕ → Type 0) → (P 0 → ⊥) → (j : ℕ) → j < 1 → P j → ⊥
below_one P a zero h = a
below_one P a (suc j) h = absurd (omega arith)

below_two : (P : ℕ → Type 0) → (P 0 → ⊥) → (P 1 → ⊥) → (j : ℕ) → j < 2 → P j → ⊥
below_two P a b zero h = a
below_two P a b (suc zero) h = b
below_two P a b (suc (suc j)) h = absurd (omega arith)

pub examples : Examples
examples = record {
  two_has = refl;
  none_has = refl;
  back_has = refl;
  fork_has = refl;
  second_has = refl;
  back_is_open = λ i r. let l = rising i i r in omega arith;
  round_closes = (onto {j = 3} (one (omega arith, refl)) (omega arith, refl), below_two (λ j. Reach round j j) (λ r. reach_0 0 0 r refl) (λ r. reach_1 1 1 r refl refl));
  nothing_opens = (inl (refl, λ e. true≢false (ap closes e)), λ j h m. omega arith);
  when_in_block = (inr (inl (omega arith, omega arith, never)), below_one (Misplaced (Break ∷ When 1 ∷ Hang ∷ [])) (first_fits (Break ∷ When 1 ∷ Hang ∷ []) (omega arith) refl));
  plain_after_hang = (inr (inl (omega arith, omega arith, true≢false)), below_two (Misplaced (Break ∷ Hang ∷ Plain ∷ [])) (first_fits (Break ∷ Hang ∷ Plain ∷ []) (omega arith) refl) (fits (Break ∷ Hang ∷ Plain ∷ []) 1 (omega arith) (omega arith) refl));
  end_in_block = (inr (inr (omega arith, refl, refl)), below_two (Misplaced (Break ∷ Plain ∷ [])) (first_fits (Break ∷ Plain ∷ []) (omega arith) refl) (fits (Break ∷ Plain ∷ []) 1 (omega arith) (omega arith) refl));
  fork_in_order = fork_fits;
  split_of_one = (inr (λ h. let a = one_when h.0 h.4 in let b = one_when h.1 h.5 in let k = h.2 in omega arith), below_one (Mislabelled (Break ∷ Split 1 ∷ When 1 ∷ Hang ∷ [])) (⊎_elim absurd absurd));
  label_on_two = (inl (inr ((1, omega arith, refl), (6, omega arith, refl))), below_one (Mislabelled (Break ∷ Split 1 ∷ When 1 ∷ Branch 1 ∷ When 1 ∷ Branch 1 ∷ Join 1 ∷ Hang ∷ [])) (⊎_elim absurd absurd));
  join_of_none = (inr (λ h. no_branch h.0 h.2), below_two (Mislabelled (Break ∷ Hang ∷ Join 1 ∷ Hang ∷ [])) (⊎_elim absurd absurd) (⊎_elim absurd absurd));
  fork_is_labelled = fork_labelled;
}
