-- Bytes between places: what joins there, and what comes apart.
use Rattle.std.proofs.Common.{◌≡◌, ℕ, ◌+◌, ◌-◌, ◌<◌, ◌≤◌, List, [], ◌++◌, length, get_or, take, drop, sym, ap, ◌∙◌, subst, arith, length-take, length-drop}
use Rattle.std.proofs.Math.Seq.{take-add}
use Rattle.std.proofs.lemmas.List.{take_at, take-take, drop-drop, drop-take, drop_at, get_or-take, get_or-drop, length-append}
use Rattle.jcode.specs.Language.{Language, ◌⊙◌, Just, between, Spelt}

abbrev pub byte : List ℕ → ℕ → ℕ
byte bytes i = get_or bytes i 0

pub length_between : (bytes : List ℕ) (i j : ℕ) → j ≤ length bytes → length (between bytes i j) ≡ j - i
length_between bytes i j h = omega (arith, length-take (j - i) (drop i bytes), length-drop i bytes)

pub byte_between : (bytes : List ℕ) (i j k : ℕ) → k < j - i → get_or (between bytes i j) k 0 ≡ byte bytes (i + k)
byte_between bytes i j k h = get_or-take (j - i) (drop i bytes) k 0 h ∙ get_or-drop i bytes k 0

pub between_joins : (bytes : List ℕ) (i j k : ℕ) → i ≤ j → j ≤ k → between bytes i k ≡ between bytes i j ++ between bytes j k
between_joins bytes i j k h l =
    let n : k - i ≡ (j - i) + (k - j) = omega arith in
    let m : i + (j - i) ≡ j = omega arith in
    ap (λ n. take n (drop i bytes)) n
    ∙ take-add (j - i) (k - j) (drop i bytes)
    ∙ ap (λ s. between bytes i j ++ take (k - j) s) (drop-drop (j - i) i bytes ∙ ap (λ m. drop m bytes) m)

module _ (bytes : List ℕ) (i k : ℕ) (u v : List ℕ) (h : i ≤ k) (l : k ≤ length bytes) (e : between bytes i k ≡ u ++ v) where
  pub cut_fits : length u + length v ≡ k - i
  cut_fits = omega (arith, ap length e, length-append u v, length_between bytes i k l)

  pub cut_left : between bytes i (i + length u) ≡ u
  cut_left =
      let n : i + length u - i ≡ length u = omega arith in
      ap (λ n. take n (drop i bytes)) n
      ∙ sym (take-take (length u) (k - i) (drop i bytes) (omega (arith, cut_fits)))
      ∙ ap (take (length u)) e
      ∙ take_at u v (length u) (λ _. length u)

  pub cut_right : between bytes (i + length u) k ≡ v
  cut_right =
      let n : length u + (k - (i + length u)) ≡ k - i = omega (arith, cut_fits) in
      ap (take (k - (i + length u))) (sym (drop-drop (length u) i bytes))
      ∙ sym (drop-take (length u) (k - (i + length u)) (drop i bytes))
      ∙ ap (λ n. drop (length u) (take n (drop i bytes))) n
      ∙ ap (drop (length u)) e
      ∙ drop_at u v (length u) (λ _. length u)

module _ {bytes : List ℕ} where
  pub joins : {P Q : Language} {i j k : ℕ} → Spelt P bytes i j → Spelt Q bytes j k → Spelt (P ⊙ Q) bytes i k
  joins {i = i} {j = j} {k = k} p q = record {
    forward = omega (arith, p.forward, q.forward);
    within = q.within;
    belongs = (between bytes i j, between bytes j k, p.belongs, q.belongs, between_joins bytes i j k p.forward q.forward);
  }

  pub parts : {P Q : Language} {i k : ℕ} → Spelt (P ⊙ Q) bytes i k → (j : ℕ) × Spelt P bytes i j × Spelt Q bytes j k
  parts {P = P} {Q = Q} {i = i} {k = k} p =
      let b = p.belongs in
      let n = cut_fits bytes i k b.0 b.1 p.forward p.within b.4 in
      let l = p.within in
      let f = p.forward in (
        i + length b.0,
        record { forward = omega arith; within = omega arith; belongs = subst P (sym (cut_left bytes i k b.0 b.1 f l b.4)) b.2 },
        record { forward = omega arith; within = l; belongs = subst Q (sym (cut_right bytes i k b.0 b.1 f l b.4)) b.3 },
      )

  pub spelt_as : {P Q : Language} {i j : ℕ} → ((w : List ℕ) → P w → Q w) → Spelt P bytes i j → Spelt Q bytes i j
  spelt_as f p = record { forward = p.forward; within = p.within; belongs = f _ p.belongs }

  pub spelt_none : (P : Language) (i : ℕ) → i ≤ length bytes → P [] → Spelt P bytes i i
  spelt_none P i h p =
      let n : i - i ≡ 0 = omega arith in
      record { forward = omega arith; within = h; belongs = subst (λ n. P (take n (drop i bytes))) (sym n) p }

  -- the front of what stands from a place on
  pub spelt_front : (P : Language) (i n : ℕ) → i ≤ length bytes → n ≤ length (drop i bytes) → P (take n (drop i bytes)) → Spelt P bytes i (i + n)
  spelt_front P i n h l p =
      let m : i + n - i ≡ n = omega arith in
      record {
        forward = omega arith;
        within = omega (arith, length-drop i bytes);
        belongs = subst (λ n. P (take n (drop i bytes))) (sym m) p;
      }

  -- these bytes end there
  pub just_next : {w : List ℕ} {i j : ℕ} → Spelt (Just w) bytes i j → i + length w ≡ j
  just_next {i = i} {j = j} s = let f = s.forward in omega (arith, length_between bytes i j s.within, ap length s.belongs)
