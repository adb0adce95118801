-- Counting the ways, as far as the limit.
use Rattle.std.proofs.Common.{◌≡◌, ℕ, ◌+◌, ◌-◌, ◌*◌, ◌^◌, ◌<◌, ◌≤◌, min, true, false, List, [], ◌∷◌, length, get_or, drop, sym, ap, ◌∙◌, inl, inr, arith}
use Rattle.std.proofs.Math.Nat.{mul-le-mul_left, mul-le-mul_right, mul-le-mul, mul_assoc, mul-one}
use Rattle.std.specs.Prelude.{nat_le}
use Rattle.std.proofs.lemmas.List.{drop_more, drop_all}
use Rattle.std.proofs.lemmas.Bool.{le-leb, lt-leb, cases_lt}
use Rattle.reckoning.specs.declared.mark.Mark.{Mark}
use Rattle.judges.specs.Tries.{gap, ways}

pub ways_some : (rs : List Mark) → 0 < ways rs
ways_some [] = omega arith
ways_some (r ∷ rs) = let one : 1 ≤ gap r.low r.high + 1 = omega arith in omega (arith, mul-le-mul one (ways_some rs))

-- a product that is cut at a great number is exact where it is small
exact : (t w m x : ℕ) → 0 < t → m ≡ min w (2 ^ 64 - 1) → x ≡ min (t * m) (2 ^ 64 - 1) → x ≤ 65536 → x ≡ t * w
exact t w m x some cut is small =
    elim (cases_lt w (2 ^ 64)) [
      | inl fits ↦ let e : m ≡ w = omega arith in let p : t * m ≡ t * w = ap (λ k. t * k) e in omega arith
      | inr large ↦ let e : m ≡ 2 ^ 64 - 1 = omega arith in let p : 1 * m ≤ t * m = mul-le-mul_right m some in omega arith
    ]

-- and else it is great
great : (t w m x : ℕ) → m ≡ min w (2 ^ 64 - 1) → x ≡ min (t * m) (2 ^ 64 - 1) → 65536 < x → 65536 < t * w
great t w m x cut is more = let p : t * m ≤ t * w = mul-le-mul_left t (omega arith) in omega arith

module _ (rs : List Mark) (i t m x : ℕ) (d : Mark) (lt : i < length rs) (some : 0 < t) (cut : m ≡ min (gap (get_or rs i d).low (get_or rs i d).high + 1) (2 ^ 64 - 1)) (is : x ≡ min (t * m) (2 ^ 64 - 1)) (so_far : t * ways (drop i rs) ≡ ways rs) where
  all : ways rs ≡ t * (gap (get_or rs i d).low (get_or rs i d).high + 1) * ways (drop (i + 1) rs)
  all = sym so_far ∙ ap (λ l. t * ways l) (drop_more rs i d lt) ∙ sym (mul_assoc t (gap (get_or rs i d).low (get_or rs i d).high + 1) (ways (drop (i + 1) rs)))

  pub goes_on : x ≤ 65536 → (0 < x) × (x * ways (drop (i + 1) rs) ≡ ways rs)
  goes_on small =
      let e = exact t (gap (get_or rs i d).low (get_or rs i d).high + 1) m x some cut is small in
      let more : t * 1 ≤ t * (gap (get_or rs i d).low (get_or rs i d).high + 1) = mul-le-mul_left t (omega arith) in
      (omega (arith, mul-one t), ap (λ k. k * ways (drop (i + 1) rs)) e ∙ sym all)

  pub too_many : 65536 < x → false ≡ nat_le (ways rs) 65536
  too_many more =
      let over = great t (gap (get_or rs i d).low (get_or rs i d).high + 1) m x cut is more in
      let p : t * (gap (get_or rs i d).low (get_or rs i d).high + 1) * 1 ≤ t * (gap (get_or rs i d).low (get_or rs i d).high + 1) * ways (drop (i + 1) rs) = mul-le-mul_left (t * (gap (get_or rs i d).low (get_or rs i d).high + 1)) (ways_some (drop (i + 1) rs)) in
      sym (lt-leb (ways rs) 65536 (omega (arith, all, mul-one (t * (gap (get_or rs i d).low (get_or rs i d).high + 1)))))

pub counted : (rs : List Mark) (i t : ℕ) → length rs ≤ i → t ≤ 65536 → t * ways (drop i rs) ≡ ways rs → true ≡ nat_le (ways rs) 65536
counted rs i t le few is =
    let all : t ≡ ways rs = sym (mul-one t) ∙ ap (λ l. t * ways l) (sym (drop_all i rs le)) ∙ is in
    sym (le-leb (ways rs) 65536 (omega arith))
