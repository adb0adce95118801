-- Lists of places.
use Rattle.std.proofs.Common.{◌≡◌, ℕ, zero, suc, ◌+◌, ◌*◌, ◌<◌, ◌≤◌, true, ltb, List, [], ◌∷◌, map, length, take, get_or, ext_get_or, sym, refl, ap, ◌∙◌, arith, nat_lt}
use Rattle.std.proofs.lemmas.Bool.{and_from, lt-ltb}
use Rattle.std.proofs.lemmas.Grind.{same_number_lists}
use Rattle.std.proofs.lemmas.List.FromFn.{length-range_with_len, get_or-range_with_len, length-map-range_with_len, get_or-map-range_with_len}
use Rattle.std.specs.List.{list_all, range_with_len}
use Rattle.sheets.specs.PathSheets.{cells_from}

zero_plus : (k : ℕ) → 0 + k ≡ k
zero_plus k = omega arith

-- a list whose elements are their own places
pub places_are : (xs : List ℕ) (n : ℕ) → length xs ≡ n → ((k : ℕ) → k < n → get_or xs k 0 ≡ k) → xs ≡ range_with_len 0 n
places_are xs n long each =
    same_number_lists xs (range_with_len 0 n) (long ∙ sym (length-range_with_len 0 n))
    (λ k h. let less : k < n = omega (arith, h, long) in each k less ∙ sym (get_or-range_with_len 0 n k 0 less ∙ zero_plus k))

pub take_places : (a n m : ℕ) → n ≤ m → take n (range_with_len a m) ≡ range_with_len a n
take_places a zero m h = refl
take_places a (suc n) zero h = absurd (omega arith)
take_places a (suc n) (suc m) h = ap (λ xs. a ∷ xs) (take_places (a + 1) n m (omega arith))

-- two cells for each element of a list are the places so far
pub cells_are : {X : Type 0} (a : ℕ) (xs : List X) → cells_from a xs ≡ range_with_len a (2 * length xs)
cells_are a [] = refl
cells_are a (x ∷ xs) =
    let next : (a + 1) + 1 ≡ a + 2 = omega arith in
    let long : suc (suc (2 * length xs)) ≡ 2 * suc (length xs) = omega arith in
    ap (λ ys. a ∷ (a + 1) ∷ ys) (cells_are (a + 2) xs ∙ ap (λ b. range_with_len b (2 * length xs)) (sym next)) ∙ ap (range_with_len a) long

-- a list looked up at all its places
pub looked_up : {X : Type 0} (xs : List X) (d : X) → map (λ i. get_or xs i d) (range_with_len 0 (length xs)) ≡ xs
looked_up xs d =
    let n = length xs in
    ext_get_or d (map (λ i. get_or xs i d) (range_with_len 0 n)) xs (length-map-range_with_len (λ i. get_or xs i d) 0 n)
    (λ k h. let less : k < n = omega (arith, h, length-map-range_with_len (λ i. get_or xs i d) 0 n) in get_or-map-range_with_len (λ i. get_or xs i d) 0 n k k d less (zero_plus k))

pub all_below : (a n m : ℕ) → a + n ≤ m → list_all (λ v. nat_lt (2 * v + 1) (2 * m)) (range_with_len a n) ≡ true
all_below a zero m h = refl
all_below a (suc n) m h = and_from (ltb (2 * a + 1) (2 * m)) _ (lt-ltb _ _ (omega arith)) (all_below (a + 1) n m (omega arith))
