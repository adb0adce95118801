-- The longest front of a class at a place, and single bytes.
use Rattle.std.proofs.Common.{◌≡◌, ℕ, zero, suc, ◌+◌, ◌-◌, ◌<◌, ◌≤◌, Bool, true, false, eqb, List, [], ◌∷◌, length, take, drop, sym, refl, ap, ◌∙◌, ⊎_elim, arith, length-drop}
use Rattle.std.specs.List.{list_all, prefix_len}
use Rattle.std.proofs.lemmas.Bool.{cases_lt, ne_eqb}
use Rattle.std.proofs.lemmas.List.{get_or-drop, get_or-take, get_or_past}
use Rattle.std.proofs.lemmas.List.Folds.{length-prefix_len}
use Rattle.std.proofs.lemmas.List.Sums.{prefix_len-le-length, prefix_len_is, prefix_len_passes, prefix_len_stops, AllPass-from_list_all, list_all-from_AllPass}
use Rattle.jcode.specs.Bytes.{slice, stands, passes, run_at}
use Rattle.jcode.specs.Language.{between, Spelt}
use Rattle.jcode.proofs.Places.{byte, length_between, spelt_front}
use Rattle.jcode.proofs.Agreement.{Stops}

-- a byte past the end is in no class
pub passes_byte : (p : ℕ → Bool) → p 0 ≡ false → (bytes : List ℕ) (i : ℕ) → passes p bytes i ≡ p (byte bytes i)
passes_byte p z [] i = sym z
passes_byte p z (b ∷ bytes) zero = refl
passes_byte p z (b ∷ bytes) (suc i) = passes_byte p z bytes i

pub stands_byte : (b : ℕ) → 0 < b → (bytes : List ℕ) (i : ℕ) → stands b bytes i ≡ eqb (byte bytes i) b
stands_byte b h [] i = sym (ne_eqb 0 b (λ e. omega arith))
stands_byte b h (x ∷ bytes) zero = refl
stands_byte b h (x ∷ bytes) (suc i) = stands_byte b h bytes i

module _ (p : ℕ → Bool) (bytes : List ℕ) (i : ℕ) where
  abbrev pub run : ℕ
  run = (run_at p bytes i).length

  run_is : run ≡ prefix_len p (drop i bytes)
  run_is = length-prefix_len p (drop i bytes)

  run_fits : run ≤ length (drop i bytes)
  run_fits = omega (arith, run_is, prefix_len-le-length p (drop i bytes))

  pub front_passes : list_all p (slice bytes (run_at p bytes i)) ≡ true
  front_passes =
      let n = prefix_len p (drop i bytes) in
      list_all-from_AllPass p (take run (drop i bytes)) (λ k d h.
      let l : k < run = omega (arith, Rattle.std.proofs.lemmas.List.length-take run (drop i bytes)) in
      ap p (get_or-take run (drop i bytes) k d l) ∙ prefix_len_passes p (drop i bytes) k d (omega (arith, run_is)))

  -- the front as a piece, which ends there
  pub front_spelt : i ≤ length bytes → Spelt (λ w. w ≡ slice bytes (run_at p bytes i)) bytes i (i + run)
  front_spelt l = spelt_front (λ w. w ≡ slice bytes (run_at p bytes i)) i run l run_fits refl

  pub front_stops : p 0 ≡ false → Stops p bytes (i + run)
  front_stops z =
      let n = prefix_len p (drop i bytes) in
      ap (λ n. p (byte bytes (i + n))) run_is
      ∙ ⊎_elim
      (λ h. ap p (sym (get_or-drop i bytes n 0)) ∙ prefix_len_stops p (drop i bytes) 0 h)
      (λ h. ap p (get_or_past bytes (i + n) 0 (omega (arith, length-drop i bytes))) ∙ z)
      (cases_lt n (length (drop i bytes)))

  -- a piece of the class that ends there is the front
  module _ (j : ℕ) (s : Spelt (λ w. list_all p w ≡ true) bytes i j) (stop : Stops p bytes j) where
    pub front_length : run ≡ j - i
    front_length =
        let f = s.forward in
        let l = s.within in
        let to : i + (j - i) ≡ j = omega arith in
        run_is
        ∙ prefix_len_is p (drop i bytes) (j - i) 0 (omega (arith, length-drop i bytes))
        (λ k h. ap p (sym (get_or-take (j - i) (drop i bytes) k 0 h)) ∙ AllPass-from_list_all p (between bytes i j) s.belongs k 0 (omega (arith, length_between bytes i j l)))
        (λ h. ap p (get_or-drop i bytes (j - i) 0 ∙ ap (byte bytes) to) ∙ stop)

    pub front_next : i + run ≡ j
    front_next = let f = s.forward in omega (arith, front_length)

    pub front_is : slice bytes (run_at p bytes i) ≡ between bytes i j
    front_is = ap (λ n. take n (drop i bytes)) front_length
