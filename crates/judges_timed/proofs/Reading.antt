-- Tables are read record by record: what is read so far, and what the rest of the numbers tells, is what they tell together.
use Rattle.std.proofs.Common.{◌≡◌, ℕ, ◌+◌, ◌<◌, List, [], ◌∷◌, ◌++◌, length, take, drop, get_or, set, ℤ, pos, ap, ◌∙◌, append_assoc, arith}
use Rattle.std.proofs.lemmas.List.{drop_more, take_more_set}
use Rattle.judges_timed.specs.Telling.{row_told, rows_told, cell_told, cells_told}

module _ {X : Type 0} (xs : List X) (i : ℕ) where
  pub one_more : (x : X) (more all : List X) → i < length xs → take i xs ++ (x ∷ more) ≡ all → take (i + 1) (set xs i x) ++ more ≡ all
  one_more x more all lt e = ap (λ l. l ++ more) (take_more_set xs i x lt) ∙ append_assoc (take i xs) (x ∷ []) more ∙ e

module _ (numbers : List ℤ) (k : ℕ) where
  pub next_row : k + 1 < length numbers → rows_told (drop k numbers) ≡ row_told (get_or numbers k (pos 0)) (get_or numbers (k + 1) (pos 0)) ∷ rows_told (drop (k + 2) numbers)
  next_row lt =
      let two : k + 1 + 1 ≡ k + 2 = omega arith in
      ap rows_told (drop_more numbers k (pos 0) (omega arith) ∙ ap (λ l. get_or numbers k (pos 0) ∷ l) (drop_more numbers (k + 1) (pos 0) lt)) ∙ ap (λ j. row_told (get_or numbers k (pos 0)) (get_or numbers (k + 1) (pos 0)) ∷ rows_told (drop j numbers)) two

  pub next_cell : k + 2 < length numbers → cells_told (drop k numbers) ≡ cell_told (get_or numbers k (pos 0)) (get_or numbers (k + 1) (pos 0)) (get_or numbers (k + 2) (pos 0)) ∷ cells_told (drop (k + 3) numbers)
  next_cell lt =
      let two : k + 1 + 1 ≡ k + 2 = omega arith in
      let three : k + 2 + 1 ≡ k + 3 = omega arith in
      ap cells_told
      (drop_more numbers k (pos 0) (omega arith)
      ∙ ap (λ l. get_or numbers k (pos 0) ∷ l) (drop_more numbers (k + 1) (pos 0) (omega arith) ∙ ap (λ j. get_or numbers (k + 1) (pos 0) ∷ drop j numbers) two)
      ∙ ap (λ l. get_or numbers k (pos 0) ∷ get_or numbers (k + 1) (pos 0) ∷ l) (drop_more numbers (k + 2) (pos 0) lt ∙ ap (λ j. get_or numbers (k + 2) (pos 0) ∷ drop j numbers) three))
