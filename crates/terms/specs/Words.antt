-- Words, as lists of bytes, and tables of them.
use Rattle.std.specs.Prelude.{ℕ, Bool, true, false, ◌&&◌, List, [], ◌∷◌, Option, ◌==◌, find}
use Rattle.std.specs.Option.{option_map}
use Rattle.terms.specs.declared.word.Entry.{Entry}

abbrev pub same_word : List ℕ → List ℕ → Bool
same_word [] [] = true
same_word [] (y ∷ ys) = false
same_word (x ∷ xs) [] = false
same_word (x ∷ xs) (y ∷ ys) = x == y && same_word xs ys

-- the first thing of a list whose word this is
abbrev pub first_with : {X : Type 0} → (X → List ℕ) → List ℕ → List X → Option X
first_with word w xs = find (λ x. same_word w (word x)) xs

-- what the first entry of a table with this word stands for
abbrev pub found : {T : Type 0} → List ℕ → List (Entry T) → Option T
found w es = option_map (λ e. e.1) (find (λ e. same_word w e.0.now) es)
