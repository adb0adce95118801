-- What is laid out as a store, and cells in which to look it up.
use Rattle.std.proofs.Common.{◌≡◌, ℕ, suc, ◌+◌, ◌*◌, ◌<◌, ◌≤◌, List, [], ◌∷◌, ◌++◌, map, length, get_or, set, drop, refl, sym, ap, ◌∙◌, arith, length-set}
use Rattle.std.proofs.lemmas.List.{map-set, get_or-drop, drop-drop, drop_at, get_or-map}
use Rattle.std.proofs.ByRecursion.{All-set}
use Rattle.std.specs.List.{AllByRecursion as All, range_with_len}
use Rattle.jcode.specs.declared.mention.Aspect.{Aspect}
use Rattle.jcode.specs.declared.mention.Aspect.TheVariants.{Value, Shadow}
use Rattle.jcode.specs.declared.mention.Mention.{Mention}
use Rattle.jcode.specs.declared.mention.Stage.{Stage}
use Rattle.jcode.specs.declared.mention.Stage.TheVariants.{Current, New}
use Rattle.sheets.specs.Runs.{stored, entry_of, staged, read}
use Rattle.sheets.specs.PathSheets.{cells_from}

pub length-stored : {X : Type 0} (vs : List ℕ) (xs s : List X) → length (stored vs xs s) ≡ length s
length-stored [] xs s = refl
length-stored (v ∷ vs) [] s = refl
length-stored (v ∷ vs) (x ∷ []) s = refl
length-stored (v ∷ vs) (x ∷ d ∷ xs) s = length-stored vs xs (set (set s (2 * v) x) (2 * v + 1) d) ∙ length-set (set s (2 * v) x) (2 * v + 1) d ∙ length-set s (2 * v) x

pub map-stored : {X Y : Type 0} (f : X → Y) (vs : List ℕ) (xs s : List X) → map f (stored vs xs s) ≡ stored vs (map f xs) (map f s)
map-stored f [] xs s = refl
map-stored f (v ∷ vs) [] s = refl
map-stored f (v ∷ vs) (x ∷ []) s = refl
map-stored f (v ∷ vs) (x ∷ d ∷ xs) s =
    map-stored f vs xs (set (set s (2 * v) x) (2 * v + 1) d)
    ∙ ap (stored vs (map f xs)) (map-set f (set s (2 * v) x) (2 * v + 1) d ∙ ap (λ l. set l (2 * v + 1) (f d)) (map-set f s (2 * v) x))

pub length-cells_from : {X : Type 0} (n : ℕ) (xs : List X) → length (cells_from n xs) ≡ 2 * length xs
length-cells_from n [] = refl
length-cells_from n (x ∷ xs) = omega (arith, length-cells_from (n + 2) xs)

-- cells that are numbered on
pub range_of_cells : {X : Type 0} (n : ℕ) (xs : List X) → cells_from n xs ≡ range_with_len n (2 * length xs)
range_of_cells n [] = refl
range_of_cells n (x ∷ xs) =
    let twice : 2 * suc (length xs) ≡ suc (suc (2 * length xs)) = omega arith in
    let on : n + 2 ≡ n + 1 + 1 = omega arith in
    ap (λ cs. n ∷ (n + 1) ∷ cs) (range_of_cells (n + 2) xs ∙ ap (λ m. range_with_len m (2 * length xs)) on) ∙ ap (range_with_len n) (sym twice)

pub entry_below : (a : Aspect) (v k : ℕ) → v < k → entry_of a v < 2 * k
entry_below Value v k h = omega arith
entry_below Shadow v k h = omega arith

-- what holds of all that is put in and of all that was there holds of all
pub All-stored : {X : Type 0} (P : X → Type 0) (vs : List ℕ) (xs s : List X) → All P xs → All P s → All P (stored vs xs s)
All-stored P [] xs s h k = k
All-stored P (v ∷ vs) [] s h k = k
All-stored P (v ∷ vs) (x ∷ []) s h k = k
All-stored P (v ∷ vs) (x ∷ d ∷ xs) s h k =
    All-stored P vs xs (set (set s (2 * v) x) (2 * v + 1) d) h.1.1 (All-set P (set s (2 * v) x) (2 * v + 1) d h.1.0 (All-set P s (2 * v) x h.0 k))

pub cells_below : {X : Type 0} (m n : ℕ) (xs : List X) → n + 2 * length xs ≤ m → All (λ c. c < m) (cells_from n xs)
cells_below m n [] h = tt
cells_below m n (x ∷ xs) h = (omega arith, (omega arith, cells_below m (n + 2) xs (omega arith)))

-- what cells hold, each by its number in a list
abbrev pub looked : {X : Type 0} → List X → X → List ℕ → List X
looked held absent cs = map (λ c. get_or held c absent) cs

module _ {X : Type 0} (held : List X) (absent : X) where
  pub at_drop : (n k : ℕ) (xs : List X) → drop n held ≡ xs → get_or held (n + k) absent ≡ get_or xs k absent
  at_drop n k xs e = sym (get_or-drop n held k absent) ∙ ap (λ l. get_or l k absent) e

  -- cells that are numbered on hold what comes next
  pub looked_next : {Y : Type 0} (n : ℕ) (vs : List Y) (now later : List X) → drop n held ≡ now ++ later → length now ≡ 2 * length vs → looked held absent (cells_from n vs) ≡ now
  looked_next n [] [] later e l = refl
  looked_next n [] (x ∷ now) later e l = absurd (omega arith)
  looked_next n (v ∷ vs) [] later e l = absurd (omega arith)
  looked_next n (v ∷ vs) (x ∷ []) later e l = absurd (omega arith)
  looked_next n (v ∷ vs) (x ∷ d ∷ now) later e l =
      let first : get_or held n absent ≡ x = ap (λ k. get_or held k absent) (let z : n ≡ n + 0 = omega arith in z) ∙ at_drop n 0 (x ∷ d ∷ (now ++ later)) e in
      let rest = looked_next (n + 2) vs now later (sym (drop-drop 2 n held) ∙ ap (drop 2) e) (omega arith) in
      λ i. first i ∷ at_drop n 1 (x ∷ d ∷ (now ++ later)) e i ∷ rest i

  pub left_over : {Y : Type 0} (n : ℕ) (vs : List Y) (now later : List X) → drop n held ≡ now ++ later → length now ≡ 2 * length vs → drop (n + 2 * length vs) held ≡ later
  left_over n vs now later e l = sym (drop-drop (2 * length vs) n held) ∙ ap (drop (2 * length vs)) e ∙ drop_at now later (2 * length vs) l

  -- a mention reads what the cells hold, where both stages have an entry for it
  pub read_looked : (k : ℕ) (before after : List ℕ) → length before ≡ 2 * k → length after ≡ 2 * k → (m : Mention) → m.variable < k
      → get_or held (read 0 before after m) absent ≡ read absent (looked held absent before) (looked held absent after) m
  read_looked k before after p q m h = entries m.aspect m.stage m.variable h
    where
      at : (cs : List ℕ) → length cs ≡ 2 * k → (a : Aspect) (v : ℕ) → v < k → get_or held (get_or cs (entry_of a v) 0) absent ≡ get_or (looked held absent cs) (entry_of a v) absent
      at cs l a v h = let inside = entry_below a v k h in sym (get_or-map (λ c. get_or held c absent) cs (entry_of a v) 0 absent (omega arith))

      entries : (a : Aspect) (t : Stage) (v : ℕ) → v < k → get_or held (get_or (staged t before after) (entry_of a v) 0) absent ≡ get_or (staged t (looked held absent before) (looked held absent after)) (entry_of a v) absent
      entries a Current v h = at before p a v h
      entries a New v h = at after q a v h
