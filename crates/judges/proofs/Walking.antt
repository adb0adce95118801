-- The trier's way from try to try: each step ends one, and goes on from the lowest cell that turns.
use Rattle.std.proofs.Common.{◌≡◌, ℕ, zero, suc, ◌+◌, ◌<◌, ◌≤◌, true, false, cond, List, [], ◌∷◌, ◌++◌, length, take, drop, get_or, set, ℤ, pos, ◌+ℤ◌, ◌≤ℤ◌, Some, None, ◌≢◌, refl, sym, ap, ap₂, ◌∙◌, add-one, append_assoc, arith}
use Rattle.std.specs.Prelude.{int_lt}
use Rattle.std.specs.List.{flat_map}
use Rattle.std.proofs.lemmas.Int.{ints}
use Rattle.std.proofs.lemmas.List.{drop_more, drop_all, take_all, take_more_set, take-set-le, length-take-le, get_or-set_same, get_or-set_other}
use Rattle.std.proofs.lemmas.Bool.{cond-true, cond-false, cond_both, and_parts}
use Rattle.reckoning.specs.Comparing.{is_most}
use Rattle.terms.specs.Terms.{value}
use Rattle.reckoning.specs.declared.mark.Mark.{Mark}
use Rattle.sheets.specs.declared.cell.Cell.{Cell}
use Rattle.sheets.specs.Sheets.{Condition, part, setting_term}
use Rattle.sheets.specs.Valuations.{cell_in, allows}
use Rattle.judges.specs.Ranging.{no_cell}
use Rattle.judges.specs.Walks.{no_range, rest, later, left}
use Rattle.judges.specs.Tries.{occurs, gap, ascending, above, top, Try, next_from, tries_from}

less_than : (n m : ℤ) → int_lt n m ≡ true → (n +ℤ pos 1) ≤ℤ m
less_than n m e = grind (arith, ints)

-- all that lie above a number of the range
rest_is : (r : Mark) (n : ℤ) → n ≤ℤ r.high → rest r n ≡ above n r.high
rest_is r n le = cond_both (int_lt n r.high) (above n r.high) [] (λ ms. ms ≡ above n r.high) (λ e. refl) (λ e. let none : gap n r.high ≡ 0 = grind (arith, ints) in ap (ascending (n +ℤ pos 1)) (sym none))

rest_none : (r : Mark) (n : ℤ) → r.high ≤ℤ n → rest r n ≡ []
rest_none r n le = let done : int_lt n r.high ≡ false = grind (arith, ints) in cond-false _ _ _ done

rest_next : (r : Mark) (n : ℤ) → int_lt n r.high ≡ true → rest r n ≡ (n +ℤ pos 1) ∷ rest r (n +ℤ pos 1)
rest_next r n e =
    let one : gap n r.high ≡ suc (gap (n +ℤ pos 1) r.high) = grind (arith, ints) in
    cond-true _ _ _ e ∙ ap (ascending (n +ℤ pos 1)) one ∙ ap (λ ms. (n +ℤ pos 1) ∷ ms) (sym (rest_is r (n +ℤ pos 1) (less_than n r.high e)))

module _ (s : Condition) (rs : List Mark) where
  abbrev branch : ℕ → List ℤ → ℤ → List Try
  branch i v n = tries_from s (drop (i + 1) s.cells) (take i v ++ n ∷ [])

  later_more : (i : ℕ) (v : List ℤ) → later s rs (i + 1) v ≡ flat_map (branch i v) (rest (get_or rs i no_range) (get_or v i (pos 0))) ++ later s rs i v
  later_more i v = ap (λ k. later s rs k v) (add-one i)

  later_set : (i j : ℕ) (v : List ℤ) (n : ℤ) → i ≤ j → later s rs i (set v j n) ≡ later s rs i v
  later_set zero j v n le = refl
  later_set (suc i) j v n le =
      let other : i ≢ j = omega arith in
      ap₂ (λ l m. flat_map (λ n. tries_from s (drop (i + 1) s.cells) (l ++ n ∷ [])) (rest (get_or rs i no_range) m) ++ later s rs i (set v j n)) (take-set-le i v j n (omega arith)) (get_or-set_other v j i n (pos 0) other)
      ∙ ap (λ ts. flat_map (branch i v) (rest (get_or rs i no_range) (get_or v i (pos 0))) ++ ts) (later_set i j v n (omega arith))

  -- the tries that are left s rs once a cell has its number
  left_set : (i : ℕ) (v : List ℤ) (n : ℤ) → i < length v → left s rs (i + 1) (set v i n) ≡ branch i v n ++ (flat_map (branch i v) (rest (get_or rs i no_range) n) ++ later s rs i v)
  left_set i v n lt =
      ap (λ l. tries_from s (drop (i + 1) s.cells) l ++ later s rs (i + 1) (set v i n)) (take_more_set v i n lt)
      ∙ ap (λ ts. branch i v n ++ ts)
      (later_more i (set v i n)
      ∙ ap₂ (λ l m. flat_map (λ n. tries_from s (drop (i + 1) s.cells) (l ++ n ∷ [])) (rest (get_or rs i no_range) m) ++ later s rs i (set v i n)) (take-set-le i v i n (omega arith)) (get_or-set_same v i n (pos 0) lt)
      ∙ ap (λ ts. flat_map (branch i v) (rest (get_or rs i no_range) n) ++ ts) (later_set i i v n (omega arith)))

  module _ (i : ℕ) (v : List ℤ) (lt : i < length s.cells) (long : length v ≡ length s.cells) where
    abbrev c : Cell
    c = get_or s.cells i no_cell

    opened : left s rs i v ≡ next_from (tries_from s (drop (i + 1) s.cells)) s c.set_by c (take i v) ++ later s rs i v
    opened = ap (λ cs. tries_from s cs (take i v) ++ later s rs i v) (drop_more s.cells i no_cell lt)

    -- a cell that no part sets begins at its low
    pub begins : c.set_by ≡ None → get_or rs i no_range ≡ record { low = c.low; high = top (occurs s.parts i) None c } → c.low ≤ℤ top (occurs s.parts i) None c → left s rs (i + 1) (set v i c.low) ≡ left s rs i v
    begins is range up =
        let here = length-take-le i v (omega arith) in
        left_set i v c.low (omega arith)
        ∙ ap (λ ms. branch i v c.low ++ (flat_map (branch i v) ms ++ later s rs i v)) (ap (λ r. rest r c.low) range ∙ rest_is (record { low = c.low; high = top (occurs s.parts i) None c }) c.low up)
        ∙ sym (append_assoc (branch i v c.low) (flat_map (branch i v) (above c.low (top (occurs s.parts i) None c))) (later s rs i v))
        ∙ ap (λ k. flat_map (branch i v) (c.low ∷ above c.low (top (occurs s.parts k) None c)) ++ later s rs i v) (sym here)
        ∙ sym (opened ∙ ap (λ o. next_from (tries_from s (drop (i + 1) s.cells)) s o c (take i v) ++ later s rs i v) is)

    -- a cell that a part sets follows it, and ends the try where it leaves its bounds
    pub follows : (p : ℕ) → c.set_by ≡ Some p → get_or rs i no_range ≡ record { low = c.low; high = c.low } → (n : ℤ) → n ≡ value (cell_in (take i v)) (setting_term (part s p)) → allows c n ≡ true → left s rs (i + 1) (set v i n) ≡ left s rs i v
    follows p is range n said inside =
        left_set i v n (omega arith)
        ∙ ap (λ ms. branch i v n ++ (flat_map (branch i v) ms ++ later s rs i v)) (ap (λ r. rest r n) range ∙ rest_none (record { low = c.low; high = c.low }) n (is_most c.low n (and_parts _ _ inside).0))
        ∙ sym (opened ∙ ap (λ o. next_from (tries_from s (drop (i + 1) s.cells)) s o c (take i v) ++ later s rs i v) is
        ∙ ap (λ m. cond (allows c m) (branch i v m) (None ∷ []) ++ later s rs i v) (sym said)
        ∙ ap (λ b. cond b (branch i v n) (None ∷ []) ++ later s rs i v) inside)

    pub ends : (p : ℕ) → c.set_by ≡ Some p → (n : ℤ) → n ≡ value (cell_in (take i v)) (setting_term (part s p)) → allows c n ≡ false → left s rs i v ≡ None ∷ later s rs i v
    ends p is n said out =
        opened ∙ ap (λ o. next_from (tries_from s (drop (i + 1) s.cells)) s o c (take i v) ++ later s rs i v) is
        ∙ ap (λ m. cond (allows c m) (branch i v m) (None ∷ []) ++ later s rs i v) (sym said)
        ∙ ap (λ b. cond b (branch i v n) (None ∷ []) ++ later s rs i v) out

  pub completes : (v : List ℤ) → length v ≡ length s.cells → left s rs (length s.cells) v ≡ Some v ∷ later s rs (length s.cells) v
  completes v long =
      ap₂ (λ cs l. tries_from s cs l ++ later s rs (length s.cells) v) (drop_all (length s.cells) s.cells (omega arith)) (take_all (length s.cells) v (omega arith))

  -- a cell at the end of its range is passed by
  pub passed_by : (i : ℕ) (v : List ℤ) → int_lt (get_or v i (pos 0)) (get_or rs i no_range).high ≡ false → later s rs (i + 1) v ≡ later s rs i v
  passed_by i v done = later_more i v ∙ ap (λ b. flat_map (branch i v) (cond b (above (get_or v i (pos 0)) (get_or rs i no_range).high) []) ++ later s rs i v) done

  -- any other turns to its next number
  pub turns : (i : ℕ) (v : List ℤ) → i < length v → int_lt (get_or v i (pos 0)) (get_or rs i no_range).high ≡ true → left s rs (i + 1) (set v i (get_or v i (pos 0) +ℤ pos 1)) ≡ later s rs (i + 1) v
  turns i v lt more =
      let n = get_or v i (pos 0) in
      left_set i v (n +ℤ pos 1) lt
      ∙ sym (append_assoc (branch i v (n +ℤ pos 1)) (flat_map (branch i v) (rest (get_or rs i no_range) (n +ℤ pos 1))) (later s rs i v))
      ∙ sym (later_more i v ∙ ap (λ ms. flat_map (branch i v) ms ++ later s rs i v) (rest_next (get_or rs i no_range) n more))
