-- A valuation as points: the number of a part is exact, and the parts decide whether the sheet is falsified.
use Rattle.std.proofs.Common.{◌≡◌, ℕ, zero, suc, ◌+◌, ◌-◌, ◌<◌, ◌≤◌, Bool, true, false, not, ◌&&◌, leb, List, [], ◌∷◌, ◌++◌, map, length, get_or, take, drop, set, ℤ, pos, Some, Option, Ok, refl, sym, ap, ◌∙◌, subst, arith}
use Rattle.std.specs.List.{list_all, slice_get, zip}
use Rattle.std.specs.Bool.{Decides}
use Rattle.std.specs.Option.{option_eq}
use Rattle.std.specs.Ordering.{int_eq}
use Rattle.std.proofs.lemmas.Bool.Decides.{Decides-int_eq}
use Rattle.std.proofs.lemmas.Bool.{and_parts, and_from, and_right, cond-true, leb-true, leb-false}
use Rattle.std.proofs.lemmas.Int.{ints}
use Rattle.std.proofs.lemmas.List.{length-map, length-take, length-drop, get_or-map, get_or_past, take_more_set, map_more}
use Rattle.std.proofs.lemmas.List.Sums.{AllPass-from_list_all}
use Rattle.std.proofs.lemmas.Option.{slice_get-get_or}
use Rattle.terms.specs.declared.kind.Kind.TheVariants.{Truth}
use Rattle.terms.specs.declared.row.Row.{Row}
use Rattle.terms.specs.Numbers.{in_span, same_number}
use Rattle.terms.specs.Terms.{value}
use Rattle.reckoning.specs.declared.mark.Mark.{Mark}
use Rattle.reckoning.specs.Points.{is_point, point, point_or}
use Rattle.reckoning.specs.Ranges.{between}
use Rattle.reckoning.specs.Exactness.{Exact}
use Rattle.sheets.specs.declared.cell.Cell.{Cell}
use Rattle.sheets.specs.declared.part.Part.{Part}
use Rattle.sheets.specs.Sheets.{CellTerm, Condition, Keeps, cell_kind, is_bounded, part_in, condition_of, part}
use Rattle.sheets.specs.Valuations.{allows, cell_in, is_within, GoalAloneFalse}
use Rattle.sheets.specs.declared.sheet.Sheet.{Sheet}
use Rattle.sheets.specs.Places.{cells_in, says, marks_for}
use Rattle.sheets.specs.Replays.{first_numbers, Replayed, numbers_in}
use Rattle.sheets.proofs.Setters.{clash}
use Rattle.sheets.proofs.Spanning.{mentions_map, kindly, part_truth, part_mentions, part_stays, in_first, in_cell_span}

-- one more mark is placed
pub placed : (marks : List Mark) (numbers : List ℤ) (i : ℕ) → i < length marks → i < length numbers → take i marks ≡ map (λ n. between n n) (take i numbers) → take (i + 1) (set marks i (between (get_or numbers i (pos 0)) (get_or numbers i (pos 0)))) ≡ map (λ n. between n n) (take (i + 1) numbers)
placed marks numbers i l m e = take_more_set marks i _ l ∙ ap (λ ms. ms ++ between (get_or numbers i (pos 0)) (get_or numbers i (pos 0)) ∷ []) e ∙ sym (map_more (λ n. between n n) numbers i (pos 0) m)

-- with a number for each cell, each is as its cell allows
pub all_within : (cs : List Cell) (v : List ℤ) → length cs ≤ length v → list_all (λ p. allows p.0 p.1) (zip cs v) ≡ is_within cs (take (length cs) v)
all_within [] v l = refl
all_within (c ∷ cs) [] l = absurd (omega arith)
all_within (c ∷ cs) (n ∷ ns) l = ap (λ b. allows c n && b) (all_within cs ns (omega arith))

pub too_short : (cs : List Cell) (v : List ℤ) → length v < length cs → false ≡ is_within cs (take (length cs) v)
too_short [] v l = absurd (omega arith)
too_short (c ∷ cs) [] l = refl
too_short (c ∷ cs) (n ∷ ns) l = sym (and_right (allows c n) (is_within cs (take (length cs) ns)) (sym (too_short cs ns (omega arith))))

module _ (v : List ℤ) where
  abbrev its_value : CellTerm → ℤ
  its_value e = value (cell_in v) e

  -- what falsifies a sheet, by the places of its parts
  pub others_true : (es : List CellTerm) → GoalAloneFalse v es → (k : ℕ) → k + 1 < length es → its_value (get_or es k []) ≡ pos 1
  others_true [] h k l = absurd h
  others_true (e ∷ []) h k l = absurd (omega arith)
  others_true (e ∷ f ∷ es) h zero l = h.0
  others_true (e ∷ f ∷ es) h (suc k) l = others_true (f ∷ es) h.1 k (omega arith)

  pub goal_false : (es : List CellTerm) → GoalAloneFalse v es → (g : ℕ) → g + 1 ≡ length es → its_value (get_or es g []) ≡ pos 0
  goal_false [] h g l = absurd h
  goal_false (e ∷ []) h zero l = h
  goal_false (e ∷ []) h (suc g) l = absurd (omega arith)
  goal_false (e ∷ f ∷ es) h zero l = absurd (omega arith)
  goal_false (e ∷ f ∷ es) h (suc g) l = goal_false (f ∷ es) h.1 g (omega arith)

  pub alone_false : (es : List CellTerm) (g : ℕ) → g + 1 ≡ length es → ((k : ℕ) → k < g → its_value (get_or es k []) ≡ pos 1) → its_value (get_or es g []) ≡ pos 0 → GoalAloneFalse v es
  alone_false [] g l h z = absurd (omega arith)
  alone_false (e ∷ []) zero l h z = z
  alone_false (e ∷ []) (suc g) l h z = absurd (omega arith)
  alone_false (e ∷ f ∷ es) zero l h z = absurd (omega arith)
  alone_false (e ∷ f ∷ es) (suc g) l h z = (h 0 (omega arith), alone_false (f ∷ es) g (omega arith) (λ k m. h (suc k) (omega arith)) z)

told : (o : Option ℤ) (n m : ℤ) → o ≡ Some n → Decides (option_eq int_eq o (Some m)) (n ≡ m)
told o n m e = subst (λ o. Decides (option_eq int_eq o (Some m)) (n ≡ m)) (sym e) (Decides-int_eq n m)

pub true_told : (o : Option ℤ) (n m : ℤ) → o ≡ Some n → not (option_eq int_eq o (Some m)) ≡ false → n ≡ m
true_told o n m e h = (told o n m e).0 (grind arith)

-- by the places of a sheet's parts, of which there are g before the goal
module _ (v : List ℤ) (es : List CellTerm) (g : ℕ) (some : 0 < length es) (last : g ≡ length es - 1) where
  pub part_untrue : (k : ℕ) → k < g → (o : Option ℤ) → o ≡ Some (value (cell_in v) (get_or es k [])) → not (option_eq int_eq o (Some (pos 1))) ≡ true → Decides false (GoalAloneFalse v es)
  part_untrue k l o e h = (
    λ f. clash f,
    λ f.
        let one = (told o (value (cell_in v) (get_or es k [])) (pos 1) e).1 (others_true v es f k (omega arith)) in
        clash (sym (ap not one) ∙ h),
  )

  pub goal_told : ((k : ℕ) → k < g → value (cell_in v) (get_or es k []) ≡ pos 1) → (o : Option ℤ) → o ≡ Some (value (cell_in v) (get_or es g [])) → Decides (option_eq int_eq o (Some (pos 0))) (GoalAloneFalse v es)
  goal_told others o e =
      let zero = told o (value (cell_in v) (get_or es g [])) (pos 0) e in
      (λ h. alone_false v es g (omega arith) others (zero.0 h), λ f. zero.1 (goal_false v es f g (omega arith)))

-- a point is that of its number
its_point : (m : Mark) → is_point m ≡ true → point m.low ≡ m
its_point m h =
    let t = and_parts (same_number m.low m.high) (in_span m.low) h in
    let same : m.low ≡ m.high = grind (arith, ints) in
    ap point_or (cond-true _ _ _ t.1) ∙ ap (λ n. between m.low n) same

within_length : (cs : List Cell) (v : List ℤ) → is_within cs v ≡ true → length v ≡ length cs
within_length [] [] h = refl
within_length [] (x ∷ xs) h = clash h
within_length (c ∷ cs) [] h = clash h
within_length (c ∷ cs) (x ∷ xs) h = ap suc (within_length cs xs (and_parts _ _ h).1)

-- the parts of a sheet, each at a place
module _ (rows : List (Row ℕ)) (parts : List Part) (cells : List Cell) where
  abbrev c : Condition
  c = condition_of rows parts cells

  pub part_short : (p : ℕ) → length (part c p) ≤ length rows
  part_short p = go (leb (length parts) p) refl
    where
      short : (q : Part) → length (part_in rows q) ≤ length rows
      short q = omega (arith, length-take q.rows (drop q.first rows), length-drop q.first rows)

      go : (b : Bool) → leb (length parts) p ≡ b → length (part c p) ≤ length rows
      go true e = let none = get_or_past (map (part_in rows) parts) p [] (let past = leb-true (length parts) p e in omega (arith, length-map parts (part_in rows))) in omega (arith, ap length none)
      go false e = let d : Part = record { first = 0; rows = 0 } in subst (λ e. length e ≤ length rows) (sym (get_or-map (part_in rows) parts p d [] (leb-false (length parts) p e))) (short (get_or parts p d))

  pub part_number : Keeps c → (ms : List Mark) → list_all is_point ms ≡ true → is_within cells (numbers_in ms) ≡ true → (p : ℕ) → p < length parts → (answer : Option ℤ) → Exact (slice_get ms) (part c p) answer → answer ≡ Some (value (cell_in (numbers_in ms)) (part c p))
  part_number kept ms points within p there answer exact =
      let l : p < length c.parts = omega (arith, length-map parts (part_in rows)) in
      exact (cell_kind cells) (cell_in (numbers_in ms)) Truth (part_truth c kept p l) (kindly cells (numbers_in ms) kept.bounded within (part c p))
      (mentions_map (λ m. m < length cells) (λ m. slice_get ms m ≡ Some (point (cell_in (numbers_in ms) m))) at (part c p) (part_mentions c kept p l)) (part_stays c kept p l (numbers_in ms) within).spans
    where
      at : (m : ℕ) → m < length cells → slice_get ms m ≡ Some (point (cell_in (numbers_in ms) m))
      at m h =
          let l : m < length ms = omega (arith, h, within_length cells (numbers_in ms) within, length-map ms (λ m. m.low)) in
          let d = between (pos 0) (pos 0) in
          let here = AllPass-from_list_all is_point ms points m d l in
          slice_get-get_or ms m d l ∙ ap Some (sym (ap point (get_or-map (λ m. m.low) ms m d (pos 0) l) ∙ its_point (get_or ms m d) here))

-- what is placed
abbrev pub points_of : List ℤ → List Mark
points_of w = map (λ n. between n n) w

pub numbers_placed : (w : List ℤ) → numbers_in (points_of w) ≡ w
numbers_placed [] = refl
numbers_placed (n ∷ ns) = ap (λ w. n ∷ w) (numbers_placed ns)

point_is : (n : ℤ) → in_span n ≡ true → is_point (between n n) ≡ true
point_is n h = grind (arith, ints)

pub exact_placed : (cs : List Cell) (w : List ℤ) → list_all is_bounded cs ≡ true → is_within cs w ≡ true → list_all is_point (points_of w) ≡ true
exact_placed cs [] b h = refl
exact_placed [] (n ∷ ns) b h = clash h
exact_placed (c ∷ cs) (n ∷ ns) b h = and_from _ _ (point_is n (in_cell_span c n (in_first c cs n ns b h))) (exact_placed cs ns (and_parts _ _ b).1 (and_parts _ _ h).1)

module _ (s : Sheet) (v : List ℤ) (within : is_within (cells_in s) (first_numbers s v) ≡ true) where
  pub long_enough : length (cells_in s) ≤ length v
  long_enough = omega (arith, within_length (cells_in s) (first_numbers s v) within, length-take (length (cells_in s)) v)

  module _ (ms : List Mark) (placed : ms ≡ points_of (first_numbers s v)) where
    pub its_numbers : numbers_in ms ≡ first_numbers s v
    its_numbers = ap numbers_in placed ∙ numbers_placed (first_numbers s v)

    pub its_exact : Keeps (says s) → list_all is_point ms ≡ true
    its_exact kept = ap (list_all is_point) placed ∙ exact_placed (cells_in s) (first_numbers s v) kept.bounded within

    pub its_within : is_within (cells_in s) (numbers_in ms) ≡ true
    its_within = ap (is_within (cells_in s)) its_numbers ∙ within

    pub replayed : (marks : ℕ) → marks_for s ≤ marks → (b : Bool) → Decides b (GoalAloneFalse (numbers_in ms) (says s).parts) → Replayed s v marks (Ok b)
    replayed marks room b h = record {
      short = λ few. absurd (omega arith);
      outside = λ _ out. clash (sym out ∙ within);
      told = λ _ _. (
        b,
        refl,
        (λ t. (within, subst (λ w. GoalAloneFalse w (says s).parts) its_numbers (h.0 t)), λ f. h.1 (subst (λ w. GoalAloneFalse w (says s).parts) (sym its_numbers) f.1)),
      );
    }
