-- The stack in the lent entries.
use Rattle.std.proofs.Common.{◌≡◌, ℕ, zero, suc, ◌+◌, ◌-◌, ◌<◌, ◌≤◌, max, List, [], ◌∷◌, length, get_or, take, drop, reverse, Some, None, Ok, Err, Option, Result, refl, sym, ap, ◌∙◌, ap₂, subst, arith}
use Rattle.std.proofs.lemmas.List.{drop_more, get_or-reverse, length-reverse, length-drop, take-take}
use Rattle.std.specs.List.{slice_get}
use Rattle.std.proofs.lemmas.Bool.{cond-true, le-leb}
use Rattle.std.specs.Result.{MatchResult, result_ok}
use Rattle.terms.specs.declared.fold.Full.{Full}
use Rattle.terms.specs.declared.row.Row.{Row}
use Rattle.terms.specs.declared.row.Row.TheVariants.{Constant, Mention, Operator as Applied}
use Rattle.terms.specs.Operators.{arity}
use Rattle.terms.specs.Terms.{Algebra, onto, fold, height, entries_for, newest_in, outcome_in, FoldedRow, Folded, Worked}

-- the row that comes when so many have come, from the last to the first
pub row_next : {X : Type 0} (rows : List X) (n : ℕ) (x : X) → (n < length (reverse rows)) × (x ≡ get_or (reverse rows) n x) → drop (length rows - (n + 1)) rows ≡ x ∷ drop (length rows - n) rows
row_next rows n x h =
    let small : n < length rows = simp length-reverse at h.0 in
    let e : length rows - 1 - n + 1 ≡ length rows - n = omega arith in
    let f : length rows - (n + 1) ≡ length rows - 1 - n = omega arith in
    ap (λ k. drop k rows) f ∙ drop_more rows (length rows - 1 - n) x (omega arith) ∙ ap₂ (λ y k. y ∷ drop k rows) (sym (h.1 ∙ get_or-reverse rows n x small)) e

height_within : {M : Type 0} (rs : List (Row M)) → height rs ≤ length rs
height_within [] = omega arith
height_within (Constant z ∷ rs) = let e = height_within rs in omega arith
height_within (Mention m ∷ rs) = let e = height_within rs in omega arith
height_within (Applied o ∷ rs) = let e = height_within rs in omega arith

-- reading takes no more entries than there are rows
pub entries_within : {M : Type 0} (rs : List (Row M)) → entries_for rs ≤ length rs
entries_within [] = omega arith
entries_within (r ∷ rs) = let h = height_within rs in let e = entries_within rs in omega arith

pub entries_drop : {M : Type 0} (i : ℕ) (rs : List (Row M)) → entries_for (drop i rs) ≤ entries_for rs
entries_drop zero rs = omega arith
entries_drop (suc i) [] = omega arith
entries_drop (suc i) (r ∷ rs) = let e = entries_drop i rs in omega arith

pub length-fold : {M X : Type 0} (g : Algebra M X) (rs : List (Row M)) → length (fold g rs) ≡ height rs
length-fold g [] = refl
length-fold g (Constant z ∷ rs) = let e = length-fold g rs in omega arith
length-fold g (Mention m ∷ rs) = let e = length-fold g rs in omega arith
length-fold g (Applied o ∷ rs) = let e = length-fold g rs in omega (arith, length-drop (arity o) (fold g rs))

module _ {M X : Type 0} (g : Algebra M X) (rows : List (Row M)) (before : List X) where
  -- the rows that are read when so many have come, from the last on
  abbrev pub come : ℕ → List (Row M)
  come n = drop (length rows - n) rows

  -- they are read onto a stack at the end of the entries
  abbrev pub Held : ℕ → List X → ℕ → Type 0
  Held n entries top = record {
    size : length entries ≡ length before;
    inside : top ≤ length before;
    room : entries_for (come n) ≤ length before;
    kept : take (length before - entries_for (come n)) entries ≡ take (length before - entries_for (come n)) before;
    folded : drop top entries ≡ fold g (come n);
  }

  -- what reading all the rows does not take is as it was
  pub others : (n : ℕ) (entries : List X) (top : ℕ) → Held n entries top → take (length before - entries_for rows) entries ≡ take (length before - entries_for rows) before
  others n entries top held =
      let k = length before - entries_for rows in
      let m = length before - entries_for (come n) in
      let inside : k ≤ m = omega (arith, entries_drop (length rows - n) rows) in
      sym (take-take k m entries inside) ∙ ap (take k) held.kept ∙ take-take k m before inside

  -- where the next row finds room, what it comes to is the newest entry
  pub row_held : (n : ℕ) (row : Row M) (entries after : List X) (top next : ℕ) (r : Result X Full) → (n < length (reverse rows)) × (row ≡ get_or (reverse rows) n row) → Held n entries top → FoldedRow g row entries top r after next
      → MatchResult r (λ x. (slice_get (fold g (come (n + 1))) 0 ≡ Some x) × Held (n + 1) after next) (λ _. length before < entries_for rows)
  row_held n row entries after top next (Ok x) turn held read =
      let k = length before - entries_for (come (n + 1)) in
      let rest = row_next rows n row turn in
      let high : height (come n) ≡ length before - top = omega (arith, length-fold g (come n), ap length held.folded, length-drop top entries, held.size) in
      let takes : entries_for (come (n + 1)) ≡ max (entries_for (come n)) (height (come n) + 1) = ap entries_for rest in
      let room : entries_for (come (n + 1)) ≤ length before = omega (arith, takes, high, held.room, held.inside, read.0) in
      let early : k ≤ length before - entries_for (come n) = omega (arith, takes) in
      let inside : k ≤ top - 1 = omega (arith, takes, high, held.inside) in
      let whole : onto g row (drop top entries) ≡ fold g (come (n + 1)) = ap (onto g row) held.folded ∙ sym (ap (fold g) rest) in (
        ap (λ st. slice_get st 0) (sym whole) ∙ read.1,
        record {
          size = read.2 ∙ held.size;
          inside = omega (arith, read.4, held.size);
          room = room;
          kept = sym (take-take k (top - 1) after inside) ∙ ap (take k) read.6 ∙ take-take k (top - 1) entries inside ∙ sym (take-take k (length before - entries_for (come n)) entries early) ∙ ap (take k) held.kept ∙ take-take k (length before - entries_for (come n)) before early;
          folded = read.5 ∙ whole;
        },
      )
  row_held n row entries after top next (Err _) turn held read =
      let rest = row_next rows n row turn in
      let high : height (come n) ≡ length before - top = omega (arith, length-fold g (come n), ap length held.folded, length-drop top entries, held.size) in
      omega (arith, ap entries_for rest, high, read.0, entries_drop (length rows - (n + 1)) rows)

  -- by what is left of a call's answer without its fault
  pub one_more : (n : ℕ) (after : List X) (next : ℕ) (r : Result X Full) (x : X) → MatchResult r (λ x. (slice_get (fold g (come (n + 1))) 0 ≡ Some x) × Held (n + 1) after next) (λ _. length before < entries_for rows) → result_ok r ≡ Some x → Held (n + 1) after next
  one_more n after next (Ok y) x h e = h.1
  one_more n after next (Err y) x h e = absurd (let z : ◌≡◌ {A = ℕ} 0 1 = cc in omega arith)

  pub no_more : (n : ℕ) (after : List X) (next : ℕ) (r : Result X Full) → MatchResult r (λ x. (slice_get (fold g (come (n + 1))) 0 ≡ Some x) × Held (n + 1) after next) (λ _. length before < entries_for rows) → result_ok r ≡ None → length before < entries_for rows
  no_more n after next (Ok y) h e = absurd (let z : ◌≡◌ {A = ℕ} 0 1 = cc in omega arith)
  no_more n after next (Err y) h e = h

  pub too_few : (o : Option ℕ) (after : List X) → o ≡ None → length before < entries_for rows → Folded g rows before o after
  too_few o after e few = subst (λ o. Folded g rows before o after) (sym e) few

  -- once all have come
  pub folded : (n : ℕ) (entries : List X) (top : ℕ) → n ≡ length (reverse rows) → Held n entries top → Folded g rows before (Some top) entries
  folded n entries top is held =
      let none : length rows - n ≡ 0 = omega (arith, is, length-reverse rows) in
      let all : come n ≡ rows = ap (λ k. drop k rows) none in
      let room : entries_for rows ≤ length before = omega (arith, held.room, ap entries_for all) in (
        room,
        omega (arith, held.inside, held.size),
        held.folded ∙ ap (fold g) all,
        subst (λ rs. take (length before - entries_for rs) entries ≡ take (length before - entries_for rs) before) all held.kept,
      )

-- with an entry for each row there are enough
pub in_room : {M X : Type 0} (g : Algebra M X) (rs : List (Row M)) (room : ℕ) (x : X) → length rs ≤ room → x ≡ newest_in g rs room → x ≡ outcome_in g rs room
in_room g rs room x enough e =
    let w = entries_within rs in
    let few : entries_for rs ≤ room = omega arith in
    e ∙ cond-true _ _ _ (le-leb _ _ few) ∙ sym (cond-true _ _ _ (le-leb _ _ enough))

pub worked : {M X : Type 0} (rs : List (Row M)) (before after : List X) → length rs ≤ length before → take (length before - entries_for rs) after ≡ take (length before - entries_for rs) before → Worked (length rs) before after
worked rs before after enough e =
    let w = entries_within rs in
    let k = length before - entries_for rs in
    let inside : length before - length rs ≤ k = omega arith in
    record {
      others = sym (take-take (length before - length rs) k after inside) ∙ ap (take (length before - length rs)) e ∙ take-take (length before - length rs) k before inside;
      unread = λ few. absurd (omega (arith, few, enough));
    }
