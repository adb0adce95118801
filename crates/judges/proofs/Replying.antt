-- What a judge that has room replies.
use Rattle.std.proofs.Common.{List, None, Option, Some, [], ap, arith, drop, length, map, min, pos, refl, replicate, subst, sym, take, true, ℕ, ℤ, ◌+◌, ◌∙◌, ◌∷◌, ◌≡◌, ◌≤◌}
use Rattle.std.proofs.lemmas.Bool.{true≢false, and_parts, leb-true}
use Rattle.reckoning.specs.declared.mark.Mark.{Mark}
use Rattle.reckoning.specs.declared.decision.Decision.{Decision}
use Rattle.reckoning.specs.declared.decision.Decision.TheVariants.{Yes, No, Unknown}
use Rattle.reckoning.specs.Reckonings.{Meaning}
use Rattle.sheets.specs.declared.judge.Answer.{Answer}
use Rattle.sheets.specs.Sheets.{CellTerm, Condition, cell_set}
use Rattle.sheets.specs.Judges.{Opinion, Told, has_room, Replied}
use Rattle.judges.specs.Passes.{bounds_mark, marked, after_part, by_goal, pass_or, pass_from, pass, answer_of}

-- with room, the valuation begins with what is told, and its rest stays
pub replied : (o : Opinion) (cells marks : ℕ) (v : List ℤ) (w : List Mark) (a : Answer) (after : List ℤ) (left : List Mark) → has_room cells marks v w ≡ true → Told cells o a (take cells after) → drop cells after ≡ drop cells v → length left ≡ length w → Replied o cells marks v w a after left
replied o cells marks v w a after left room told rest same = record { told = λ e. told; short = λ e. absurd (true≢false (sym room ∙ e)); rest = rest; working = same }

-- the pass proposes nothing
module _ (r : Meaning) (c : Condition) (n : ℕ) where
  abbrev Silent : Opinion → Type 0
  Silent o = Told n o (answer_of o) (replicate n (pos 0))

  goal_silent : (d : Decision) → Silent (by_goal d)
  goal_silent Yes = (refl, refl)
  goal_silent No = (refl, refl)
  goal_silent Unknown = (refl, refl)

  pub silent : (p : ℕ) (es : List CellTerm) (marks : List Mark) → Silent (pass_from r c p es marks)
  silent p [] marks = (refl, refl)
  silent p (goal ∷ []) marks = goal_silent (r.decided (marked r marks goal))
  silent p (e ∷ f ∷ es) marks = go (after_part r (cell_set c p) e marks) (silent (p + 1) (f ∷ es))
    where
      go : (o : Option (List Mark)) → ((ms : List Mark) → Silent (pass_from r c (p + 1) (f ∷ es) ms)) → Silent (pass_or o (pass_from r c (p + 1) (f ∷ es)))
      go None rest = (refl, refl)
      go (Some ms) rest = rest ms

-- there are as many numbers as cells
pub has_numbers : (cells marks : ℕ) (v : List ℤ) (w : List Mark) → has_room cells marks v w ≡ true → cells ≤ length v
has_numbers cells marks v w room = leb-true _ _ (and_parts _ _ room).0

-- what the pass replies
pub pass_replied : (r : Meaning) (c : Condition) (marks : ℕ) (v : List ℤ) (w : List Mark) (a : Answer) (after : List ℤ) (begun left : List Mark) → has_room (length c.cells) marks v w ≡ true
    → take (length c.cells) after ≡ replicate (min (length c.cells) (length v)) (pos 0) → drop (length c.cells) after ≡ drop (length c.cells) v → begun ≡ map (bounds_mark r) c.cells → a ≡ answer_of (pass_from r c 0 c.parts begun) → length left ≡ length w
    → Replied (pass r c) (length c.cells) marks v w a after left
pass_replied r c marks v w a after begun left room cleared rest start told same =
    let n = length c.cells in
    let enough = has_numbers n marks v w room in
    let few : min n (length v) ≡ n = omega arith in
    let zeros : take n after ≡ replicate n (pos 0) = cleared ∙ ap (λ k. replicate k (pos 0)) few in
    let is : a ≡ answer_of (pass r c) = told ∙ ap (λ m. answer_of (pass_from r c 0 c.parts m)) start in
    replied (pass r c) n marks v w a after left room
    (subst (Told n (pass r c) a) (sym zeros) (subst (λ b. Told n (pass r c) b (replicate n (pos 0))) (sym is) (silent r c n 0 c.parts (map (bounds_mark r) c.cells)))) rest same
