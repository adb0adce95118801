-- A path's statements visited one after another.
use Rattle.std.proofs.Common.{◌≡◌, ℕ, ◌+◌, ◌<◌, List, [], ◌∷◌, ◌++◌, length, Some, None, Option, IfSome, sym, refl, ap, ◌∙◌, subst, arith}
use Rattle.flow.specs.declared.step.Step.{Step}
use Rattle.flow.specs.declared.turn.Turn.{Turn}
use Rattle.flow.specs.Turns.{told, tail, Tells, Follows}
use Rattle.jcode.specs.Sentences.{Sentence}
use Rattle.jcode.specs.Units.{JUnit}
use Rattle.checking.specs.Breaks.{steps_of}
use Rattle.sheets.specs.declared.writer.Writer.{Writer}
use Rattle.sheets.specs.PathSheets.{cells_of, parts_of, moved, onward, parts_along, cells_along}
use Rattle.sheets.specs.Runs.{sentence}
use Rattle.sheets.specs.Writings.{Writes, Fills, CountsAll, progress}
use Rattle.sheets.proofs.Equating.{length-cells_of}
use Rattle.sheets.proofs.Joining.{filled, fills, not_filled, counts_first, counts_rest, length_laid}

-- the places from a turn on
abbrev pub left : List Step → Option Turn → List ℕ
left s None = []
left s (Some t) = told s t

-- a turn's own place comes first
pub begins : (s : List Step) (t : Turn) (next : Option Turn) → Tells s t → Follows s t next → told s t ≡ t.place ∷ left s next
begins s t None tells ends = tells.begins ∙ ap (λ rest. t.place ∷ rest) ends
begins s t (Some n) tells on = on.0

pub still : (s : List Step) (t : Turn) (next : Option Turn) → Follows s t next → IfSome next (Tells s)
still s t None ends = tt
still s t (Some n) on = on.1

moves_on : (u : JUnit) (w x : Writer) (st : Sentence (List ℕ)) → Writes w (parts_of (progress w) st) (cells_of u (progress w) st) (moved (progress w) st) x → progress x ≡ onward (progress w) st
moves_on u w x st p =
    let cells = p.cells.count ∙ ap (λ n. w.written.cells + n) (length-cells_of u (progress w) st) in
    let parts = p.parts.count ∙ ap (λ n. w.written.parts + n) (length_laid w.written.rows (parts_of (progress w) st)) in
    λ i. record { cells = cells i; parts = parts i; current = p.current i }

-- from a turn on, who writes the rest of the path has written all of it
pub record Along (u : JUnit) (before : Writer) (all : List ℕ) (w : Writer) (turn : Option Turn) : Type 0 where
  pub fills : (end : Writer) → Fills w (parts_along u (progress w) (left (steps_of u) turn)) (cells_along u (progress w) (left (steps_of u) turn)) end → Fills before (parts_along u (progress before) all) (cells_along u (progress before) all) end
  pub counts : CountsAll w (parts_along u (progress w) (left (steps_of u) turn)) (cells_along u (progress w) (left (steps_of u) turn))
  pub size : w.current.count ≡ before.current.count
  pub tells : IfSome turn (Tells (steps_of u))

-- at a turn, whose place the statement's is
module _ (u : JUnit) (before w : Writer) (all : List ℕ) (o : Option Turn) (along : Along u before all w o) (t : Turn) (some : o ≡ Some t) (place : ℕ) (at : place ≡ t.place) where
  abbrev here : Along u before all w (Some t)
  here = subst (Along u before all w) some along

  abbrev st : Sentence (List ℕ)
  st = sentence u place

  abbrev Whole : List ℕ → Type 0
  Whole rest = CountsAll w (parts_of (progress w) st ++ parts_along u (onward (progress w) st) rest) (cells_of u (progress w) st ++ cells_along u (onward (progress w) st) rest)

  whole : (rest : List ℕ) → told (steps_of u) t ≡ t.place ∷ rest → Whole rest
  whole rest path = subst (λ p. CountsAll w (parts_along u (progress w) p) (cells_along u (progress w) p)) (path ∙ ap (λ i. i ∷ rest) (sym at)) here.counts

  pub here_counts : CountsAll w (parts_of (progress w) st) (cells_of u (progress w) st)
  here_counts =
      let rest = tail (told (steps_of u) t) in
      counts_first w w w (parts_of (progress w) st) (parts_along u (onward (progress w) st) rest) (cells_of u (progress w) st) (cells_along u (onward (progress w) st) rest) (whole rest here.tells.begins)

  module _ (x : Writer) (next : Option Turn) (follows : Follows (steps_of u) t next) where
    abbrev rest : List ℕ
    rest = left (steps_of u) next

    path : told (steps_of u) t ≡ t.place ∷ rest
    path = begins (steps_of u) t next here.tells follows

    pub fewer : length rest < length (left (steps_of u) o)
    fewer = let n = ap length path in subst (λ o. length rest < length (left (steps_of u) o)) (sym some) (omega (arith, n))

    pub one_visited : Writes w (parts_of (progress w) st) (cells_of u (progress w) st) (moved (progress w) st) x → Along u before all x next
    one_visited p =
        let on = moves_on u w x st p in
        let wrote = fills w x (parts_of (progress w) st) (cells_of u (progress w) st) (moved (progress w) st) p in
        record {
          fills = λ end q. here.fills end (subst (λ p. Fills w (parts_along u (progress w) p) (cells_along u (progress w) p) end) (ap (λ i. i ∷ rest) at ∙ sym path)
              (filled w x end (parts_of (progress w) st) (parts_along u (onward (progress w) st) rest) (cells_of u (progress w) st) (cells_along u (onward (progress w) st) rest) wrote (subst (λ at. Fills x (parts_along u at rest) (cells_along u at rest) end) on q)));
          counts = subst (λ at. CountsAll x (parts_along u at rest) (cells_along u at rest)) (sym on) (counts_rest w x x (parts_of (progress w) st) (parts_along u (onward (progress w) st) rest) (cells_of u (progress w) st) (cells_along u (onward (progress w) st) rest) (whole rest path) wrote);
          size = p.size ∙ here.size;
          tells = still (steps_of u) t next follows;
        }

pub all_visited : (u : JUnit) (before w : Writer) (all : List ℕ) (o : Option Turn) → Along u before all w o → o ≡ None → Fills before (parts_along u (progress before) all) (cells_along u (progress before) all) w
all_visited u before w all o along none = (subst (Along u before all w) none along).fills w (not_filled w)

pub none_visited : (u : JUnit) (before : Writer) (t : Turn) → Tells (steps_of u) t → CountsAll before (parts_along u (progress before) (told (steps_of u) t)) (cells_along u (progress before) (told (steps_of u) t)) → Along u before (told (steps_of u) t) before (Some t)
none_visited u before t tells counts = record { fills = λ end p. p; counts = counts; size = refl; tells = tells }
