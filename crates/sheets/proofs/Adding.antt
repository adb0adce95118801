-- Two cells added for each variable of a list.
use Rattle.std.proofs.Common.{◌≡◌, ℕ, ◌+◌, ◌*◌, List, [], ◌∷◌, map, length, get_or, None, refl, ◌∙◌, subst, arith, slice_set}
use Rattle.std.proofs.lemmas.List.{length-map}
use Rattle.jcode.specs.declared.variable.Domain.TheVariants.{Integer, Boolean}
use Rattle.jcode.specs.Units.{JUnit}
use Rattle.checking.specs.Types.{domains}
use Rattle.sheets.specs.declared.current.Current.{Current}
use Rattle.sheets.specs.declared.writer.Writer.{Writer}
use Rattle.sheets.specs.Currents.{current_in}
use Rattle.sheets.specs.PathSheets.{cell_of, cells_from}
use Rattle.sheets.specs.Runs.{stored, types_at}
use Rattle.sheets.specs.Writings.{Writes}
use Rattle.sheets.proofs.Typing.{length-types_at}
use Rattle.sheets.proofs.Joining.{written, not_written}

-- some of the variables are done, and these are left: who writes the cells of these has written those of all
pub record Adds (u : JUnit) (all : List ℕ) (before : Writer) (left : List ℕ) (w : Writer) (after : Current) : Type 0 where
  pub writes : (end : Writer) → Writes w [] (map (cell_of None) (types_at u left)) (current_in before.current) end → Writes before [] (map (cell_of None) (types_at u all)) (current_in before.current) end
  pub put : stored left (cells_from w.written.cells left) (current_in after) ≡ stored all (cells_from before.written.cells all) (current_in before.current)
  pub kept : current_in w.current ≡ current_in before.current
  pub size : after.count ≡ before.current.count
  pub counted : w.written.cells + 2 * length left ≡ before.written.cells + 2 * length all

pub none_added : (u : JUnit) (all : List ℕ) (before : Writer) → Adds u all before all before before.current
none_added u all before = record { writes = λ end w. w; put = refl; kept = refl; size = refl; counted = refl }

module _ (u : JUnit) (all : List ℕ) (before : Writer) (v : ℕ) (left : List ℕ) (w x : Writer) (now after : Current) where
  pub one_added :
      Adds u all before (v ∷ left) w now
      → current_in after ≡ slice_set (slice_set (current_in now) (2 * v) w.written.cells) (2 * v + 1) (w.written.cells + 1) → after.count ≡ now.count
      → Writes w [] (cell_of None (get_or (domains u) v Integer) ∷ cell_of None Boolean ∷ []) (current_in w.current) x
      → Adds u all before left x after
  one_added a put size wrote = record {
    writes = λ end p. a.writes end (written w x end [] [] _ _ (current_in w.current) (current_in before.current) wrote p);
    put = (λ i. stored left (cells_from (wrote.cells.count i) left) (put i)) ∙ a.put;
    kept = wrote.current ∙ a.kept;
    size = size ∙ a.size;
    counted = let e = wrote.cells.count in omega (arith, e, a.counted);
  }

pub all_added : (u : JUnit) (all : List ℕ) (before w : Writer) (after : Current) → Adds u all before [] w after → Writes before [] (map (cell_of None) (types_at u all)) (current_in before.current) w
all_added u all before w after a = a.writes w (subst (λ now. Writes w [] [] now w) a.kept (not_written w))

-- how many cells that makes
pub two_each : (u : JUnit) (vs : List ℕ) → length (map (cell_of None) (types_at u vs)) ≡ 2 * length vs
two_each u vs = length-map (types_at u vs) (cell_of None) ∙ length-types_at u vs
