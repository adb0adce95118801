-- The sheet of a path, written from a writer's start on.
use Rattle.std.proofs.Common.{◌≡◌, ℕ, ◌*◌, ◌≤◌, List, ◌++◌, map, length, None, Some, ap, ◌∙◌, subst, length-append, arith}
use Rattle.std.proofs.lemmas.List.{length-map}
use Rattle.terms.specs.declared.row.Row.{Row}
use Rattle.flow.specs.declared.turn.Turn.{Turn}
use Rattle.flow.specs.Numbers.{nth}
use Rattle.flow.specs.Turns.{told, Starts as StartsPath}
use Rattle.flow.proofs.Shortness.{path_short}
use Rattle.jcode.specs.Bytes.{slice}
use Rattle.jcode.specs.Tables.{put}
use Rattle.jcode.specs.Units.{retold, sentence_in}
use Rattle.checking.specs.declared.unit.CheckedUnit.{CheckedUnit}
use Rattle.checking.specs.Breaks.{step_of, steps_of}
use Rattle.checking.specs.CheckedUnits.{said}
use Rattle.checking.specs.Held.{held}
use Rattle.checking.specs.Types.{domains}
use Rattle.sheets.specs.declared.cell.Cell.{Cell}
use Rattle.sheets.specs.declared.part.Part.{Part}
use Rattle.sheets.specs.declared.writer.Writer.{Writer}
use Rattle.sheets.specs.Drafts.{Drafts}
use Rattle.sheets.specs.PathSheets.{cell_of, started, rows_of, laid_from, parts_along, cells_along}
use Rattle.sheets.specs.Runs.{with_shadows}
use Rattle.sheets.specs.Settling.{condition}
use Rattle.sheets.specs.Sheets.{CellTerm}
use Rattle.sheets.specs.Writings.{page, cells_page, Starts, Fills, CountsAll, progress}
use Rattle.sheets.proofs.Bounding.{bounded}
use Rattle.sheets.proofs.Sensing.{reads}
use Rattle.sheets.proofs.Starting.{few_variables, same_count}
use Rattle.sheets.proofs.Typing.{length-with_shadows}
use Rattle.sheets.proofs.Extending.{extended}
use Rattle.sheets.proofs.Joining.{length_laid}

module _ (u : CheckedUnit) (k : ℕ) (t : Turn) (first : StartsPath (steps_of (said u)) k (Some t)) (rows : List (Row ℕ)) (parts : List Part) (cells : List Cell) (w : Writer) (starts : Starts (said u) rows parts cells w) where
  abbrev path : List ℕ
  path = told (steps_of (said u)) t

  short : length path ≤ 200
  short =
      let few = (reads u.tables.bytes.now u.tables.name (held u.tables) u.unbroken).few_statements in
      let s = length-map (said u).statements step_of in
      let r = length-map (map (sentence_in u.tables.rows.now) u.tables.statements.now) (retold (slice u.tables.bytes.now)) in
      let q = length-map u.tables.statements.now (sentence_in u.tables.rows.now) in
      let p = path_short (steps_of (said u)) k in
      let e = ap length first.1 in
      omega (arith, few, s, r, q, p, e)

  cells_so_far : w.written.cells ≡ 2 * length (said u).variables
  cells_so_far = ap (λ p. p.cells) starts.at_start

  pub can_count : CountsAll w (parts_along (said u) (progress w) path) (cells_along (said u) (progress w) path)
  can_count =
      let b = bounded u (progress w) path in
      let few = few_variables u in
      let same = same_count u in
      record {
        rows = omega (arith, b.rows, short, starts.rows_kept.count);
        parts = omega (arith, b.parts, short, starts.parts_kept.count);
        cells = omega (arith, b.cells, short, cells_so_far, few, same);
      }

  abbrev es : List CellTerm
  es = (condition (said u) k).parts

  abbrev begun : List Cell
  begun = map (cell_of None) (with_shadows (domains (said u)))

  abbrev added : List Cell
  added = cells_along (said u) (started (said u)) (nth (steps_of (said u)) k)

  begun_long : length begun ≡ 2 * length (said u).variables
  begun_long =
      let m = length-map (with_shadows (domains (said u))) (cell_of None) in
      let s = length-with_shadows (domains (said u)) in
      let d = length-map (said u).variables (λ d. d.domain) in
      omega (arith, m, s, d)

  module _ (x : Writer) (filled : Fills w (parts_along (said u) (progress w) path) (cells_along (said u) (progress w) path) x) where
    whole : Fills w es added x
    whole = subst (λ at. Fills w (parts_along (said u) at (nth (steps_of (said u)) k)) (cells_along (said u) at (nth (steps_of (said u)) k)) x) starts.at_start (subst (λ p. Fills w (parts_along (said u) (progress w) p) (cells_along (said u) (progress w) p) x) first.1 filled)

    pub drafted : Drafts (said u) k rows parts cells (Some (record { rows = x.written.rows; parts = x.written.parts; cells = x.written.cells })) x.rows.now x.parts.now x.cells.now
    drafted =
        let no_rows : w.written.rows ≡ 0 = omega (arith, starts.rows_kept.count) in
        let no_parts : w.written.parts ≡ 0 = omega (arith, starts.parts_kept.count) in
        let row_count : x.written.rows ≡ length (rows_of es) = omega (arith, whole.rows.count, no_rows) in
        let part_count : x.written.parts ≡ length es = let l = length_laid w.written.rows es in omega (arith, whole.parts.count, no_parts, l) in
        let cell_count : x.written.cells ≡ length (begun ++ added) = let l = length-append begun added in omega (arith, whole.cells.count, cells_so_far, begun_long, l) in
        let all_cells = extended (page cells 0) (cells_page w) (cells_page x) begun added starts.cells_begun whole.cells in (
          first.0,
          λ i. record { rows = row_count i; parts = part_count i; cells = cell_count i },
          whole.rows.records ∙ (λ i. put (starts.rows_kept.records i) (no_rows i) (rows_of es)),
          whole.parts.records ∙ (λ i. put (starts.parts_kept.records i) (no_parts i) (laid_from (no_rows i) es)),
          all_cells.records ∙ (λ i. put cells 0 (begun ++ added)),
        )
