-- A writer at the start of a unit's sheets.
use Rattle.std.proofs.Common.{◌≡◌, ℕ, ◌+◌, ◌*◌, ◌≤◌, true, List, [], map, length, take, get_or, None, sym, ap, ◌∙◌, subst, arith, nat_lt}
use Rattle.std.proofs.lemmas.List.{length-map}
use Rattle.std.proofs.lemmas.List.FromFn.{length-range_with_len}
use Rattle.std.specs.List.{list_all, range_with_len}
use Rattle.jcode.specs.declared.variable.Domain.TheVariants.{Integer}
use Rattle.jcode.specs.Units.{JUnit, declared_in}
use Rattle.checking.specs.declared.unit.CheckedUnit.{CheckedUnit}
use Rattle.checking.specs.CheckedUnits.{said}
use Rattle.checking.specs.Held.{held}
use Rattle.checking.specs.Types.{domains}
use Rattle.sheets.specs.declared.writer.Writer.{Writer}
use Rattle.sheets.specs.Currents.{current_in}
use Rattle.sheets.specs.PathSheets.{cell_of}
use Rattle.sheets.specs.Runs.{types_at, with_shadows}
use Rattle.sheets.specs.Writings.{page, rows_page, parts_page, cells_page, Extends, Writes, Starts}
use Rattle.sheets.proofs.Adding.{two_each}
use Rattle.sheets.proofs.Numbered.{take_places, cells_are, looked_up, all_below}
use Rattle.sheets.proofs.Sensing.{reads}

pub few_variables : (u : CheckedUnit) → length u.tables.variables.now ≤ 32
few_variables u = (reads u.tables.bytes.now u.tables.name (held u.tables) u.unbroken).few_variables

pub same_count : (u : CheckedUnit) → length u.tables.variables.now ≡ length (said u).variables
same_count u = sym (length-map u.tables.variables.now (declared_in u.tables.bytes.now))

-- the types of all variables, each by its place
types_of_all : (u : JUnit) → types_at u (range_with_len 0 (length u.variables)) ≡ with_shadows (domains u)
types_of_all u = ap with_shadows (ap (λ n. map (λ v. get_or (domains u) v Integer) (range_with_len 0 n)) (sym (length-map u.variables (λ d. d.domain))) ∙ looked_up (domains u) Integer)

module _ (u : CheckedUnit) (n : ℕ) (count : n ≡ length (said u).variables) (few : n ≤ 32) (all : List ℕ) (is : all ≡ range_with_len 0 64) where
  firsts : take n all ≡ range_with_len 0 n
  firsts = ap (take n) is ∙ take_places 0 n 64 (omega (arith, few))

  all_types : types_at (said u) (take n all) ≡ with_shadows (domains (said u))
  all_types = ap (types_at (said u)) (firsts ∙ ap (range_with_len 0) count) ∙ types_of_all (said u)

  all_long : length (take n all) ≡ n
  all_long = ap length firsts ∙ length-range_with_len 0 n

  pub in_all : n ≤ length all
  in_all = let long = ap length is in omega (arith, few, long)

  pub all_known : (m : ℕ) → m ≡ 2 * n → list_all (λ v. nat_lt (2 * v + 1) m) (take n all) ≡ true
  all_known m e = subst (λ m. list_all (λ v. nat_lt (2 * v + 1) m) (take n all) ≡ true) (sym e) (subst (λ vs. list_all (λ v. nat_lt (2 * v + 1) (2 * n)) vs ≡ true) (sym firsts) (all_below 0 n n (omega arith)))

  pub started_with : (w x : Writer) → w.written.rows ≡ 0 → w.written.parts ≡ 0 → w.written.cells ≡ 0 → current_in w.current ≡ range_with_len 0 (2 * n) → w.current.count ≡ 2 * n
      → Writes w [] (map (cell_of None) (types_at (said u) (take n all))) (current_in w.current) x → Starts (said u) w.rows.now w.parts.now w.cells.now x
  started_with w x rn pn cn now size wrote = record {
    rows_kept = subst (λ n. Extends (page w.rows.now n) [] (rows_page x)) rn wrote.rows;
    parts_kept = subst (λ n. Extends (page w.parts.now n) [] (parts_page x)) pn wrote.parts;
    cells_begun = subst (λ ds. Extends (page w.cells.now 0) (map (cell_of None) ds) (cells_page x)) all_types (subst (λ m. Extends (page w.cells.now m) (map (cell_of None) (types_at (said u) (take n all))) (cells_page x)) cn wrote.cells);
    at_start = let counted : x.written.cells ≡ 2 * length (said u).variables = omega (arith, wrote.cells.count, cn, two_each (said u) (take n all), all_long, count) in
        let none : x.written.parts ≡ 0 = omega (arith, wrote.parts.count, pn) in
        let current = wrote.current ∙ now ∙ ap (λ k. range_with_len 0 (2 * k)) count ∙ sym (cells_are 0 (said u).variables) in
        λ i. record { cells = counted i; parts = none i; current = current i };
    size = wrote.size ∙ size ∙ ap (λ k. 2 * k) count;
  }
