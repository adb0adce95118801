-- What a reading leaves, cut to its counts, is the unit that was read.
use Rattle.std.proofs.Common.{◌≡◌, ℕ, ◌≤◌, List, ◌++◌, length, take, drop, Ok, sym, refl, subst, arith}
use Rattle.std.proofs.Math.Seq.{take-append_seam}
use Rattle.std.proofs.lemmas.List.{length-append}
use Rattle.jcode.specs.declared.reader.Outline.{Outline}
use Rattle.jcode.specs.Pieces.{Answer, got, refused}
use Rattle.jcode.specs.ReadUnits.{Located, Tables, tables, laid_all, rows_all, over, written, outline, answered, left_by}
use Rattle.jcode.proofs.Statements.{length_laid}

-- the tables of a unit that was read, and no more
abbrev pub tables_of : Located → Tables
tables_of u = tables u.variables (laid_all 0 u.sentences) (rows_all u.sentences)

-- a reading that told an outline read a unit, and its tables begin with that
pub record WasRead (new : Tables) (a : Answer Located) (o : Outline) : Type 0 where
  pub unit : Located
  pub next : ℕ
  pub read : a ≡ got unit next
  pub told : o ≡ outline unit next
  pub few_variables : o.variables ≤ length new.variables
  pub few_statements : o.statements ≤ length new.statements
  pub few_rows : o.rows ≤ length new.rows
  pub cut : tables (take o.variables new.variables) (take o.statements new.statements) (take o.rows new.rows) ≡ tables_of unit

longer : {X : Type 0} (xs ys : List X) → length xs ≤ length (xs ++ ys)
longer xs ys = omega (arith, length-append xs ys)

of_unit : (u : Located) (j : ℕ) (t : Tables) → WasRead (written u t) (got u j) (outline u j)
of_unit u j t =
    let laid = laid_all 0 u.sentences in
    let same = length_laid 0 u.sentences in
    let rows = rows_all u.sentences in
    record {
      unit = u;
      next = j;
      read = refl;
      told = refl;
      few_variables = longer u.variables (drop (length u.variables) t.variables);
      few_statements = omega (arith, same, longer laid (drop (length laid) t.statements));
      few_rows = longer rows (drop (length rows) t.rows);
      cut =
          let vs = take-append_seam u.variables (drop (length u.variables) t.variables) in
          let ss = subst (λ n. take n (over laid t.statements) ≡ laid) same (take-append_seam laid (drop (length laid) t.statements)) in
          let rs = take-append_seam rows (drop (length rows) t.rows) in
          cc;
    }

pub was_read : (t new : Tables) (a : Answer Located) (o : Outline) → Ok o ≡ answered a → new ≡ left_by t a → WasRead new a o
was_read t new (got u j) o is left =
    let told : o ≡ outline u j = cc in
    subst (λ n. WasRead n (got u j) o) (sym left) (subst (WasRead (written u t) (got u j)) (sym told) (of_unit u j t))
was_read t new (refused f) o is left = absurd (let z : ◌≡◌ {A = ℕ} 0 1 = cc in omega arith)
