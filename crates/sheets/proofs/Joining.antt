-- Parts and cells written one after another.
use Rattle.std.proofs.Common.{◌≡◌, ℕ, suc, ◌+◌, List, [], ◌∷◌, ◌++◌, length, sym, refl, ap, ◌∙◌, subst, length-append, append-nil, arith}
use Rattle.std.proofs.lemmas.Grind.{flat_map-append}
use Rattle.sheets.specs.declared.cell.Cell.{Cell}
use Rattle.sheets.specs.declared.current.Current.{Current}
use Rattle.sheets.specs.declared.writer.Writer.{Writer}
use Rattle.sheets.specs.Currents.{current_in}
use Rattle.sheets.specs.PathSheets.{rows_of, laid_from}
use Rattle.sheets.specs.Sheets.{CellTerm}
use Rattle.sheets.specs.Writings.{Extends, rows_page, parts_page, cells_page, Lent, Writes, Fills, CountsAll}
use Rattle.sheets.proofs.Extending.{extended, not_extended}

pub rows_append : (es fs : List CellTerm) → rows_of (es ++ fs) ≡ rows_of es ++ rows_of fs
rows_append es fs = flat_map-append (λ e. e) es fs

pub parts_append : (used : ℕ) (es fs : List CellTerm) → laid_from used (es ++ fs) ≡ laid_from used es ++ laid_from (used + length (rows_of es)) fs
parts_append used [] fs = ap (λ n. laid_from n fs) (omega arith)
parts_append used (e ∷ es) fs =
    let same : (used + length e) + length (rows_of es) ≡ used + length (e ++ rows_of es) = simp length-append (omega arith) in
    ap (λ ps. record { first = used; rows = length e } ∷ ps) (parts_append (used + length e) es fs ∙ ap (λ n. laid_from (used + length e) es ++ laid_from n fs) same)

lent_on : (a b c : Writer) → Lent a b → Lent b c → Lent a c
lent_on a b c p q = record { rows = q.rows ∙ p.rows; parts = q.parts ∙ p.parts; cells = q.cells ∙ p.cells }

not_lent : (a : Writer) → Lent a a
not_lent a = record { rows = refl; parts = refl; cells = refl }

pub length_laid : (used : ℕ) (es : List CellTerm) → length (laid_from used es) ≡ length es
length_laid used [] = refl
length_laid used (e ∷ es) = ap suc (length_laid (used + length e) es)

module _ (a b c : Writer) (es fs : List CellTerm) (cs ds : List Cell) (now later : List ℕ) where
  pub written : Writes a es cs now b → Writes b fs ds later c → Writes a (es ++ fs) (cs ++ ds) later c
  written p q = record {
    rows = subst (λ rs. Extends (rows_page a) rs (rows_page c)) (sym (rows_append es fs)) (extended (rows_page a) (rows_page b) (rows_page c) (rows_of es) (rows_of fs) p.rows q.rows);
    parts = subst (λ ps. Extends (parts_page a) ps (parts_page c)) (sym (parts_append a.written.rows es fs)) (extended (parts_page a) (parts_page b) (parts_page c) _ (laid_from (a.written.rows + length (rows_of es)) fs) p.parts (subst (λ n. Extends (parts_page b) (laid_from n fs) (parts_page c)) p.rows.count q.parts));
    cells = extended (cells_page a) (cells_page b) (cells_page c) cs ds p.cells q.cells;
    lent = lent_on a b c p.lent q.lent;
    current = q.current;
    size = q.size ∙ p.size;
  }

pub not_written : (a : Writer) → Writes a [] [] (current_in a.current) a
not_written a = record { rows = not_extended (rows_page a); parts = not_extended (parts_page a); cells = not_extended (cells_page a); lent = not_lent a; current = refl; size = refl }

-- with other current cells afterwards
pub with_current : (a b : Writer) (es : List CellTerm) (cs : List Cell) (now : List ℕ) (r : Current) (later : List ℕ) → Writes a es cs now b → current_in r ≡ later → r.count ≡ a.current.count → Writes a es cs later (record b { current = r })
with_current a b es cs now r later p is size = record { rows = p.rows; parts = p.parts; cells = p.cells; lent = record { rows = p.lent.rows; parts = p.lent.parts; cells = p.lent.cells }; current = is; size = size }

-- cells and then parts
pub cells_first : (a b c : Writer) (es : List CellTerm) (cs : List Cell) (now later : List ℕ) → Writes a [] cs now b → Writes b es [] later c → Writes a es cs later c
cells_first a b c es cs now later p q = subst (λ ds. Writes a es ds later c) (append-nil cs) (written a b c [] es cs [] now later p q)

-- the same, whatever the current cells become
module _ (a b c : Writer) (es fs : List CellTerm) (cs ds : List Cell) where
  pub filled : Fills a es cs b → Fills b fs ds c → Fills a (es ++ fs) (cs ++ ds) c
  filled p q = record {
    rows = subst (λ rs. Extends (rows_page a) rs (rows_page c)) (sym (rows_append es fs)) (extended (rows_page a) (rows_page b) (rows_page c) (rows_of es) (rows_of fs) p.rows q.rows);
    parts = subst (λ ps. Extends (parts_page a) ps (parts_page c)) (sym (parts_append a.written.rows es fs)) (extended (parts_page a) (parts_page b) (parts_page c) _ (laid_from (a.written.rows + length (rows_of es)) fs) p.parts (subst (λ n. Extends (parts_page b) (laid_from n fs) (parts_page c)) p.rows.count q.parts));
    cells = extended (cells_page a) (cells_page b) (cells_page c) cs ds p.cells q.cells;
    lent = lent_on a b c p.lent q.lent;
  }

  -- where all of it can be counted, so can the first of it, and then the rest
  pub counts_first : CountsAll a (es ++ fs) (cs ++ ds) → CountsAll a es cs
  counts_first n = record {
    rows = omega (arith, n.rows, ap length (rows_append es fs), length-append (rows_of es) (rows_of fs));
    parts = omega (arith, n.parts, length-append es fs);
    cells = omega (arith, n.cells, length-append cs ds);
  }

  pub counts_rest : CountsAll a (es ++ fs) (cs ++ ds) → Fills a es cs b → CountsAll b fs ds
  counts_rest n p = record {
    rows = omega (arith, n.rows, p.rows.count, ap length (rows_append es fs), length-append (rows_of es) (rows_of fs));
    parts = let laid = length_laid a.written.rows es in omega (arith, n.parts, p.parts.count, laid, length-append es fs);
    cells = omega (arith, n.cells, p.cells.count, length-append cs ds);
  }

pub not_filled : (a : Writer) → Fills a [] [] a
not_filled a = record { rows = not_extended (rows_page a); parts = not_extended (parts_page a); cells = not_extended (cells_page a); lent = not_lent a }

pub fills : (a b : Writer) (es : List CellTerm) (cs : List Cell) (now : List ℕ) → Writes a es cs now b → Fills a es cs b
fills a b es cs now p = record { rows = p.rows; parts = p.parts; cells = p.cells; lent = p.lent }
