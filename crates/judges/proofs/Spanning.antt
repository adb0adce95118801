-- What the numbers of a valuation within bounds come to, and how many rows a setting term has.
use Rattle.std.proofs.Common.{ℕ, zero, suc, ◌≡◌, ◌<◌, ◌≤◌, [], ◌∷◌, length, drop, List, ℤ, Some, arith}
use Rattle.std.proofs.lemmas.List.{length-drop}
use Rattle.reckoning.specs.Exactness.{Spans}
use Rattle.sheets.specs.declared.sheet.Sheet.{Sheet}
use Rattle.sheets.specs.Places.{rows_in, says}
use Rattle.sheets.specs.Sheets.{CellTerm, Condition, part, setting_term, set_by, Keeps}
use Rattle.sheets.specs.Valuations.{cell_in, Within}
use Rattle.sheets.proofs.Kept.{part_rows}
use Rattle.sheets.proofs.Spanning.{part_stays}

spans_rest : (env : ℕ → ℤ) (n : ℕ) (e : CellTerm) → Spans env e → Spans env (drop n e)
spans_rest env zero e h = h
spans_rest env (suc n) [] h = h
spans_rest env (suc n) (r ∷ e) h = spans_rest env n e h.1

module _ (s : Condition) (keeps : Keeps s) (v : List ℤ) (within : Within s.cells v) where
  pub part_spans : (p : ℕ) → p < length s.parts → Spans (cell_in v) (part s p)
  part_spans p lt = (part_stays s keeps p lt v within).spans

  pub setting_spans : (p i : ℕ) → set_by s.cells i ≡ Some p → Spans (cell_in v) (setting_term (part s p))
  setting_spans p i is = let earlier = (keeps.setting p i is).earlier in spans_rest (cell_in v) 2 (part s p) (part_spans p (omega arith))

pub setting_room : (sheet : Sheet) (p : ℕ) → length (setting_term (part (says sheet) p)) ≤ length (rows_in sheet)
setting_room sheet p = let h = part_rows sheet p in simp (length-drop) (omega arith)
