-- The decision about tables is right.
use Rattle.std.proofs.Common.{◌≡◌, ℕ, true, leb, List, length, Some, arith}
use Rattle.std.proofs.lemmas.Bool.{and_parts, and_from, leb-true, le-leb}
use Rattle.jcode.specs.declared.span.Span.{Span}
use Rattle.jcode.specs.ReadTerms.{row_limit}
use Rattle.jcode.specs.ReadUnits.{Tables, variable_limit, statement_limit}
use Rattle.checking.specs.Layouts.{fills_from}
use Rattle.checking.specs.Pieces.{is_name, is_declaration}
use Rattle.std.specs.List.{list_all}
use Rattle.checking.specs.Readable.{Readable, few_enough, well_named, readable}
use Rattle.checking.proofs.Laying.{laid_all_lem, again_all}

module _ (bytes : List ℕ) (name : Span) (t : Tables) where
  pub readable_right : readable bytes name t ≡ true → Readable bytes name t
  readable_right e =
      let p = and_parts (few_enough t) _ e in
      let q = and_parts (well_named bytes name t) _ p.1 in
      let few = and_parts (leb (length t.variables) variable_limit) _ p.0 in
      let fewer = and_parts (leb (length t.statements) statement_limit) _ few.1 in
      let names = and_parts (is_name bytes name) _ q.0 in
      let declared = and_parts (list_all (is_declaration bytes) t.variables) _ names.1 in
      let body = and_parts (fills_from (length t.rows) (Some 0) t.statements) _ q.1 in
      let laid = laid_all_lem t.rows 0 t.statements (omega arith) body.0 in
      record {
        laid = laid.0;
        filled = laid.1;
        few_variables = leb-true (length t.variables) variable_limit few.0;
        few_statements = leb-true (length t.statements) statement_limit fewer.0;
        few_rows = leb-true (length t.rows) row_limit fewer.1;
        named = names.0;
        declared = declared.0;
        once = declared.1;
        kept = body.1;
      }

  pub readable_whole : Readable bytes name t → readable bytes name t ≡ true
  readable_whole r =
      and_from (few_enough t) _
      (and_from (leb (length t.variables) variable_limit) _ (le-leb _ _ r.few_variables) (and_from (leb (length t.statements) statement_limit) _ (le-leb _ _ r.few_statements) (le-leb _ _ r.few_rows)))
      (and_from (well_named bytes name t) _
      (and_from (is_name bytes name) _ r.named (and_from (list_all (is_declaration bytes) t.variables) _ r.declared r.once))
      (and_from (fills_from (length t.rows) (Some 0) t.statements) _ (again_all t.rows bytes (length t.variables) 0 t.statements (omega arith) r.kept (r.laid, r.filled)) r.kept))
