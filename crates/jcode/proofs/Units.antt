-- A unit, from its heading to its end.
use Rattle.std.proofs.Common.{◌≡◌, ◌≤◌, min, List, [], length, take, IsErrAnd, Ok, Err, Result, sym, ap, ◌∙◌, arith}
use Rattle.std.proofs.lemmas.Result.{err_from_is_err_and}
use Rattle.jcode.specs.declared.cursor.Cursor.{Cursor}
use Rattle.jcode.specs.declared.reader.Outline.{Outline}
use Rattle.jcode.specs.declared.refusal.ReadFault.{ReadFault}
use Rattle.jcode.specs.declared.span.Span.{Span}
use Rattle.jcode.specs.declared.statement.Statement.{Statement}
use Rattle.jcode.specs.declared.table.Table.{Table}
use Rattle.jcode.specs.declared.variable.Variable.{Variable}
use Rattle.jcode.specs.Pieces.{got, Reads}
use Rattle.jcode.specs.Scopes.{Scope}
use Rattle.jcode.specs.Tables.{put}
use Rattle.jcode.specs.ReadTerms.{held}
use Rattle.jcode.specs.Sentences.{Sentence, rows_all}
use Rattle.jcode.specs.ReadUnits.{Fills, LaysAll, laid_in, laid_all, read_heading, read_declarations, read_statements, Tables, tables, scope_in, read_body, read_rest, located, read_unit, over, attempted, achieved}
use Rattle.jcode.specs.Rows.{UnitRow}
use Rattle.jcode.proofs.Chains.{reads_pair, reads_giving, refuses, refuses_pair, made_of, refused_of}
use Rattle.jcode.proofs.Fillings.{put_front, take_over}
use Rattle.jcode.proofs.Stores.{length_put}
use Rattle.jcode.proofs.Statements.{length_laid}

-- records that a table holds at its front
fronted : {X : Type 0} (table ys : List X) (t : Table X) → t.count ≡ length ys → t.records.now ≡ put table 0 ys → t.records.now ≡ over ys table
fronted table ys t n e =
    let h : t.count ≤ length t.records.now = t.within in
    e ∙ put_front table ys (omega (arith, n, ap length e, length_put table 0 ys))

module _ (vt vt' : Table Variable) (st st' : Table Statement) (rt rt' : Table UnitRow) (name : Span) (c₀ c₁ c₂ c₃ : Cursor) (heading : Reads read_heading c₀ (Ok name) c₁) {u : Unit {0}} (declarations : Fills (read_declarations (length vt.records.now) (min (length vt.records.now) 32) []) c₁ vt (Ok u) c₂ vt') (sc : Scope) (known : sc ≡ scope_in c₂.bytes.now (take vt'.count vt'.records.now)) where
  abbrev t : Tables
  t = tables vt.records.now st.records.now rt.records.now

  vs : (xs : List Variable) × Reads (read_declarations (length vt.records.now) (min (length vt.records.now) 32) []) c₁ (Ok xs) c₂ × (held vt' ≡ (length xs, put vt.records.now 0 xs))
  vs =
      let m = made_of (λ xs. (length xs, put vt.records.now 0 xs)) _ declarations.value in
      (m.0, record { value = m.1; same = declarations.same }, m.2)

  declared : vt'.count ≡ length vs.0
  declared = ap (λ p. p.0) vs.2

  filled : vt'.records.now ≡ over vs.0 vt.records.now
  filled = fronted vt.records.now vs.0 vt' declared (ap (λ p. p.1) vs.2)

  scope_is : sc ≡ scope_in c₂.bytes.now vs.0
  scope_is = known ∙ ap (scope_in c₂.bytes.now) ((λ k. take (declared k) (filled k)) ∙ take_over vt.records.now vs.0)

  abbrev Body : Result (Unit {0}) ReadFault → Type 0
  Body x = LaysAll sc c₂ st rt x c₃ st' rt'

  body : {x : Result (List (Sentence Span)) ReadFault} → Reads (read_statements sc (length rt.records.now) (length st.records.now) (min (length st.records.now) 200) []) c₂ x c₃ → Reads (read_body t vs.0) c₂ x c₃
  body h = record { value = h.value ∙ ap (λ s. read_statements s (length rt.records.now) (length st.records.now) (min (length st.records.now) 200) [] c₂.bytes.now c₂.at) scope_is; same = h.same }

  pub unit_refused : {y : ReadFault} (x : Result Outline ReadFault) (after : Tables) → IsErrAnd x (λ z. z ≡ y) → Body (Err y) → attempted x after ≡ achieved t (read_unit t c₀.bytes.now c₀.at)
  unit_refused x after e h =
      let p = err_from_is_err_and x e in
      let r = body (record { value = refused_of (laid_in st.records.now rt.records.now) _ h.value; same = h.same }) in
      ap (λ x. attempted x after) p.1 ∙ ap Err p.2 ∙ ap (achieved t) (refuses (λ p _ i. got (located p) i) (refuses_pair (λ _. read_rest t) heading (refuses_pair (read_body t) vs.1 r))).value

  pub unit_read : {v : Unit {0}} → Body (Ok v) → ◌≡◌ {A = Result (Outline × Tables) ReadFault} (Ok (record { name = name; variables = vt'.count; statements = st'.count; rows = rt'.count; next = c₃.at }, tables vt'.records.now st'.records.now rt'.records.now)) (achieved t (read_unit t c₀.bytes.now c₀.at))
  unit_read h =
      let m = made_of (laid_in st.records.now rt.records.now) _ h.value in
      let ss = m.0 in
      let r = body (record { value = m.1; same = h.same }) in
      let n : st'.count ≡ length ss = ap (λ p. p.0.0) m.2 in
      let k : rt'.count ≡ length (rows_all ss) = ap (λ p. p.1.0) m.2 in
      let s : st'.records.now ≡ over (laid_all 0 ss) st.records.now = fronted st.records.now (laid_all 0 ss) st' (n ∙ sym (length_laid 0 ss)) (ap (λ p. p.0.1) m.2) in
      let w : rt'.records.now ≡ over (rows_all ss) rt.records.now = fronted rt.records.now (rows_all ss) rt' k (ap (λ p. p.1.1) m.2) in
      (λ i. Ok (record { name = name; variables = declared i; statements = n i; rows = k i; next = c₃.at }, tables (filled i) (s i) (w i)))
      ∙ ap (achieved t) (reads_giving located (reads_pair (λ _. read_rest t) heading (reads_pair (read_body t) vs.1 r))).value
