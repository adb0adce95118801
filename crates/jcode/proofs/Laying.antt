-- Rows and statements that are laid out in the tables.
use Rattle.std.proofs.Common.{◌≡◌, ℕ, ◌+◌, ◌-◌, List, ◌++◌, length, ◌≤◌, IsErrAnd, Some, Ok, Err, Result, sym, ap, ◌∙◌, arith, length-append}
use Rattle.jcode.specs.declared.cursor.Cursor.{Cursor}
use Rattle.jcode.specs.declared.refusal.ReadFault.{ReadFault}
use Rattle.jcode.specs.declared.scope.Scope.{Scope as CodeScope}
use Rattle.jcode.specs.declared.span.Span.{Span}
use Rattle.jcode.specs.declared.statement.Listing.{Listing}
use Rattle.jcode.specs.declared.statement.Statement.{Statement}
use Rattle.jcode.specs.declared.statement.Statement.TheVariants as stands
use Rattle.jcode.specs.declared.statement.Term.{Term}
use Rattle.jcode.specs.declared.table.Table.{Table}
use Rattle.jcode.specs.Pieces.{got, Reader, and_then, Reads}
use Rattle.jcode.specs.Scopes.{Scope, listed_in, scope_of, listing}
use Rattle.jcode.specs.Tables.{put}
use Rattle.jcode.specs.ReadTerms.{ReadsRows, held, held_with}
use Rattle.jcode.specs.Sentences.{Sentence, Assign, rows_of, listing_of, term_at, laid}
use Rattle.jcode.specs.ReadStatements.{ReadsTerm, Lays, laid_out, read_listing, read_listed, read_expression}
use Rattle.jcode.specs.Rows.{UnitRow}
use Rattle.jcode.proofs.Chains.{off, stopped_with, made_of, refused_of}
use Rattle.jcode.proofs.Listings.{listed_is}
use Rattle.jcode.proofs.Stores.{put_append, length_put, rows_read}

module _ {r : Reader (List UnitRow)} {c d : Cursor} {t t' : Table UnitRow} where
  rows_refused : {y : ReadFault} → ReadsRows r c t (Err y) d t' → Reads r c (Err y) d
  rows_refused h = record { value = refused_of (held_with t) (r c.bytes.now c.at) h.value; same = h.same }

  pub term_read : {e : Term} → ReadsTerm r c t (Ok e) d t' → (rs : List UnitRow) × Reads r c (Ok rs) d × (e ≡ term_at t.count rs) × (held t' ≡ held_with t rs)
  term_read h =
      let m = made_of (λ rs. (term_at t.count rs, held_with t rs)) (r c.bytes.now c.at) h.value in
      (m.0, record { value = m.1; same = h.same }, ap (λ p. p.0) m.2, ap (λ p. p.1) m.2)

  pub term_unread : {y : ReadFault} → ReadsTerm r c t (Err y) d t' → Reads r c (Err y) d
  term_unread h = record { value = refused_of (λ rs. (term_at t.count rs, held_with t rs)) (r c.bytes.now c.at) h.value; same = h.same }

  -- how many rows a term has
  pub more_rows : {u : Unit {0}} → ReadsRows r c t (Ok u) d t' → t.count ≤ t'.count
  more_rows h = let m = rows_read h in omega (arith, ap (λ p. p.0) m.2)

  -- an expression is its term, told by its first row and how many rows the table has more
  pub expression_read : {u : Unit {0}} → ReadsRows r c t (Ok u) d t' → ReadsTerm r c t (Ok (record { first = t.count; rows = t'.count - t.count })) d t'
  expression_read h =
      let m = rows_read h in
      let e : t'.count - t.count ≡ length m.0 = omega (arith, ap (λ p. p.0) m.2) in
      record {
        value = (λ k. got (record { first = t.count; rows = e k }, m.2 k) d.at) ∙ ap (λ a. and_then a (λ rs j. got (term_at t.count rs, held_with t rs) j)) m.1.value;
        same = h.same;
        lent = h.lent;
      }

  pub expression_refused : {y : ReadFault} (x : Result Term ReadFault) → IsErrAnd x (λ z. z ≡ y) → ReadsRows r c t (Err y) d t' → ReadsTerm r c t x d t'
  expression_refused x e h = record { value = stopped_with x (held t') d.at e ∙ off (λ rs j. got (term_at t.count rs, held_with t rs) j) (rows_refused h).value; same = h.same; lent = h.lent }

module _ {r : Reader (Sentence Span)} {c d : Cursor} {t t' : Table UnitRow} (lent : t'.records.ghost_name ≡ t.records.ghost_name) where
  pub lays : (s : Sentence Span) {st : Statement} → Reads r c (Ok s) d → st ≡ laid t.count s → held t' ≡ held_with t (rows_of s) → Lays r c t (Ok st) d t'
  lays s h e w = record { value = (λ k. got (e k, w k) d.at) ∙ ap (laid_out t) h.value; same = h.same; lent = lent }

  -- what a `?` returns
  pub lays_refused : {y : ReadFault} (x : Result Statement ReadFault) → IsErrAnd x (λ z. z ≡ y) → Reads r c (Err y) d → Lays r c t x d t'
  lays_refused x e h = record { value = stopped_with x (held t') d.at e ∙ ap (laid_out t) h.value; same = h.same; lent = lent }

-- listed names that were recorded were read
pub listing_read : (sc : Scope) {c d : Cursor} {l : Listing} → Reads (read_listed sc) c (Ok l) d → (vs : List ℕ) × Reads (read_listing sc) c (Ok vs) d × (l ≡ listing_of vs)
listing_read sc {c} {d} h =
    let m = made_of listing_of (read_listing sc c.bytes.now c.at) h.value in
    (m.0, record { value = m.1; same = h.same }, m.2)

-- an expression in a scope, a room and after rows that are the same
pub reread : {sc sc' : Scope} {room room' used used' : ℕ} {c d : Cursor} {x : Result (List UnitRow) ReadFault} → sc ≡ sc' → room ≡ room' → used ≡ used' → Reads (read_expression sc room used) c x d → Reads (read_expression sc' room' used') c x d
reread {c = c} s r u h = record { value = h.value ∙ (λ k. read_expression (s k) (r k) (u k) c.bytes.now c.at); same = h.same }

-- the scope of NEW's expression
pub within_listing : (sc : CodeScope) (l : Listing) (vs : List ℕ) → l ≡ listing_of vs → scope_of (record { bytes = sc.bytes; variables = sc.variables; listing = Some l }) ≡ listing (scope_of sc) vs
within_listing sc l vs e = ap (λ x. record { names = (scope_of sc).names; listed = Some x }) (ap listed_in e ∙ listed_is vs)

-- what ASSIGN's two expressions leave
module _ (t t₁ : Table UnitRow) (e : List UnitRow) (first : held t₁ ≡ held_with t e) where
  pub after_shadow : t₁.count ≡ t.count + length e
  after_shadow = ap (λ p. p.0) first

  pub room_kept : length t₁.records.now ≡ length t.records.now
  room_kept = ap (λ p. length p.1) first ∙ length_put t.records.now t.count e

  pub assign_laid : (v : ℕ) (f : List UnitRow) {shadow value : Term} → shadow ≡ term_at t.count e → value ≡ term_at t₁.count f → stands.Assign v shadow value ≡ laid t.count (Assign v e f)
  assign_laid v f te tf = λ k. stands.Assign v (te k) ((tf ∙ ap (λ u. term_at u f) after_shadow) k)

  pub assign_held : (f : List UnitRow) (t₂ : Table UnitRow) → held t₂ ≡ held_with t₁ f → held t₂ ≡ held_with t (e ++ f)
  assign_held f t₂ second =
      let n : (t.count + length e) + length f ≡ t.count + length (e ++ f) = simp length-append (omega arith) in
      second ∙ ap (λ p. (p.0 + length f, put p.1 p.0 f)) first ∙ (λ k. (n k, sym (put_append t.records.now t.count e f) k))
