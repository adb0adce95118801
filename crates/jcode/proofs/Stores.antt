-- Terms read into the row table, step by step.
use Rattle.std.proofs.Common.{◌≡◌, ℕ, zero, suc, ◌+◌, ◌-◌, ◌<◌, true, false, eqb, List, [], ◌∷◌, ◌++◌, length, set, Ok, Err, Result, sym, refl, ap, ◌∙◌, arith, length-append, length-set}
use Rattle.std.proofs.lemmas.Bool.{ne_eqb}
use Rattle.jcode.specs.declared.refusal.ReadFault.{ReadFault}
use Rattle.jcode.specs.declared.cursor.Cursor.{Cursor}
use Rattle.jcode.specs.declared.table.Table.{Table}
use Rattle.jcode.specs.Pieces.{Answer, got, refused, Reader, and_then, Reads}
use Rattle.jcode.specs.Scopes.{Scope}
use Rattle.jcode.specs.Tables.{put}
use Rattle.jcode.proofs.Chains.{on, off, read_in, refused_in, told_in, leaves_of, made_of}
use Rattle.jcode.specs.ReadTerms.{ReadsRows, stored, held, held_with, leaves, read_lead, read_operands, read_begin, read_close, read_term}
use Rattle.jcode.specs.Rows.{UnitRow, operands_after}

-- records one after another
pub put_append : {X : Type 0} (xs : List X) (i : ℕ) (ys zs : List X) → put xs i (ys ++ zs) ≡ put (put xs i ys) (i + length ys) zs
put_append xs i [] zs = let e : i ≡ i + 0 = omega arith in ap (λ k. put xs k zs) e
put_append xs i (y ∷ ys) zs =
    let e : (i + 1) + length ys ≡ i + suc (length ys) = omega arith in
    put_append (set xs i y) (i + 1) ys zs ∙ ap (λ k. put (put (set xs i y) (i + 1) ys) k zs) e

pub length_put : {X : Type 0} (xs : List X) (i : ℕ) (ys : List X) → length (put xs i ys) ≡ length xs
length_put xs i [] = refl
length_put xs i (y ∷ ys) = length_put (set xs i y) (i + 1) ys ∙ length-set xs i y

module _ (rows : List UnitRow) (used : ℕ) where
  -- what stands after rows that are read
  rest_stored : (rs : List UnitRow) (A : Answer (List UnitRow)) → stored rows used (and_then A (λ rest j. got (rs ++ rest) j)) ≡ stored (put rows used rs) (used + length rs) A
  rest_stored rs (got rest j) =
      let e : used + length (rs ++ rest) ≡ (used + length rs) + length rest = simp length-append (omega arith) in
      λ k. got (e k, put_append rows used rs rest k) j
  rest_stored rs (refused f) = refl

  after_stored : (A : Answer (List UnitRow)) (R : ℕ → ℕ → Answer (List UnitRow)) → stored rows used (and_then A (λ rs i. and_then (R (used + length rs) i) (λ rest j. got (rs ++ rest) j))) ≡ and_then (stored rows used A) (λ p j. stored p.1 p.0 (R p.0 j))
  after_stored (got rs i) R = rest_stored rs (R (used + length rs) i)
  after_stored (refused f) R = refl

  led_stored : (L : Answer (Unit {0})) (T : ℕ → Answer (List UnitRow)) (R : ℕ → ℕ → Answer (List UnitRow)) → stored rows used (and_then (and_then L (λ _ i. T i)) (λ rs i. and_then (R (used + length rs) i) (λ rest j. got (rs ++ rest) j))) ≡ and_then L (λ _ i. and_then (stored rows used (T i)) (λ p j. stored p.1 p.0 (R p.0 j)))
  led_stored (got u i) T R = after_stored (T i) R
  led_stored (refused f) T R = refl

  -- a row, its operands and the closing bracket
  whole_stored : (r : UnitRow) (P : Answer (List UnitRow)) (C : ℕ → Answer (Unit {0})) → stored rows used (and_then P (λ rs j. and_then (C j) (λ _ k. got (r ∷ rs) k))) ≡ and_then (stored (set rows used r) (used + 1) P) (λ p j. and_then (C j) (λ _ k. got p k))
  whole_stored r (got rs i) C = closed (C i)
    where
      closed : (B : Answer (Unit {0})) → stored rows used (and_then B (λ _ j. got (r ∷ rs) j)) ≡ and_then B (λ _ j. got ((used + 1) + length rs, put (set rows used r) (used + 1) rs) j)
      closed (got u j) = let e : used + suc (length rs) ≡ (used + 1) + length rs = omega arith in ap (λ n. got (n, put (set rows used r) (used + 1) rs) j) e
      closed (refused f) = refl
  whole_stored r (refused f) C = refl

  begun_stored : (B : Answer UnitRow) (P : UnitRow → ℕ → Answer (List UnitRow)) (C : ℕ → Answer (Unit {0})) → stored rows used (and_then B (λ r i. and_then (P r i) (λ rs j. and_then (C j) (λ _ k. got (r ∷ rs) k)))) ≡ and_then B (λ r i. and_then (stored (set rows used r) (used + 1) (P r i)) (λ p j. and_then (C j) (λ _ k. got p k)))
  begun_stored (got r i) P C = whole_stored r (P r i) C
  begun_stored (refused f) P C = refl

-- a term whose beginning was read and whose row stands in the table
module _ (sc : Scope) (left count : ℕ) (t₀ t₁ : Table UnitRow) (c₀ c₁ : Cursor) (row : UnitRow) (begun : Reads (read_begin sc left (length t₀.records.now) t₀.count) c₀ (Ok row) c₁) (some : 0 < left) (counted : count ≡ operands_after row) (pushed : t₁.records.now ≡ set t₀.records.now t₀.count row) (one : t₁.count ≡ t₀.count + 1) where
  abbrev rows : List UnitRow
  rows = t₀.records.now

  abbrev used : ℕ
  used = t₀.count

  abbrev goal : Answer (ℕ × List UnitRow)
  goal = stored rows used (read_term sc (length rows) left used c₀.bytes.now c₀.at)

  abbrev closing : ℕ × List UnitRow → ℕ → Answer (ℕ × List UnitRow)
  closing p j = and_then (read_close c₀.bytes.now j) (λ _ k. got p k)

  abbrev operands : ℕ → Answer (ℕ × List UnitRow)
  operands i = stored (set rows used row) (used + 1) (read_operands (read_term sc (length (set rows used row)) (left - 1)) count true (used + 1) c₁.bytes.now i)

  steps : and_then (operands c₁.at) closing ≡ goal
  steps =
      (λ k. and_then (stored (set rows used row) (used + 1) (read_operands (read_term sc (length-set rows used row k) (left - 1)) (counted k) true (used + 1) (begun.same k) c₁.at)) closing)
      ∙ ap (λ a. and_then a (λ r i. and_then (stored (set rows used r) (used + 1) (read_operands (read_term sc (length rows) (left - 1)) (operands_after r) true (used + 1) c₀.bytes.now i)) closing)) begun.value
      ∙ whole left some
    where
      whole : (left : ℕ) → 0 < left → and_then (read_begin sc left (length rows) used c₀.bytes.now c₀.at) (λ r i. and_then (stored (set rows used r) (used + 1) (read_operands (read_term sc (length rows) (left - 1)) (operands_after r) true (used + 1) c₀.bytes.now i)) closing) ≡ stored rows used (read_term sc (length rows) left used c₀.bytes.now c₀.at)
      whole zero h = absurd (omega arith)
      whole (suc k) h =
          let e : suc k - 1 ≡ k = omega arith in
          ap (λ n. and_then (read_begin sc (suc k) (length rows) used c₀.bytes.now c₀.at) (λ r i. and_then (stored (set rows used r) (used + 1) (read_operands (read_term sc (length rows) n) (operands_after r) true (used + 1) c₀.bytes.now i)) closing)) e
          ∙ sym (begun_stored rows used (read_begin sc (suc k) (length rows) used c₀.bytes.now c₀.at) (λ r i. read_operands (read_term sc (length rows) k) (operands_after r) true (used + 1) c₀.bytes.now i) (read_close c₀.bytes.now))

  module _ (c₂ : Cursor) (t₂ : Table UnitRow) where
    abbrev Operands : Result (Unit {0}) ReadFault → Type 0
    Operands r = ReadsRows (read_operands (read_term sc (length t₁.records.now) (left - 1)) count true t₁.count) c₁ t₁ r c₂ t₂

    operands_read : {r : Result (Unit {0}) ReadFault} → Operands r → leaves r (held t₂) c₂.at ≡ operands c₁.at
    operands_read h = h.value ∙ (λ k. stored (pushed k) (one k) (read_operands (read_term sc (length (pushed k)) (left - 1)) count true (one k) c₁.bytes.now c₁.at))

    pub operands_refused : {y : ReadFault} → Operands (Err y) → refused y ≡ goal
    operands_refused h = off closing (operands_read h) ∙ steps

    pub closed : {u : Unit {0}} → Operands (Ok u) → (c₃ : Cursor) (x : Result (Unit {0}) ReadFault) → Reads read_close c₂ x c₃ → leaves x (held t₂) c₃.at ≡ goal
    closed h c₃ x k = on closing (operands_read h) (leaves_of x (held t₂) c₃.at ∙ ap (λ a. and_then a (λ _ j. got (held t₂) j)) (told_in (h.same ∙ begun.same) k)) ∙ steps

-- where a term does not begin
pub term_refused : (sc : Scope) (room left used : ℕ) (rows : List UnitRow) (bytes : List ℕ) (at : ℕ) (f : ReadFault) → refused f ≡ read_begin sc left room used bytes at → refused f ≡ stored rows used (read_term sc room left used bytes at)
term_refused sc room zero used rows bytes at f h = ap (λ a. stored rows used (and_then a (λ r i. got (r ∷ []) i))) h
term_refused sc room (suc k) used rows bytes at f h = ap (λ a. stored rows used (and_then a (λ r i. and_then (read_operands (read_term sc room k) (operands_after r) true (used + 1) bytes i) (λ rs j. and_then (read_close bytes j) (λ _ k. got (r ∷ rs) k))))) h

-- rows that were stored were read
pub rows_read : {r : Reader (List UnitRow)} {c d : Cursor} {t t' : Table UnitRow} {u : Unit {0}} → ReadsRows r c t (Ok u) d t' → (rs : List UnitRow) × Reads r c (Ok rs) d × (held t' ≡ held_with t rs)
rows_read {r} {c} {t = t} h =
    let m = made_of (held_with t) (r c.bytes.now c.at) h.value in
    (m.0, record { value = m.1; same = h.same }, m.2)

pub length_kept : {r : Reader (List UnitRow)} {c d : Cursor} {t t' : Table UnitRow} {u : Unit {0}} → ReadsRows r c t (Ok u) d t' → length t'.records.now ≡ length t.records.now
length_kept {t = t} h = let m = rows_read h in ap (λ p. length p.1) m.2 ∙ length_put t.records.now t.count m.0

-- one operand more, where i of them are read
module _ (sc : Scope) (left room count i : ℕ) (t : Table UnitRow) (bytes : List ℕ) (c₁ : Cursor) (lengths : length t.records.now ≡ room) (more : i < count) (same : c₁.bytes.now ≡ bytes) where
  abbrev left_over : ℕ × List UnitRow → ℕ → Answer (ℕ × List UnitRow)
  left_over p j = stored p.1 p.0 (read_operands (read_term sc room left) (count - (i + 1)) (eqb (i + 1) 0) p.0 bytes j)

  abbrev whole : Answer (ℕ × List UnitRow)
  whole = stored t.records.now t.count (read_operands (read_term sc room left) (count - i) (eqb i 0) t.count bytes c₁.at)

  one_more : and_then (read_lead (eqb i 0) bytes c₁.at) (λ _ k. and_then (stored t.records.now t.count (read_term sc room left t.count bytes k)) left_over) ≡ whole
  one_more =
      let e : suc (count - (i + 1)) ≡ count - i = omega arith in
      let n : eqb (i + 1) 0 ≡ false = ne_eqb (i + 1) 0 (λ z. omega arith) in
      ap (λ b. and_then (read_lead (eqb i 0) bytes c₁.at) (λ _ k. and_then (stored t.records.now t.count (read_term sc room left t.count bytes k)) (λ p j. stored p.1 p.0 (read_operands (read_term sc room left) (count - (i + 1)) b p.0 bytes j)))) n
      ∙ sym (led_stored t.records.now t.count (read_lead (eqb i 0) bytes c₁.at) (read_term sc room left t.count bytes) (λ u j. read_operands (read_term sc room left) (count - (i + 1)) false u bytes j))
      ∙ ap (λ n. stored t.records.now t.count (read_operands (read_term sc room left) n (eqb i 0) t.count bytes c₁.at)) e

  pub lead_refused : {c₂ : Cursor} {y : ReadFault} → Reads (read_lead (eqb i 0)) c₁ (Err y) c₂ → refused y ≡ whole
  lead_refused h = off (λ _ k. and_then (stored t.records.now t.count (read_term sc room left t.count bytes k)) left_over) (refused_in same h) ∙ one_more

  module _ (c₂ c₃ : Cursor) {u : Unit {0}} (t' : Table UnitRow) (led : Reads (read_lead (eqb i 0)) c₁ (Ok u) c₂) where
    abbrev OneTerm : Result (Unit {0}) ReadFault → Type 0
    OneTerm r = ReadsRows (read_term sc (length t.records.now) left t.count) c₂ t r c₃ t'

    in_room : stored t.records.now t.count (read_term sc (length t.records.now) left t.count c₂.bytes.now c₂.at) ≡ stored t.records.now t.count (read_term sc room left t.count bytes c₂.at)
    in_room = λ k. stored t.records.now t.count (read_term sc (lengths k) left t.count ((led.same ∙ same) k) c₂.at)

    pub operand_refused : {y : ReadFault} → OneTerm (Err y) → refused y ≡ whole
    operand_refused h = on (λ _ k. and_then (stored t.records.now t.count (read_term sc room left t.count bytes k)) left_over) (read_in same led) (off left_over (h.value ∙ in_room)) ∙ one_more

    pub operand_read : {v : Unit {0}} → OneTerm (Ok v) → left_over (held t') c₃.at ≡ whole
    operand_read h = on (λ _ k. and_then (stored t.records.now t.count (read_term sc room left t.count bytes k)) left_over) (read_in same led) (on left_over (h.value ∙ in_room) refl) ∙ one_more
