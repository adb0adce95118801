-- Declarations, one more at a time.
use Rattle.std.proofs.Common.{◌≡◌, ℕ, ◌+◌, ◌-◌, ◌<◌, ◌≤◌, min, Bool, true, false, leb, List, length, take, set, Ok, Err, Result, ◌∙◌, arith}
use Rattle.std.proofs.lemmas.List.{length-take}
use Rattle.jcode.specs.declared.cursor.Cursor.{Cursor}
use Rattle.jcode.specs.declared.refusal.ReadFault.{ReadFault}
use Rattle.jcode.specs.declared.table.Table.{Table}
use Rattle.jcode.specs.declared.variable.Variable.{Variable}
use Rattle.jcode.specs.Pieces.{Answer, got, refused, Reader, and_then, Reads}
use Rattle.jcode.specs.Tables.{put, full_by}
use Rattle.jcode.specs.ReadTerms.{held}
use Rattle.jcode.specs.ReadUnits.{opens_declaration, read_entry, read_declarations}
use Rattle.jcode.proofs.Chains.{on, read_in, refused_in}
use Rattle.jcode.proofs.Repeats.{step_refused, step_read, all_done}
use Rattle.jcode.proofs.Fillings.{seen_push}

module _ (table : List Variable) (t : Table Variable) (bytes : List ℕ) (whole : Answer (List Variable)) (c : Cursor) (lengths : length t.records.now ≡ length table) (same : c.bytes.now ≡ bytes) (goal : read_declarations (length table) (min (length table) 32 - t.count) (take t.count t.records.now) bytes c.at ≡ whole) where
  abbrev step : Bool → List Variable → Reader Variable
  step = read_entry (full_by (length table) 32)

  abbrev done : List Variable → Reader (List Variable)
  done seen bytes at = got seen at

  abbrev seen : List Variable
  seen = take t.count t.records.now

  module _ (more : opens_declaration bytes c.at ≡ true) (d : Cursor) where
    abbrev Entered : Result Variable ReadFault → Type 0
    Entered x = Reads (read_entry (full_by (length t.records.now) 32) (leb (min (length t.records.now) 32) t.count) seen) c x d

    entered : {x : Result Variable ReadFault} → Entered x → Reads (step (leb (min (length table) 32) t.count) seen) c x d
    entered h = record { value = h.value ∙ (λ k. read_entry (full_by (lengths k) 32) (leb (min (lengths k) 32) t.count) seen c.bytes.now c.at); same = h.same }

    pub entry_refused : {y : ReadFault} → Entered (Err y) → refused y ≡ whole
    entry_refused h = step_refused opens_declaration step done (min (length table) 32) t.count seen bytes c.at whole goal more (refused_in same (entered h))

    pub entry_read : (t' : Table Variable) (v : Variable) → t'.records.now ≡ set t.records.now t.count v → t'.count ≡ t.count + 1 → t.count < min (length table) 32 → Entered (Ok v) → read_declarations (length table) (min (length table) 32 - t'.count) (take t'.count t'.records.now) bytes d.at ≡ whole
    entry_read t' v pushed one h k =
        (λ i. read_declarations (length table) (min (length table) 32 - one i) (seen_push table t t' v (omega arith) pushed one i) bytes d.at)
        ∙ step_read opens_declaration step done (min (length table) 32) t.count seen bytes c.at whole goal more h v d.at (read_in same (entered k))

  -- as many are told as are filled
  pub declared_all : opens_declaration bytes c.at ≡ false → t.records.now ≡ put table 0 seen → ◌≡◌ {A = Answer (ℕ × List Variable)} (got (held t) c.at) (and_then whole (λ xs j. got (length xs, put table 0 xs) j))
  declared_all none e =
      let h : t.count ≤ length t.records.now = t.within in
      let n : t.count ≡ length seen = omega (arith, length-take t.count t.records.now) in
      on (λ xs j. got (length xs, put table 0 xs) j) (all_done opens_declaration step done (min (length table) 32) t.count seen bytes c.at whole goal none) (λ k. got (n k, e k) c.at)
