-- Reading gives no refusal of another layer.
use Rattle.std.proofs.Common.{◌≡◌, ℕ, zero, suc, ◌+◌, min, Bool, true, false, cond, ltb, List, [], ◌∷◌, ◌++◌, length, Some, None, Option, refl}
use Rattle.jcode.specs.declared.refusal.Refusal.TheVariants.{Limit, Table}
use Rattle.jcode.specs.declared.refusal.Layer.TheVariants.{Reading}
use Rattle.jcode.specs.Refusals.{layer_of}
use Rattle.jcode.specs.declared.span.Span.{Span}
use Rattle.jcode.specs.declared.statement_reader.Verb.{Verb}
use Rattle.jcode.specs.declared.statement_reader.Verb.TheVariants as verb
use Rattle.jcode.specs.declared.variable.Variable.{Variable}
use Rattle.jcode.specs.Pieces.{Answer, got, Reader, refuse, and_then, ◌▷◌, ◌◁◌, ◌⊗◌, ◌giving◌, repeated, passed, white, read_gap, read_end, read_may_gap}
use Rattle.jcode.specs.Scopes.{Scope, listing}
use Rattle.jcode.specs.Tables.{full_by}
use Rattle.jcode.specs.Rows.{UnitRow}
use Rattle.jcode.specs.Sentences.{Sentence, rows_all}
use Rattle.jcode.specs.ReadTerms.{read_open, read_begin, read_operands, read_term}
use Rattle.jcode.specs.ReadStatements.{read_target, read_listing, read_text_end, read_label_end, by_verb}
use Rattle.jcode.specs.ReadUnits.{opens_declaration, read_entry, read_declarations, goes_on, by_found, read_sentence, read_finish, read_statements, Tables, read_body, read_unit}
use Rattle.jcode.proofs.Fairness.{Fair, Layered, got_layered, reading, then_layered, cond_layered, missing, mark_fair, white_fair, word_fair, name_fair, close_fair, lead_fair, inside_fair, listing_fair, target_fair, text_end_fair, label_end_fair, gap_label_fair, branch_fair, finish_fair, declaration_fair, heading_fair}

fair_layered : {A : Type 0} (o : Answer A) → Fair o → Layered o
fair_layered o h = h.layered

limited : {A : Type 0} (p : ℕ) → Layered {A = A} (refuse Limit p)
limited p = reading Limit p refl

tabled : {A : Type 0} (p : ℕ) → Layered {A = A} (refuse Table p)
tabled p = reading Table p refl

filled : {A : Type 0} (size most p : ℕ) → Layered {A = A} (refuse (full_by size most) p)
filled size most p = reading (full_by size most) p (by (ltb size most))
  where
    by : (b : Bool) → layer_of (cond b Table Limit) ≡ Reading
    by true = refl
    by false = refl

-- what is told of what was read
made : {A B : Type 0} (o : Answer A) (f : A → B) → Layered o → Layered (and_then o (λ a j. got (f a) j))
made o f h = then_layered o _ h (λ a j. got_layered (f a) j)

module _ (bytes : List ℕ) where
  abbrev Layers : {A : Type 0} → Reader A → Type 0
  Layers r = (i : ℕ) → Layered (r bytes i)

  whites : (last i : ℕ) → Layered (passed i (white last bytes i))
  whites last i = (white_fair bytes i (white last bytes i)).layered

  repeat : {A : Type 0} (more : List ℕ → ℕ → Bool) (step : Bool → List A → Reader A) (done : List A → Reader (List A)) → ((is_full : Bool) (seen : List A) → Layers (step is_full seen)) → ((seen : List A) → Layers (done seen)) → (left : ℕ) (seen : List A) → Layers (repeated more step done left seen)
  repeat more step done h k zero seen i = cond_layered _ _ _ (then_layered _ _ (h true seen i) (λ _ j. got_layered seen j)) (k seen i)
  repeat more step done h k (suc left) seen i = cond_layered _ _ _ (then_layered _ _ (h false seen i) (λ a j. repeat more step done h k left (seen ++ a ∷ []) j)) (k seen i)

  module _ (sc : Scope) (room : ℕ) where
    opens : (left used : ℕ) → Layers (read_open left room used)
    opens left used i = search (then_layered, cond_layered, fair_layered, mark_fair, limited, tabled, got_layered)

    begins : (left used : ℕ) → Layers (read_begin sc left room used)
    unfolding read_begin
    begins left used i = then_layered _ _ (opens left used i) (λ _ j. (inside_fair bytes sc j).layered)

    operands : (term : ℕ → Reader (List UnitRow)) → ((used : ℕ) → Layers (term used)) → (n : ℕ) (first : Bool) (used : ℕ) → Layers (read_operands term n first used)
    operands term rec zero first used i = got_layered [] i
    operands term rec (suc n) first used i =
        then_layered _ _ (then_layered _ _ (lead_fair bytes first i).layered (λ _ j. rec used j))
        (λ rs j. made _ (λ rest. rs ++ rest) (operands term rec n false (used + length rs) j))

    terms : (k used : ℕ) → Layers (read_term sc room k used)
    terms zero used i = made _ (λ r. r ∷ []) (begins 0 used i)
    terms (suc k) used i =
        then_layered _ _ (begins (suc k) used i)
        (λ r j. then_layered _ _ (operands (read_term sc room k) (terms k) _ true (used + 1) j)
        (λ rs m. made _ (λ _. r ∷ rs) (close_fair bytes m).layered))

  -- a gap that must stand, and what follows it
  gapped : {A : Type 0} (r : Reader A) → Layers r → Layers (read_gap ▷ r)
  gapped r h i = then_layered _ _ (whites 32 i) (λ _ j. h j)

  ended : {A : Type 0} (r : Reader A) → Layers r → Layers (r ◁ read_end)
  ended r h i = then_layered _ _ (h i) (λ a j. made _ (λ _. a) (whites 10 j))

  paired : {A B : Type 0} (r : Reader A) (q : A → Reader B) → Layers r → ((a : A) → Layers (q a)) → Layers (r ⊗ q)
  paired r q h k i = then_layered _ _ (h i) (λ a j. made _ (λ b. (a, b)) (k a j))

  module _ (sc : Scope) (room used : ℕ) where
    abbrev term : Scope → ℕ → Reader (List UnitRow)
    term sc used = read_term sc room 32 used

    -- NEW past its list, and ASSIGN past its target
    abbrev condition : List ℕ → Reader (List UnitRow × Span)
    condition vs = read_may_gap ▷ (term (listing sc vs) used ⊗ λ _. read_text_end)

    conditions : (vs : List ℕ) → Layers (condition vs)
    conditions vs i = paired (term (listing sc vs) used) (λ _. read_text_end) (terms (listing sc vs) room 32 used) (λ _ j. (text_end_fair bytes j).layered) _

    abbrev value : List UnitRow → Reader (List UnitRow)
    value e = read_may_gap ▷ (term sc (used + length e) ◁ read_end)

    abbrev both : Reader (List UnitRow × List UnitRow)
    both = read_may_gap ▷ (term sc used ⊗ value)

    boths : Layers both
    boths i = paired (term sc used) value (terms sc room 32 used) (λ e j. ended (term sc (used + length e)) (terms sc room 32 (used + length e)) _) _

    verbs : (v : Verb) → Layers (by_verb sc room used v)
    verbs verb.Break i = made _ _ (text_end_fair bytes i).layered
    verbs verb.Require i = made _ _ (gapped (term sc used ⊗ λ _. read_text_end) (paired (term sc used) (λ _. read_text_end) (terms sc room 32 used) (λ _ j. (text_end_fair bytes j).layered)) i)
    verbs verb.Proclaim i = made _ _ (gapped (term sc used ◁ read_end) (ended (term sc used) (terms sc room 32 used)) i)
    verbs verb.New i = made _ _ (gapped (read_listing sc ⊗ condition) (paired (read_listing sc) condition (λ j. (listing_fair bytes sc j).layered) conditions) i)
    verbs verb.Assign i = made _ _ (gapped (read_target sc ⊗ λ _. both) (paired (read_target sc) (λ _. both) (λ j. (target_fair bytes sc j).layered) (λ _. boths)) i)
    verbs verb.Split i = made _ _ (gap_label_fair bytes i).layered
    verbs verb.When i = made _ _ (gapped (term sc used ⊗ λ _. read_label_end) (paired (term sc used) (λ _. read_label_end) (terms sc room 32 used) (λ _ j. (label_end_fair bytes j).layered)) i)
    verbs verb.Branch i = (branch_fair bytes sc room used i).layered
    verbs verb.Join i = made _ _ (gap_label_fair bytes i).layered
    verbs verb.Hang i = made _ _ (whites 10 i)

  module _ (sc : Scope) (room : ℕ) where
    founds : (size used : ℕ) (full : Bool) (at : ℕ) (o : Option Verb) → Layers (by_found sc room used (full_by size 200) full at o)
    founds size used full at None i = (missing at).layered
    founds size used full at (Some v) i = cond_layered _ _ _ (filled size 200 at) (verbs sc room used v i)

    sentences : (size : ℕ) (full : Bool) (used : ℕ) → Layers (read_sentence sc room (full_by size 200) full used)
    unfolding read_sentence
    sentences size full used i = then_layered _ _ (word_fair bytes i).layered (λ s j. founds size used full i _ j)

    statements : (size left : ℕ) (seen : List (Sentence Span)) → Layers (read_statements sc room size left seen)
    statements size =
        repeat goes_on (λ full seen. read_sentence sc room (full_by size 200) full (length (rows_all seen))) (λ seen. read_finish giving (λ _. seen))
        (λ full seen. sentences size full (length (rows_all seen))) (λ seen i. made _ (λ _. seen) (finish_fair bytes i).layered)

  entries : (size : ℕ) (full : Bool) (seen : List Variable) → Layers (read_entry (full_by size 32) full seen)
  unfolding read_entry
  entries size full seen i =
      cond_layered _ _ _ (then_layered _ _ (name_fair bytes i).layered (λ s j. filled size 32 i)) (declaration_fair bytes seen i).layered

  declarations : (size left : ℕ) (seen : List Variable) → Layers (read_declarations size left seen)
  declarations size = repeat opens_declaration (read_entry (full_by size 32)) (λ seen bytes at. got seen at) (entries size) (λ seen i. got_layered seen i)

  bodies : (t : Tables) (vs : List Variable) → Layers (read_body t vs)
  bodies t vs = statements _ (length t.rows) (length t.statements) (min (length t.statements) 200) []

  pub unit_layered : (t : Tables) → Layers (read_unit t)
  unit_layered t i =
      made _ _ (then_layered _ _ (heading_fair bytes i).layered
      (λ name j. made _ (λ p. (name, p)) (then_layered _ _ (declarations (length t.variables) _ [] j)
      (λ vs k. made _ (λ ss. (vs, ss)) (bodies t vs k)))))
