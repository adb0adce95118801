-- Tables are blamed only where what was read has outgrown them.
use Rattle.std.proofs.Common.{◌≡◌, ℕ, zero, suc, ◌+◌, ◌-◌, ◌<◌, ◌≤◌, min, Bool, true, false, cond, leb, ltb, eqb, ◌⊎◌, List, [], ◌∷◌, ◌++◌, map, length, Some, None, Option, sym, refl, ap, ◌∙◌, subst, inl, inr, ⊎_elim, arith}
use Rattle.std.specs.Prelude.{codes}
use Rattle.std.specs.List.{IsDistinct}
use Rattle.std.proofs.lemmas.Bool.{ltb-true, leb-true, leb-false}
use Rattle.std.proofs.lemmas.List.{length-append}
use Rattle.terms.specs.Words.{same_word}
use Rattle.jcode.specs.declared.refusal.ReadFault.{ReadFault}
use Rattle.jcode.specs.declared.refusal.Refusal.{Refusal}
use Rattle.jcode.specs.declared.refusal.Refusal.TheVariants.{Limit, Table}
use Rattle.jcode.specs.declared.span.Span.{Span}
use Rattle.jcode.specs.declared.statement_reader.Verb.{Verb}
use Rattle.jcode.specs.declared.statement_reader.Verb.TheVariants as verb
use Rattle.jcode.specs.declared.variable.Variable.{Variable}
use Rattle.jcode.specs.Bytes.{name_byte, slice}
use Rattle.jcode.specs.Language.{Language, ◌⊙◌, Many, Just, Gap, MayGap, Spelt}
use Rattle.jcode.specs.Spelling.{Sizes, Variable as Mentioned, Leader, Bracketed, Listing, Term, Lead, Declares, Declarations, Heading, Says, scope_with}
use Rattle.jcode.specs.Pieces.{Answer, got, refused, Reader, refuse, and_then, ◌▷◌, ◌◁◌, ◌⊗◌, white, read_gap, read_end, past_gap, read_may_gap, read_word, short, read_name}
use Rattle.jcode.specs.Scopes.{Scope, listing}
use Rattle.jcode.specs.Tables.{full_by}
use Rattle.jcode.specs.ReadTerms.{read_row, read_open, read_begin, read_close, read_lead, read_operands, read_term}
use Rattle.jcode.specs.ReadStatements.{read_target, read_listing, read_text_end, read_label_end, read_gap_label, by_verb}
use Rattle.jcode.specs.ReadUnits.{goes_on, colon_after, opens_declaration, read_entry, read_declarations, by_found, read_sentence, read_finish, read_statements, Tables, read_heading, read_body, read_rest, located, read_unit}
use Rattle.jcode.specs.Sentences.{Sentence, Hang, Break, Require, Proclaim, New, Assign, Split, When, Join, rows_of, verb_word, verbs, verb_of, rows_all}
use Rattle.jcode.specs.Units.{Declared, declared_in, retold}
use Rattle.jcode.proofs.Outcomes.{refused_got, then_got, unless_got}
use Rattle.jcode.proofs.Places.{byte, joins, spelt_as, spelt_none}
use Rattle.jcode.proofs.Grouping.{regroup, under, regroup3}
use Rattle.jcode.proofs.Terms.{lead_agrees, begin_agrees, term_agrees}
use Rattle.jcode.proofs.Fronts.{passes_byte, front_stops}
use Rattle.jcode.proofs.Marks.{gap_agrees, may_gap_agrees, mark_agrees}
use Rattle.jcode.proofs.Words.{word_is, word_agrees, name_agrees}
use Rattle.jcode.proofs.Numbers.{byte_spelt}
use Rattle.jcode.proofs.Rows.{first_is}
use Rattle.jcode.proofs.Statements.{rows_push}
use Rattle.jcode.proofs.Saying.{rows_told, sentence_agrees}
use Rattle.jcode.proofs.Declaring.{entry_agrees, declarations_agree}
use Rattle.jcode.proofs.Whole.{scope_is, heading_within, heading_agrees}
use Rattle.jcode.proofs.Lists.{listing_agrees, Target, target_agrees}
use Rattle.jcode.proofs.Fairness.{Fair, got_fair, then_fair, missing, limit, mark_fair, white_fair, lead_fair, inside_fair, close_fair, listing_fair, target_fair, text_end_fair, label_end_fair, gap_label_fair, branch_fair, word_fair, name_fair, finish_fair, declaration_fair, heading_fair}
use Rattle.jcode.specs.Outgrown.{Front, OperandsPartway, Partway, Interrupted, in_require, in_proclaim, in_new, in_shadow, in_value, in_when, Begins, Opening, OpensStatement, IsOutgrown, by_variables, by_statements, by_rows}
use Rattle.jcode.specs.Notation.{sizes_of}
use Rattle.jcode.specs.Rows.{UnitRow, operands_after}

-- a refusal of the tables comes from the first reading or from what follows it
then_refused : {A B : Type 0} (o : Answer A) (f : A → ℕ → Answer B) {place : ℕ} → and_then o f ≡ refuse Table place → (o ≡ refuse Table place) ⊎ ((a : A) × (j : ℕ) × (o ≡ got a j) × (f a j ≡ refuse Table place))
then_refused (got a j) f e = inr (a, j, refl, e)
then_refused (refused y) f {place = place} e = let same : y ≡ record { refusal = Table; place = place } = cc in inl (ap refused same)

either_refused : {A : Type 0} (t : Bool) (x y : Answer A) {z : Answer A} → cond t x y ≡ z → ((t ≡ true) × (x ≡ z)) ⊎ ((t ≡ false) × (y ≡ z))
either_refused true x y e = inl (refl, e)
either_refused false x y e = inr (refl, e)

got_refused : {A : Type 0} {a : A} {j place : ℕ} → got a j ≡ refuse Table place → ⊥
got_refused e = refused_got (sym e)

refused_where : {A : Type 0} {r : Refusal} {p q : ℕ} → refuse {A = A} r p ≡ refuse r q → p ≡ q
refused_where {r = r} {p = p} {q = q} e =
    let same : ◌≡◌ {A = ReadFault} (record { refusal = r; place = p }) (record { refusal = r; place = q }) = cc in
    ap (λ f. f.place) same

-- what follows a reading that blames no table
past : {A B : Type 0} {o : Answer A} (f : A → ℕ → Answer B) {place : ℕ} → Fair o → and_then o f ≡ refuse Table place → (a : A) × (j : ℕ) × (o ≡ got a j) × (f a j ≡ refuse Table place)
past {o = o} f {place = place} h e = ⊎_elim (λ t. absurd (h.fair place t)) (λ t. t) (then_refused o f e)

-- a reading of which only the first part can blame the tables
first_of : {A B : Type 0} (o : Answer A) (f : A → ℕ → Answer B) {place : ℕ} → ((a : A) (j : ℕ) → Fair (f a j)) → and_then o f ≡ refuse Table place → o ≡ refuse Table place
first_of o f h e = ⊎_elim (λ t. t) (λ t. absurd ((h t.0 t.1).fair _ t.3)) (then_refused o f e)

module _ (tables : Sizes) (bytes : List ℕ) where
  -- part of a language, with the rows in it, that fills the row table
  pub record Fills (L : ℕ → Language) (used i place : ℕ) : Type 0 where
    pub rows : ℕ
    pub spelt : Spelt (L rows) bytes i place
    pub full : used ≤ tables.rows → used + rows ≡ tables.rows
    pub few : used + rows < 2000
    pub opens : Begins (Just (codes "(")) bytes place

  -- after a piece, as part of another language
  filled_as : {L K : ℕ → Language} {P : Language} {used i k place : ℕ} → Spelt P bytes i k → (h : Fills L used k place) → ((w : List ℕ) → (P ⊙ L h.rows) w → K h.rows w) → Fills K used i place
  filled_as s h f = record { rows = h.rows; spelt = spelt_as f (joins s h.spelt); full = h.full; few = h.few; opens = h.opens }

  -- what stands ahead of an expression that fills the row table
  after_gap : {A B : Type 0} (r : Reader A) (f : A → B) {i place : ℕ} → i ≤ length bytes → and_then ((read_gap ▷ r) bytes i) (λ a j. got (f a) j) ≡ refuse Table place → (j : ℕ) × Spelt Gap bytes i j × (r bytes j ≡ refuse Table place)
  after_gap r f {i = i} l e =
      let o = first_of ((read_gap ▷ r) bytes i) (λ a j. got (f a) j) (λ a. got_fair (f a)) e in
      let t = past (λ _ j. r bytes j) (white_fair bytes i (white 32 bytes i)) o in
      (t.1, ((gap_agrees {tables = tables}).sound i t.0 t.1 l t.2).spelt, t.3)

  after_may_gap : {A : Type 0} (r : Reader A) {i place : ℕ} → i ≤ length bytes → (read_may_gap ▷ r) bytes i ≡ refuse Table place → (j : ℕ) × Spelt MayGap bytes i j × (r bytes j ≡ refuse Table place)
  after_may_gap r {i = i} l e =
      let t = past (λ _ j. r bytes j) (got_fair tt _) e in
      (t.1, ((may_gap_agrees {tables = tables}).sound i t.0 t.1 l t.2).spelt, t.3)

  paired : {A B : Type 0} (r : Reader A) (q : A → Reader B) {i place : ℕ} → ((a : A) (j : ℕ) → Fair (q a bytes j)) → (r ⊗ q) bytes i ≡ refuse Table place → r bytes i ≡ refuse Table place
  paired r q {i = i} h e = first_of (r bytes i) (λ a j. and_then (q a bytes j) (λ b k. got (a, b) k)) (λ a j. then_fair (q a bytes j) (λ b k. got (a, b) k) (h a j) (λ b. got_fair (a, b))) e

  ended : {A : Type 0} (r : Reader A) {i place : ℕ} → (r ◁ read_end) bytes i ≡ refuse Table place → r bytes i ≡ refuse Table place
  ended r {i = i} e = first_of (r bytes i) (λ a j. and_then (read_end bytes j) (λ _ k. got a k)) (λ a j. then_fair (read_end bytes j) (λ _ k. got a k) (white_fair bytes j (white 10 bytes j)) (λ _. got_fair a)) e

  module _ (sc : Scope) (once : IsDistinct same_word sc.names) where
    abbrev Terms : ℕ → Type 0
    Terms k = (used i place : ℕ) → i ≤ length bytes → read_term sc tables.rows k used bytes i ≡ refuse Table place → Fills (Partway sc k) used i place

    abbrev term : ℕ → ℕ → Reader (List UnitRow)
    term k = read_term sc tables.rows k

    operand_first : (k m : ℕ) (first : Bool) (used : ℕ) (rs : List UnitRow) {i j n place : ℕ} → length rs ≤ tables.rows - used → Spelt (Lead first) bytes i j → Spelt (Term sc k rs) bytes j n → Fills (OperandsPartway (Term sc k) (Partway sc k) m false) (used + length rs) n place → Fills (OperandsPartway (Term sc k) (Partway sc k) (suc m) first) used i place
    operand_first k m first used rs fits s r f =
        let few = f.few in
        record { rows = length rs + f.rows; spelt = spelt_as (λ w h. inr (rs, f.rows, refl, h)) (joins s (joins r f.spelt)); full = λ h. omega (arith, f.full (omega arith)); few = omega arith; opens = f.opens }

    row_first : (k used : ℕ) (r : UnitRow) {i j place : ℕ} → used < tables.rows → Spelt (Just (codes "(") ⊙ MayGap ⊙ Leader sc r) bytes i j → Fills (OperandsPartway (Term sc k) (Partway sc k) (operands_after r) true) (used + 1) j place → Fills (Partway sc (suc k)) used i place
    row_first k used r fits s f =
        let few = f.few in
        record { rows = f.rows + 1; spelt = spelt_as (λ w h. inr (r, f.rows, refl, regroup3 w h)) (joins s f.spelt); full = λ h. omega (arith, f.full (omega arith)); few = omega arith; opens = f.opens }

    operands_fill : (k : ℕ) → Terms k → (m : ℕ) (first : Bool) (used i place : ℕ) → i ≤ length bytes → read_operands (term k) m first used bytes i ≡ refuse Table place → Fills (OperandsPartway (Term sc k) (Partway sc k) m first) used i place
    operands_fill k rec zero first used i place l e = absurd (got_refused e)
    operands_fill k rec (suc m) first used i place l e =
        ⊎_elim
        (λ t.
        let a = past (λ _ j. term k used bytes j) (lead_fair bytes first i) t in
        let s = ((lead_agrees {tables = tables} first).sound i a.0 a.1 l a.2).spelt in
        filled_as s (rec used a.1 place s.within a.3) (λ w h. inl h))
        (λ t.
        let a = then_got (read_lead first bytes i) (λ _ j. term k used bytes j) t.2 in
        let s = ((lead_agrees {tables = tables} first).sound i a.0 a.1 l a.2).spelt in
        let r = (term_agrees tables bytes sc once k used).sound a.1 t.0 t.1 s.within a.3 in
        let more = first_of (read_operands (term k) m false (used + length t.0) bytes t.1) (λ rest j. got (t.0 ++ rest) j) (λ rest. got_fair (t.0 ++ rest)) t.3 in
        operand_first k m first used t.0 r.fits s r.spelt (operands_fill k rec m false (used + length t.0) t.1 place r.spelt.within more))
        (then_refused ((read_lead first ▷ term k used) bytes i) _ e)

    begin_fills : (k used i place : ℕ) → i ≤ length bytes → read_begin sc (suc k) tables.rows used bytes i ≡ refuse Table place → (place ≡ i) × (tables.rows ≤ used) × (used < 2000) × Begins (Just (codes "(")) bytes i
    unfolding read_begin
    begin_fills k used i place l e =
        let o = first_of (read_open (suc k) tables.rows used bytes i) (λ _ j. (read_may_gap ▷ read_row sc) bytes j) (λ _. inside_fair bytes sc) e in
        let m = past (λ _ j. cond (eqb (suc k) 0) (refuse Limit i) (cond (leb 2000 used) (refuse Limit i) (cond (leb tables.rows used) (refuse Table i) (got tt j)))) (mark_fair bytes (codes "(") i) o in
        let b = limits (eqb (suc k) 0) (leb 2000 used) refl (leb tables.rows used) refl m.1 m.3 in
        (b.0, b.1, b.2, (m.1, ((mark_agrees {tables = tables} (codes "(")).sound i m.0 m.1 l m.2).spelt))
      where
        limits : (a : Bool) (b : Bool) → leb 2000 used ≡ b → (c : Bool) → leb tables.rows used ≡ c → (j : ℕ) → cond {A = Answer (Unit {0})} a (refuse Limit i) (cond b (refuse Limit i) (cond c (refuse Table i) (got tt j))) ≡ refuse Table place → (place ≡ i) × (tables.rows ≤ used) × (used < 2000)
        limits true b p c q j e = absurd ((limit i).fair place e)
        limits false true p c q j e = absurd ((limit i).fair place e)
        limits false false p true q j e = (sym (refused_where e), leb-true tables.rows used q, leb-false 2000 used p)
        limits false false p false q j e = absurd (got_refused e)

    term_fills : (k : ℕ) → Terms k
    unfolding read_begin
    term_fills zero used i place l e =
        let b = first_of (read_begin sc 0 tables.rows used bytes i) (λ r j. got (r ∷ []) j) (λ r. got_fair (r ∷ [])) e in
        let o = first_of (read_open 0 tables.rows used bytes i) (λ _ j. (read_may_gap ▷ read_row sc) bytes j) (λ _. inside_fair bytes sc) b in
        let m = past (λ _ j. refuse Limit i) (mark_fair bytes (codes "(") i) o in
        absurd ((limit i).fair place m.3)
    term_fills (suc k) used i place l e =
        ⊎_elim
        (λ t.
        let b = begin_fills k used i place l t in
        let full = b.1 in
        let few = b.2 in
        record { rows = 0; spelt = subst (λ j. Spelt (Partway sc (suc k) 0) bytes i j) (sym b.0) (spelt_none (Partway sc (suc k) 0) i l (inl (refl, refl))); full = λ h. omega arith; few = omega arith; opens = subst (Begins (Just (codes "(")) bytes) (sym b.0) b.3 })
        (λ t.
        let s = (begin_agrees tables bytes sc once k used).sound i t.0 t.1 l t.2 in
        let o = first_of (read_operands (term k) (operands_after t.0) true (used + 1) bytes t.1) _ (λ rs j. closed t.0 rs j) t.3 in
        row_first k used t.0 s.fits s.spelt (operands_fill k (term_fills k) (operands_after t.0) true (used + 1) t.1 place s.spelt.within o))
        (then_refused (read_begin sc (suc k) tables.rows used bytes i) _ e)
      where
        closed : (r : UnitRow) (rs : List UnitRow) (j : ℕ) → Fair (and_then (read_close bytes j) (λ _ m. got (r ∷ rs) m))
        closed r rs j = then_fair (read_close bytes j) (λ _ m. got (r ∷ rs) m) (close_fair bytes j) (λ _. got_fair (r ∷ rs))

  module _ (sc : Scope) (once : IsDistinct same_word sc.names) (used : ℕ) where
    abbrev Word : List ℕ → ℕ → ℕ → Type 0
    Word w h i = Spelt (Just w) bytes h i

    expression_fills : (sc : Scope) → IsDistinct same_word sc.names → (used : ℕ) {P : Language} {i j place : ℕ} → Spelt P bytes i j → read_term sc tables.rows 32 used bytes j ≡ refuse Table place → Fills (λ n. P ⊙ Partway sc 32 n) used i place
    expression_fills sc once used {j = j} {place = place} s e = filled_as s (term_fills sc once 32 used j place s.within e) (λ w h. h)

    -- NEW, past its list and from its list on
    abbrev condition : List ℕ → Reader (List UnitRow × Span)
    condition vs = read_term (listing sc vs) tables.rows 32 used ⊗ λ _. read_text_end

    new_term : (vs : List ℕ) {h i j place : ℕ} → Spelt (Just (codes "NEW") ⊙ Gap ⊙ Listing sc vs) bytes h i → Spelt MayGap bytes i j → condition vs bytes j ≡ refuse Table place → Fills (Interrupted sc) used h place
    new_term vs {j = j} {place = place} s m e =
        let o = paired (read_term (listing sc vs) tables.rows 32 used) (λ _. read_text_end) (λ _. text_end_fair bytes) e in
        filled_as (joins s m) (term_fills (listing sc vs) once 32 used j place m.within o) (λ w h. in_new vs (regroup3 w (regroup w h)))

    new_list : {h i place : ℕ} → Spelt (Just (codes "NEW") ⊙ Gap) bytes h i → (read_listing sc ⊗ λ vs. read_may_gap ▷ condition vs) bytes i ≡ refuse Table place → Fills (Interrupted sc) used h place
    new_list {i = i} s e =
        let t = past (λ vs j. and_then ((read_may_gap ▷ condition vs) bytes j) (λ b k. got (vs, b) k)) (listing_fair bytes sc i) e in
        let names = ((listing_agrees tables bytes sc once).sound i t.0 t.1 s.within t.2).spelt in
        new_past t.0 s names (first_of ((read_may_gap ▷ condition t.0) bytes t.1) (λ b k. got (t.0, b) k) (λ b k. got_fair (t.0, b) k) t.3)
      where
        new_past : (vs : List ℕ) {h i j place : ℕ} → Spelt (Just (codes "NEW") ⊙ Gap) bytes h i → Spelt (Listing sc vs) bytes i j → (read_may_gap ▷ condition vs) bytes j ≡ refuse Table place → Fills (Interrupted sc) used h place
        new_past vs s n e =
            let m = after_may_gap (condition vs) n.within e in
            new_term vs (spelt_as regroup (joins s n)) m.1 m.2

    -- ASSIGN, past its shadow, past its target and from its target on
    abbrev value : List UnitRow → Reader (List UnitRow)
    value e = read_may_gap ▷ (read_term sc tables.rows 32 (used + length e) ◁ read_end)

    abbrev Targeted : ℕ → Language
    Targeted v = (Just (codes "ASSIGN") ⊙ Gap ⊙ Target sc v) ⊙ MayGap

    targeted : (v : ℕ) {Q : Language} (w : List ℕ) → (Targeted v ⊙ Q) w → (Just (codes "ASSIGN") ⊙ Gap ⊙ Bracketed (Mentioned sc v) ⊙ MayGap ⊙ Bracketed (Mentioned sc v) ⊙ MayGap ⊙ Q) w
    targeted v w h = under (under regroup3) w (regroup3 w (regroup w h))

    assign_value : (v : ℕ) (e : List UnitRow) {h i j place : ℕ} → length e ≤ tables.rows - used → Spelt (Targeted v) bytes h i → Spelt (Term sc 32 e) bytes i j → value e bytes j ≡ refuse Table place → Fills (Interrupted sc) used h place
    assign_value v e {place = place} fits s t o =
        let m = after_may_gap (read_term sc tables.rows 32 (used + length e) ◁ read_end) t.within o in
        let f = term_fills sc once 32 (used + length e) m.0 place m.1.within (ended (read_term sc tables.rows 32 (used + length e)) m.2) in
        let few = f.few in
        record {
          rows = length e + f.rows;
          spelt = spelt_as (λ w h. in_value v e f.rows refl (targeted v w h)) (joins s (joins t (joins m.1 f.spelt)));
          full = λ h. omega (arith, f.full (omega arith));
          few = omega arith;
          opens = f.opens;
        }

    assign_terms : (v : ℕ) {h i place : ℕ} → Spelt (Targeted v) bytes h i → (read_term sc tables.rows 32 used ⊗ value) bytes i ≡ refuse Table place → Fills (Interrupted sc) used h place
    assign_terms v {i = i} {place = place} s e =
        ⊎_elim
        (λ o. filled_as s (term_fills sc once 32 used i place s.within o) (λ w h. in_shadow v (targeted v w h)))
        (λ o.
        let shadow = (term_agrees tables bytes sc once 32 used).sound i o.0 o.1 s.within o.2 in
        assign_value v o.0 shadow.fits s shadow.spelt
        (first_of (value o.0 bytes o.1) (λ b k. got (o.0, b) k) (λ b k. got_fair (o.0, b) k) o.3))
        (then_refused (read_term sc tables.rows 32 used bytes i) (λ a j. and_then (value a bytes j) (λ b k. got (a, b) k)) e)

    abbrev terms : Reader (List UnitRow × List UnitRow)
    terms = read_may_gap ▷ (read_term sc tables.rows 32 used ⊗ value)

    assign_target : {h i place : ℕ} → Spelt (Just (codes "ASSIGN") ⊙ Gap) bytes h i → (read_target sc ⊗ λ _. terms) bytes i ≡ refuse Table place → Fills (Interrupted sc) used h place
    assign_target {i = i} s e =
        let t = past (λ v j. and_then (terms bytes j) (λ b k. got (v, b) k)) (target_fair bytes sc i) e in
        assign_past t.0 s ((target_agrees tables bytes sc once).sound i t.0 t.1 s.within t.2).spelt
        (first_of (terms bytes t.1) (λ b k. got (t.0, b) k) (λ b k. got_fair (t.0, b) k) t.3)
      where
        assign_past : (v : ℕ) {h i j place : ℕ} → Spelt (Just (codes "ASSIGN") ⊙ Gap) bytes h i → Spelt (Target sc v) bytes i j → terms bytes j ≡ refuse Table place → Fills (Interrupted sc) used h place
        assign_past v s t e =
            let m = after_may_gap (read_term sc tables.rows 32 used ⊗ value) t.within e in
            assign_terms v (joins (spelt_as regroup (joins s t)) m.1) m.2

    verb_fills : (v : Verb) {h i place : ℕ} → Word (verb_word v) h i → by_verb sc tables.rows used v bytes i ≡ refuse Table place → Fills (Interrupted sc) used h place
    verb_fills verb.Break {i = i} s e = absurd ((then_fair (read_text_end bytes i) _ (text_end_fair bytes i) (λ t. got_fair (Break t))).fair _ e)
    verb_fills verb.Require s e =
        let g = after_gap (read_term sc tables.rows 32 used ⊗ λ _. read_text_end) (λ p. Require p.0 p.1) s.within e in
        let o = paired (read_term sc tables.rows 32 used) (λ _. read_text_end) (λ _. text_end_fair bytes) g.2 in
        filled_as s (expression_fills sc once used g.1 o) (λ w h. in_require h)
    verb_fills verb.Proclaim s e =
        let g = after_gap (read_term sc tables.rows 32 used ◁ read_end) Proclaim s.within e in
        filled_as s (expression_fills sc once used g.1 (ended (read_term sc tables.rows 32 used) g.2)) (λ w h. in_proclaim h)
    verb_fills verb.New s e =
        let g = after_gap (read_listing sc ⊗ λ vs. read_may_gap ▷ condition vs) (λ p. New p.0 p.1.0 p.1.1) s.within e in
        new_list (joins s g.1) g.2
    verb_fills verb.Assign s e =
        let g = after_gap (read_target sc ⊗ λ _. terms) (λ p. Assign p.0 p.1.0 p.1.1) s.within e in
        assign_target (joins s g.1) g.2
    verb_fills verb.Split {i = i} s e = absurd ((then_fair (read_gap_label bytes i) _ (gap_label_fair bytes i) (λ l. got_fair (Split l))).fair _ e)
    verb_fills verb.When s e =
        let g = after_gap (read_term sc tables.rows 32 used ⊗ λ _. read_label_end) (λ p. When p.0 p.1) s.within e in
        let o = paired (read_term sc tables.rows 32 used) (λ _. read_label_end) (λ _. label_end_fair bytes) g.2 in
        filled_as s (expression_fills sc once used g.1 o) (λ w h. in_when h)
    verb_fills verb.Branch s e = absurd ((branch_fair bytes sc tables.rows used _).fair _ e)
    verb_fills verb.Join {i = i} s e = absurd ((then_fair (read_gap_label bytes i) _ (gap_label_fair bytes i) (λ l. got_fair (Join l))).fair _ e)
    verb_fills verb.Hang {i = i} s e = absurd ((then_fair (read_end bytes i) _ (white_fair bytes i (white 10 bytes i)) (λ _. got_fair Hang)).fair _ e)

  by_found_fills : (sc : Scope) → IsDistinct same_word sc.names → (r : Refusal) (used i j place : ℕ) (w : List ℕ) (o : Option Verb) → verb_of w ≡ o → Spelt (Just w) bytes i j → by_found sc tables.rows used r false i o bytes j ≡ refuse Table place → Fills (Interrupted sc) used i place
  by_found_fills sc once r used i j place w None is s e = absurd ((missing i).fair place e)
  by_found_fills sc once r used i j place w (Some v) is s e = verb_fills sc once used v (spelt_as (λ x h. h ∙ first_is verb_word w verbs v is) s) e

  sentence_fills : (sc : Scope) → IsDistinct same_word sc.names → (r : Refusal) (used i place : ℕ) → i ≤ length bytes → read_sentence sc tables.rows r false used bytes i ≡ refuse Table place → Fills (Interrupted sc) used i place
  unfolding read_sentence
  sentence_fills sc once r used i place l e =
      let t = past (λ s j. by_found sc tables.rows used r false i (verb_of (slice bytes s)) bytes j) (word_fair bytes i) e in
      let p = ((word_agrees {tables = tables}).sound i t.0 t.1 l t.2).spelt in
      by_found_fills sc once r used i t.1 place (slice bytes t.0) (verb_of (slice bytes t.0)) refl (spelt_as (λ w h. h.1) p) t.3

  -- a full table is blamed at the place of what it has no room for
  full_where : {A : Type 0} (size most i place : ℕ) → refuse {A = A} (full_by size most) i ≡ refuse Table place → (place ≡ i) × (size < most)
  full_where {A = A} size most i place e = by (ltb size most) refl e
    where
      by : (b : Bool) → ltb size most ≡ b → refuse {A = A} (cond b Table Limit) i ≡ refuse Table place → (place ≡ i) × (size < most)
      by true is e = (sym (refused_where {A = A} e), ltb-true size most is)
      by false is e = absurd ((limit {A = A} i).fair place e)

  sentence_full : (sc : Scope) (size used i place : ℕ) → i ≤ length bytes → read_sentence sc tables.rows (full_by size 200) true used bytes i ≡ refuse Table place → (place ≡ i) × (size < 200) × OpensStatement bytes i
  unfolding read_sentence
  sentence_full sc size used i place l e =
      let t = past (λ s j. by_found sc tables.rows used (full_by size 200) true i (verb_of (slice bytes s)) bytes j) (word_fair bytes i) e in
      by (verb_of (slice bytes t.0)) refl t.2 t.3
    where
      by : {s : Span} {j : ℕ} (o : Option Verb) → verb_of (slice bytes s) ≡ o → read_word bytes i ≡ got s j → by_found sc tables.rows used (full_by size 200) true i o bytes j ≡ refuse Table place → (place ≡ i) × (size < 200) × OpensStatement bytes i
      by None is w e = absurd ((missing i).fair place e)
      by {s = s} {j = j} (Some v) is w e =
          let f = full_where {A = Sentence Span} size 200 i place e in
          let ends = word_is bytes w in
          let opens : OpensStatement bytes i = record {
            verb = v;
            next = j;
            spelt = spelt_as (λ x h. h.1 ∙ first_is verb_word (slice bytes s) verbs v is) ((word_agrees {tables = tables}).sound i s j l w).spelt;
            whole = passes_byte name_byte refl bytes j ∙ ap (λ k. name_byte (byte bytes k)) (sym ends.2) ∙ front_stops name_byte bytes i refl;
          } in
          (f.0, f.1, opens)

  -- statements up to where the tables are blamed, after so many and so many rows
  pub record Cut (sc : Scope) (n used i place : ℕ) : Type 0 where
    pub said : List (Sentence (List ℕ))
    pub next : ℕ
    pub spelt : Spelt (Many (Says sc) (Just []) said) bytes i next
    pub fits : used ≤ tables.rows → used + length (rows_all said) ≤ tables.rows
    pub cause : ((next ≡ place) × (n + length said ≡ tables.statements) × (n + length said < 200) × OpensStatement bytes place) ⊎ Fills (Interrupted sc) (used + length (rows_all said)) next place

  module _ (sc : Scope) (once : IsDistinct same_word sc.names) where
    cut_more : (n used : ℕ) (s : Sentence (List ℕ)) {i j place : ℕ} → length (rows_of s) ≤ tables.rows - used → Spelt (Says sc s) bytes i j → Cut sc (n + 1) (used + length (rows_of s)) j place → Cut sc n used i place
    cut_more n used s {place = place} few h c =
        let rows : used + length (rows_of s) + length (rows_all c.said) ≡ used + length (rows_all (s ∷ c.said)) = omega (arith, length-append (rows_of s) (rows_all c.said)) in
        record {
          said = s ∷ c.said;
          next = c.next;
          spelt = joins h c.spelt;
          fits = λ l. omega (arith, rows, c.fits (omega arith));
          cause = ⊎_elim
              (λ t. let a = t.1 in let b = t.2 in inl (t.0, omega arith, omega arith, t.3))
              (λ t. inr (subst (λ m. Fills (Interrupted sc) m c.next place) rows t))
              c.cause;
        }

    abbrev size : ℕ
    size = tables.statements

    abbrev step : Bool → List (Sentence Span) → Reader (Sentence Span)
    step full seen = read_sentence sc tables.rows (full_by size 200) full (length (rows_all seen))

    no_more : (seen : List (Sentence Span)) (i place : ℕ) → and_then (read_finish bytes i) (λ _ j. got seen j) ≡ refuse Table place → ⊥
    no_more seen i place e = (then_fair (read_finish bytes i) (λ _ j. got seen j) (finish_fair bytes i) (λ _. got_fair seen)).fair place e

    statements_cut : (left n : ℕ) (seen : List (Sentence Span)) (i place : ℕ) → left + n ≡ min size 200 → i ≤ length bytes → read_statements sc tables.rows size left seen bytes i ≡ refuse Table place → Cut sc n (length (rows_all seen)) i place
    statements_cut zero n seen i place count l e =
        ⊎_elim
        (λ t.
        let f = sentence_full sc size (length (rows_all seen)) i place l (first_of (step true seen bytes i) (λ _ j. got seen j) (λ _. got_fair seen) t.1) in
        let few = f.1 in
        record { said = []; next = i; spelt = spelt_none (Just []) i l refl; fits = λ h. omega arith; cause = inl (sym f.0, omega arith, omega arith, subst (OpensStatement bytes) (sym f.0) f.2) })
        (λ t. absurd (no_more seen i place t.1))
        (either_refused (goes_on bytes i) _ _ e)
    statements_cut (suc left) n seen i place count l e =
        ⊎_elim
        (λ t.
        ⊎_elim
        (λ o.
        let rows : length (rows_all seen) ≡ length (rows_all seen) + 0 = omega arith in
        record { said = []; next = i; spelt = spelt_none (Just []) i l refl; fits = λ h. omega arith; cause = inr (subst (λ m. Fills (Interrupted sc) m i place) rows (sentence_fills sc once (full_by size 200) (length (rows_all seen)) i place l o)) })
        (λ o.
        let s = (sentence_agrees tables bytes sc (length (rows_all seen)) (full_by size 200) once).sound i o.0 o.1 l o.2 in
        let rows : length (rows_all (seen ++ o.0 ∷ [])) ≡ length (rows_all seen) + length (rows_of (retold (slice bytes) o.0)) = ap length (rows_push seen o.0) ∙ length-append (rows_all seen) (rows_of o.0) ∙ ap (λ r. length (rows_all seen) + length r) (sym (rows_told (slice bytes) o.0)) in
        cut_more n (length (rows_all seen)) (retold (slice bytes) o.0) s.fits s.spelt (subst (λ m. Cut sc (n + 1) m o.1 place) rows (statements_cut left (n + 1) (seen ++ o.0 ∷ []) o.1 place (omega arith) s.spelt.within o.3)))
        (then_refused (step false seen bytes i) (λ a j. read_statements sc tables.rows size left (seen ++ a ∷ []) bytes j) t.1))
        (λ t. absurd (no_more seen i place t.1))
        (either_refused (goes_on bytes i) _ _ e)

  -- declarations up to where their table is blamed, after so many
  pub record Undeclared (n i place : ℕ) : Type 0 where
    pub made : List Declared
    pub spelt : Spelt (Declarations made) bytes i place
    pub full : n + length made ≡ tables.variables
    pub few : n + length made < 32
    pub opens : Begins Opening bytes place

  declared_more : (n : ℕ) (d : Declared) {i j place : ℕ} → Spelt (Declares d) bytes i j → Undeclared (n + 1) j place → Undeclared n i place
  declared_more n d s u =
      let full = u.full in
      let few = u.few in
      record { made = d ∷ u.made; spelt = joins s u.spelt; full = omega arith; few = omega arith; opens = u.opens }

  -- a name that was read, and the colon that was seen after it
  opening : (i : ℕ) {s : Span} {j : ℕ} → i ≤ length bytes → opens_declaration bytes i ≡ true → read_name bytes i ≡ got s j → Begins Opening bytes i
  opening i {s = s} {j = j} l more e =
      let w = then_got (read_word bytes i) short e in
      let word = w.2 ∙ (unless_got (ltb 32 w.0.length) (got w.0 w.1) _ w.3).1 in
      let name = ((name_agrees {tables = tables}).sound i s j l e).spelt in
      let gap = ((may_gap_agrees {tables = tables}).sound j tt (past_gap bytes j) name.within refl).spelt in
      let colon = byte_spelt bytes 58 (omega arith) (past_gap bytes j) gap.within (sym (ap (colon_after bytes) word) ∙ more) in
      (past_gap bytes j + 1, spelt_as (λ x h. (slice bytes s, h)) (joins name (joins gap colon)))

  entry_full : (seen : List Variable) (i place : ℕ) → i ≤ length bytes → opens_declaration bytes i ≡ true → read_entry (full_by tables.variables 32) true seen bytes i ≡ refuse Table place → (place ≡ i) × (tables.variables < 32) × Begins Opening bytes i
  unfolding read_entry
  entry_full seen i place l more e =
      let t = past (λ s j. refuse (full_by tables.variables 32) i) (name_fair bytes i) e in
      let f = full_where {A = Variable} tables.variables 32 i place t.3 in
      (f.0, f.1, opening i l more t.2)

  entry_fair : (seen : List Variable) (i place : ℕ) → read_entry (full_by tables.variables 32) false seen bytes i ≡ refuse Table place → ⊥
  unfolding read_entry
  entry_fair seen i place e = (declaration_fair bytes seen i).fair place e

  declarations_cut : (left n : ℕ) (seen : List Variable) (i place : ℕ) → left + n ≡ min tables.variables 32 → i ≤ length bytes → read_declarations tables.variables left seen bytes i ≡ refuse Table place → Undeclared n i place
  declarations_cut zero n seen i place count l e =
      ⊎_elim
      (λ t.
      let f = entry_full seen i place l t.0 (first_of (read_entry (full_by tables.variables 32) true seen bytes i) (λ _ j. got seen j) (λ _. got_fair seen) t.1) in
      let few = f.1 in
      record { made = []; spelt = subst (Spelt (Declarations []) bytes i) (sym f.0) (spelt_none (Declarations []) i l refl); full = omega arith; few = omega arith; opens = subst (Begins Opening bytes) (sym f.0) f.2 })
      (λ t. absurd (got_refused t.1))
      (either_refused (opens_declaration bytes i) _ _ e)
  declarations_cut (suc left) n seen i place count l e =
      ⊎_elim
      (λ t.
      ⊎_elim
      (λ o. absurd (entry_fair seen i place o))
      (λ o.
      let s = ((entry_agrees tables bytes (full_by tables.variables 32) seen).sound i o.0 o.1 l o.2).spelt in
      declared_more n (declared_in bytes o.0) s (declarations_cut left (n + 1) (seen ++ o.0 ∷ []) o.1 place (omega arith) s.within o.3))
      (then_refused (read_entry (full_by tables.variables 32) false seen bytes i) (λ a j. read_declarations tables.variables left (seen ++ a ∷ []) bytes j) t.1))
      (λ t. absurd (got_refused t.1))
      (either_refused (opens_declaration bytes i) _ _ e)

module _ (t : Tables) (bytes : List ℕ) where
  abbrev sizes : Sizes
  sizes = sizes_of t

  outgrown_statements : (name : List ℕ) (ds : List Declared) {start i k place : ℕ} → Spelt (Heading name) bytes start i → Spelt (Declarations ds) bytes i k → Cut sizes bytes (scope_with ds) 0 0 k place → IsOutgrown sizes bytes start place
  outgrown_statements name ds {start = start} s d c =
      let front : Spelt (Front name ds c.said) bytes start c.next = joins s (joins d c.spelt) in
      ⊎_elim
      (λ h. let full = h.1 in let few = h.2 in by_statements name ds c.said (subst (Spelt (Front name ds c.said) bytes start) h.0 front) (omega arith) (omega arith) h.3)
      (λ h. let fits = c.fits (omega arith) in let full = h.full (omega arith) in let few = h.few in by_rows name ds c.said c.next h.rows front h.spelt (omega arith) (omega arith) h.opens)
      c.cause

  outgrown_rest : (name : List ℕ) {start i place : ℕ} → Spelt (Heading name) bytes start i → read_rest t bytes i ≡ refuse Table place → IsOutgrown sizes bytes start place
  outgrown_rest name {i = i} {place = place} s e =
      ⊎_elim
      (λ h.
      let d = declarations_cut sizes bytes (min (length t.variables) 32) 0 [] i place (omega arith) s.within h in
      let full = d.full in
      let few = d.few in
      by_variables name d.made (joins s (joins d.spelt (spelt_none (Just []) place d.spelt.within refl))) (omega arith) (omega arith) d.opens)
      (λ h.
      let d = (declarations_agree sizes bytes).sound i h.0 h.1 s.within h.2 in
      let o = first_of (read_body t h.0 bytes h.1) (λ ss j. got (h.0, ss) j) (λ ss. got_fair (h.0, ss)) h.3 in
      let body = sym (ap (λ sc. read_statements sc (length t.rows) (length t.statements) (min (length t.statements) 200) [] bytes h.1) (scope_is t bytes h.0)) ∙ o in
      outgrown_statements name (map (declared_in bytes) h.0) s d.spelt (statements_cut sizes bytes (scope_with (map (declared_in bytes) h.0)) d.keeps.1 (min (length t.statements) 200) 0 [] h.1 place (omega arith) d.spelt.within body))
      (then_refused (read_declarations (length t.variables) (min (length t.variables) 32) [] bytes i) (λ vs j. and_then (read_body t vs bytes j) (λ ss k. got (vs, ss) k)) e)

  pub unit_outgrows : (start place : ℕ) → read_unit t bytes start ≡ refuse Table place → IsOutgrown sizes bytes start place
  unit_outgrows start place e =
      let o = first_of ((read_heading ⊗ λ _. read_rest t) bytes start) (λ p j. got (located p) j) (λ p. got_fair (located p)) e in
      let h = past (λ s j. and_then (read_rest t bytes j) (λ p k. got (s, p) k)) (heading_fair bytes start) o in
      let l = heading_within t bytes start h.0 h.1 h.2 in
      outgrown_rest (slice bytes h.0) ((heading_agrees {tables = sizes}).sound start h.0 h.1 (omega arith) h.2).spelt
      (first_of (read_rest t bytes h.1) (λ p k. got (h.0, p) k) (λ p. got_fair (h.0, p)) h.3)
