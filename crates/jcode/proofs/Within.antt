-- Every span that reading tells lies within the bytes.
use Rattle.std.proofs.Common.{◌≡◌, ℕ, zero, suc, ◌+◌, ◌-◌, ◌<◌, ◌≤◌, min, Bool, true, false, cond, ltb, List, [], ◌∷◌, ◌++◌, length, take, drop, Some, None, Option, sym, refl, ap, ◌∙◌, subst, ⊎_elim, arith}
use Rattle.std.specs.Prelude.{codes}
use Rattle.std.specs.List.{list_all, list_any, range_with_len}
use Rattle.std.proofs.lemmas.Bool.{and_from, cases_lt, both_ways}
use Rattle.std.proofs.lemmas.List.{length-take, length-drop, get_or_past}
use Rattle.std.proofs.lemmas.List.Folds.{list_all-append, length-prefix_len}
use Rattle.std.proofs.lemmas.List.FromFn.{length-range_with_len}
use Rattle.std.proofs.lemmas.List.Sums.{prefix_len-le-length}
use Rattle.terms.specs.Words.{same_word}
use Rattle.jcode.specs.declared.refusal.Refusal.{Refusal}
use Rattle.jcode.specs.declared.refusal.Refusal.TheVariants.{Name}
use Rattle.jcode.specs.declared.span.Span.{Span}
use Rattle.jcode.specs.declared.statement_reader.Verb.{Verb}
use Rattle.jcode.specs.declared.statement_reader.Verb.TheVariants as verb
use Rattle.jcode.specs.declared.variable.Variable.{Variable}
use Rattle.jcode.specs.Bytes.{letter, name_byte, slice, text_at, text_run}
use Rattle.jcode.specs.Pieces.{got, Reader, refuse, and_then, ◌▷◌, ◌◁◌, ◌⊗◌, ◌giving◌, repeated, short, read_mark, read_gap, read_may_gap, read_end, read_word, read_name, read_keyword, read_inner, read_text}
use Rattle.jcode.specs.Scopes.{Scope, listing, name_in}
use Rattle.jcode.specs.Sentences.{Sentence, Hang, Break, Require, Proclaim, New, Assign, Split, When, Branch, Join, verb_of}
use Rattle.jcode.specs.Tables.{full_by}
use Rattle.jcode.specs.ReadStatements.{read_expression, read_listing, read_text_end, read_label_end, by_verb}
use Rattle.jcode.specs.ReadUnits.{Located, Tables, rows_all, read_heading, read_fresh, read_declared, read_entry, read_declarations, opens_declaration, goes_on, by_found, read_sentence, read_statements, read_finish, read_unit, located, scope_in, variable_limit, statement_limit}
use Rattle.jcode.proofs.Fronts.{front_spelt}
use Rattle.jcode.proofs.Marks.{same_words}
use Rattle.jcode.proofs.Outcomes.{refused_got, got_what, got_next, then_got, when_got, unless_got, either_got}
use Rattle.jcode.proofs.Words.{word_is}

module _ (bytes : List ℕ) where
  -- whatever a reader tells is so
  record Tells {A : Type 0} (P : A → Type 0) (r : Reader A) : Type 0 where
    so : (i : ℕ) (a : A) (j : ℕ) → r bytes i ≡ got a j → P a

  after : {A : Type 0} {P : A → Type 0} (q : Reader (Unit {0})) {r : Reader A} → Tells P r → Tells P (q ▷ r)
  after q {r = r} h = record { so = λ i a j e. let t = then_got (q bytes i) (λ _ j. r bytes j) e in h.so t.1 a j t.3 }

  before : {A : Type 0} {P : A → Type 0} {r : Reader A} (q : Reader (Unit {0})) → Tells P r → Tells P (r ◁ q)
  before {P = P} {r = r} q h = record {
    so = λ i a j e.
        let t = then_got (r bytes i) (λ a i. and_then (q bytes i) (λ _ j. got a j)) e in
        let u = then_got (q bytes t.1) (λ _ j. got t.0 j) t.3 in
        subst P (got_what u.3) (h.so i t.0 t.1 t.2);
  }

  made : {A B : Type 0} (Q : B → Type 0) (f : A → B) {r : Reader A} → Tells (λ a. Q (f a)) r → Tells Q (r giving f)
  made Q f {r = r} h = record { so = λ i b j e. let t = then_got (r bytes i) (λ a i. got (f a) i) e in subst Q (got_what t.3) (h.so i t.0 t.1 t.2) }

  module _ {A B : Type 0} where
    both : {P : A → Type 0} {Q : B → Type 0} {q : Reader A} {r : A → Reader B} → Tells P q → ((a : A) → Tells Q (r a)) → Tells (λ p. P p.0 × Q p.1) (q ⊗ r)
    both {P = P} {Q = Q} {q = q} {r = r} h k = record {
      so = λ i p j e.
          let t = then_got (q bytes i) (λ a i. and_then (r a bytes i) (λ b j. got (a, b) j)) e in
          let u = then_got (r t.0 bytes t.1) (λ b j. got (t.0, b) j) t.3 in
          subst (λ p. P p.0 × Q p.1) (got_what u.3) (h.so i t.0 t.1 t.2, (k t.0).so t.1 u.0 u.1 u.2);
    }

    first : {P : A → Type 0} {q : Reader A} (r : A → Reader B) → Tells P q → Tells (λ p. P p.0) (q ⊗ r)
    first r h = let k = both {Q = λ b. Unit {0}} {r = r} h (λ a. record { so = λ i b j e. tt }) in record { so = λ i p j e. (k.so i p j e).0 }

    second : {Q : B → Type 0} (q : Reader A) {r : A → Reader B} → ((a : A) → Tells Q (r a)) → Tells (λ p. Q p.1) (q ⊗ r)
    second q k = let h = both {P = λ a. Unit {0}} {q = q} (record { so = λ i a j e. tt }) k in record { so = λ i p j e. (h.so i p j e).1 }

  -- things one after another, each of which passes a test
  module _ {A : Type 0} (test : A → Bool) (more : List ℕ → ℕ → Bool) (step : Bool → List A → Reader A) (done : List A → Reader (List A)) where
    abbrev All : List A → Type 0
    All xs = list_all test xs ≡ true

    all_tell : ((is_full : Bool) (seen : List A) → Tells (λ a. test a ≡ true) (step is_full seen)) → ((seen : List A) → All seen → Tells All (done seen)) → (left : ℕ) (seen : List A) → All seen → Tells All (repeated more step done left seen)
    all_tell one last zero seen h = record {
      so = λ i xs j e.
          ⊎_elim
          (λ p. let t = then_got (step true seen bytes i) (λ _ j. got seen j) p.1 in subst All (got_what t.3) h)
          (λ p. (last seen h).so i xs j p.1)
          (either_got (more bytes i) _ _ e);
    }
    all_tell one last (suc left) seen h = record {
      so = λ i xs j e.
          ⊎_elim
          (λ p.
          let t = then_got (step false seen bytes i) (λ a j. repeated more step done left (seen ++ a ∷ []) bytes j) p.1 in
          let passed = (one false seen).so i t.0 t.1 t.2 in
          (all_tell one last left (seen ++ t.0 ∷ []) (list_all-append test seen (t.0 ∷ []) ∙ and_from _ _ h (and_from (test t.0) true passed refl))).so t.1 xs j t.3)
          (λ p. (last seen h).so i xs j p.1)
          (either_got (more bytes i) _ _ e);
    }

-- a test that what lies within the bytes passes
module _ (bytes : List ℕ) (fits : Span → Bool) (inside : (s : Span) → s.start + s.length ≤ length bytes → fits s ≡ true) where
  abbrev Fits : Span → Type 0
  Fits s = fits s ≡ true

  word_fits : Tells bytes Fits read_word
  word_fits = record {
    so = λ i s j e.
        let w = word_is bytes e in
        let here : i < length bytes = ⊎_elim (λ h. h) (λ h. absurd (both_ways (letter 0) refl (ap letter (sym (get_or_past bytes i 0 h)) ∙ w.0))) (cases_lt i (length bytes)) in
        let run = (front_spelt name_byte bytes i (omega arith)).within in
        subst Fits w.1 (inside _ run);
  }

  name_fits : Tells bytes Fits read_name
  name_fits = record {
    so = λ i s j e.
        let t = then_got (read_word bytes i) short e in
        let u = unless_got (ltb 32 t.0.length) (got t.0 t.1) _ t.3 in
        subst Fits (got_what u.1) (word_fits.so i t.0 t.1 t.2);
  }

  text_fits : Tells bytes Fits read_text
  text_fits = record {
    so = λ i s j e.
        let t = then_got (read_mark (codes "(/") bytes i) (λ _ i. (read_inner ◁ read_mark (codes "/)")) bytes i) e in
        let m = when_got (same_word (take 2 (drop i bytes)) (codes "(/")) (got tt (i + 2)) _ t.2 in
        let two = ap length (same_words (take 2 (drop i bytes)) (codes "(/") m.0) in
        let begins : t.1 ≤ length bytes = (let next : i + 2 ≡ t.1 = got_next m.1 in omega (arith, length-take 2 (drop i bytes), length-drop i bytes)) in
        let u = then_got (read_inner bytes t.1) (λ s i. and_then (read_mark (codes "/)") bytes i) (λ _ j. got s j)) t.3 in
        let v = then_got (read_mark (codes "/)") bytes u.1) (λ _ j. got u.0 j) u.3 in
        let w = unless_got (ltb 80 (text_run bytes t.1).length) (got (text_run bytes t.1) (t.1 + (text_run bytes t.1).length)) _ u.2 in
        subst Fits (got_what w.1 ∙ got_what v.3) (inside (text_run bytes t.1) (run_within t.1 begins));
  }
    where
      run_within : (i : ℕ) → i ≤ length bytes → i + (text_run bytes i).length ≤ length bytes
      run_within i le =
          let places = range_with_len i (length bytes - i) in
          omega (arith, length-prefix_len (text_at bytes) places, prefix_len-le-length (text_at bytes) places, length-range_with_len i (length bytes - i))

  text_end_fits : Tells bytes Fits read_text_end
  unfolding read_text_end
  text_end_fits = after bytes read_may_gap (before bytes read_end text_fits)

  -- a statement's text, where it has one, passes
  abbrev pub is_told : Sentence Span → Bool
  is_told Hang = true
  is_told (Break t) = fits t
  is_told (Require e t) = fits t
  is_told (Proclaim e) = true
  is_told (New vs e t) = fits t
  is_told (Assign v e f) = true
  is_told (Split l) = true
  is_told (When e l) = true
  is_told (Branch t l) = fits t
  is_told (Join l) = true

  abbrev Told : Sentence Span → Type 0
  Told s = is_told s ≡ true

  module _ (sc : Scope) (room used : ℕ) where
    verb_fits : (v : Verb) → Tells bytes Told (by_verb sc room used v)
    verb_fits verb.Break = made bytes Told Break text_end_fits
    verb_fits verb.Require = made bytes Told (λ p. Require p.0 p.1) (after bytes read_gap (second bytes (read_expression sc room used) (λ e. text_end_fits)))
    verb_fits verb.Proclaim = made bytes Told Proclaim (record { so = λ i a j e. refl })
    verb_fits verb.New =
        made bytes Told (λ p. New p.0 p.1.0 p.1.1)
        (after bytes read_gap (second bytes (read_listing sc) (λ vs. after bytes read_may_gap (second bytes (read_expression (listing sc vs) room used) (λ e. text_end_fits)))))
    verb_fits verb.Assign = made bytes Told (λ p. Assign p.0 p.1.0 p.1.1) (record { so = λ i a j e. refl })
    verb_fits verb.Split = made bytes Told Split (record { so = λ i a j e. refl })
    verb_fits verb.When = made bytes Told (λ p. When p.0 p.1) (record { so = λ i a j e. refl })
    verb_fits verb.Branch = made bytes Told (λ p. Branch p.0 p.1) (after bytes read_gap (first bytes (λ t. read_label_end) text_fits))
    verb_fits verb.Join = made bytes Told Join (record { so = λ i a j e. refl })
    verb_fits verb.Hang = made bytes Told (λ _. Hang) (record { so = λ i a j e. refl })

    found_fits : (r : Refusal) (is_full : Bool) (at : ℕ) (o : Option Verb) → Tells bytes Told (by_found sc room used r is_full at o)
    found_fits r is_full at (Some v) = record { so = λ i s j e. (verb_fits v).so i s j (unless_got is_full (by_verb sc room used v bytes i) _ e).1 }
    found_fits r is_full at None = record { so = λ i s j e. absurd (refused_got e) }

    sentence_fits : (r : Refusal) (is_full : Bool) → Tells bytes Told (read_sentence sc room r is_full used)
    unfolding read_sentence
    sentence_fits r is_full = record {
      so = λ i a j e.
          let t = then_got (read_word bytes i) (λ s j. by_found sc room used r is_full i (verb_of (slice bytes s)) bytes j) e in
          (found_fits r is_full i (verb_of (slice bytes t.0))).so t.1 a j t.3;
    }

  statements_fit : (sc : Scope) (room table left : ℕ) → Tells bytes (λ ss. list_all is_told ss ≡ true) (read_statements sc room table left [])
  statements_fit sc room table left =
      all_tell bytes is_told goes_on (λ is_full seen. read_sentence sc room (full_by table statement_limit) is_full (length (rows_all seen))) (λ seen. read_finish giving (λ _. seen))
      (λ is_full seen. sentence_fits sc room (length (rows_all seen)) (full_by table statement_limit) is_full)
      (λ seen h. made bytes (λ ss. list_all is_told ss ≡ true) (λ _. seen) (record { so = λ i a j e. h }))
      left [] refl

  fresh_fits : (seen : List Variable) → Tells bytes Fits (read_fresh seen)
  unfolding read_fresh
  fresh_fits seen = record {
    so = λ i s j e.
        let t = then_got (read_name bytes i) (λ s j. cond (list_any (λ v. same_word (slice bytes s) (name_in bytes v)) seen) (refuse Name i) (got s j)) e in
        let u = unless_got (list_any (λ v. same_word (slice bytes t.0) (name_in bytes v)) seen) (got t.0 t.1) _ t.3 in
        subst Fits (got_what u.1) (name_fits.so i t.0 t.1 t.2);
  }

  abbrev Declared : Variable → Type 0
  Declared v = fits v.name ≡ true

  entry_fits : (r : Refusal) (is_full : Bool) (seen : List Variable) → Tells bytes Declared (read_entry r is_full seen)
  unfolding read_entry
  entry_fits r true seen = record { so = λ i v j e. absurd (refused_got (then_got (read_name bytes i) (λ s j. refuse r i) e).3) }
  entry_fits r false seen = made bytes Declared (λ p. record { name = p.0; domain = p.1 }) (first bytes (λ _. read_declared) (fresh_fits seen))

  declarations_fit : (table left : ℕ) → Tells bytes (λ vs. list_all (λ v. fits v.name) vs ≡ true) (read_declarations table left [])
  declarations_fit table left =
      all_tell bytes (λ v. fits v.name) opens_declaration (read_entry (full_by table variable_limit)) (λ seen bytes at. got seen at)
      (entry_fits (full_by table variable_limit)) (λ seen h. record { so = λ i vs j e. subst (λ vs. list_all (λ v. fits v.name) vs ≡ true) (got_what e) h })
      left [] refl

  heading_fits : Tells bytes Fits read_heading
  unfolding read_heading
  heading_fits = after bytes (read_keyword (codes "BEGIN")) (after bytes read_gap (before bytes read_end name_fits))

  -- the spans of a unit
  pub record UnitFits (u : Located) : Type 0 where
    pub named : fits u.name ≡ true
    pub declared : list_all (λ v. fits v.name) u.variables ≡ true
    pub told : list_all is_told u.sentences ≡ true

  unit_tells : (t : Tables) → Tells bytes UnitFits (read_unit t)
  unit_tells t =
      let parts = both bytes heading_fits (λ s. both bytes (declarations_fit (length t.variables) (min (length t.variables) variable_limit)) (λ vs. statements_fit (scope_in bytes vs) (length t.rows) (length t.statements) (min (length t.statements) statement_limit))) in
      made bytes UnitFits located (record { so = λ i p j e. let h = parts.so i p j e in record { named = h.0; declared = h.1.0; told = h.1.1 } })

  pub unit_fits : (t : Tables) (i : ℕ) (u : Located) (j : ℕ) → read_unit t bytes i ≡ got u j → UnitFits u
  unit_fits t i u j e = (unit_tells t).so i u j e
