-- Units: reading and spelling agree.
use Rattle.std.proofs.Common.{◌≡◌, ℕ, ◌<◌, min, cond, List, [], ◌∷◌, map, length, get_or, None, sym, refl, ap, ◌∙◌, subst, ⊎_elim}
use Rattle.std.specs.Prelude.{codes}
use Rattle.std.specs.List.{IsDistinct}
use Rattle.std.proofs.lemmas.Bool.{cases_lt, both_ways}
use Rattle.std.proofs.lemmas.List.{get_or_past}
use Rattle.terms.specs.Words.{same_word}
use Rattle.jcode.specs.declared.refusal.Refusal.TheVariants.{Missing}
use Rattle.jcode.specs.declared.span.Span.{Span}
use Rattle.jcode.specs.declared.variable.Variable.{Variable}
use Rattle.jcode.specs.Bytes.{separator, letter, slice}
use Rattle.jcode.specs.Language.{◌⊙◌, Spelt}
use Rattle.jcode.specs.Spelling.{Declarations, Statements, names_of, scope_with, Heading, Spells, Sizes, Within}
use Rattle.jcode.specs.Pieces.{got, refuse, and_then, ◌▷◌, ◌◁◌, ◌⊗◌, read_gap, read_end, read_word, read_name, read_keyword}
use Rattle.jcode.specs.Scopes.{name_in}
use Rattle.jcode.specs.Sentences.{Sentence}
use Rattle.jcode.specs.ReadUnits.{Located, Tables, read_heading, scope_in, read_declarations, read_statements, read_body, read_rest, located, read_unit}
use Rattle.jcode.specs.Units.{Declared, declared_in, retold, JUnit, unit_in}
use Rattle.jcode.specs.Notation.{sizes_of}
use Rattle.jcode.proofs.Outcomes.{got_next, then_got}
use Rattle.jcode.proofs.Places.{byte, parts}
use Rattle.jcode.proofs.Agreement.{Production, plain, both, image, Stops, Agrees, after_agrees, before_agrees, pair_agrees, image_agrees, spelling, renamed, same_agrees}
use Rattle.jcode.proofs.Marks.{gap_agrees, end_agrees}
use Rattle.jcode.proofs.Classes.{begins, white_begins, letter_no_separator, separator_no_name}
use Rattle.jcode.proofs.Words.{word_first, word_is, name_agrees, keyword_agrees}
use Rattle.jcode.proofs.Declaring.{declarations, declarations_agree, declarations_begin}
use Rattle.jcode.proofs.Saying.{statements, statements_agrees, statements_begin, statements_whole}

module _ {tables : Sizes} {bytes : List ℕ} where
  pub heading_agrees : Agrees tables bytes read_heading (slice bytes) (plain Heading) (Stops separator bytes)
  unfolding read_heading
  heading_agrees =
      after_agrees (keyword_agrees (codes "BEGIN") refl)
      (after_agrees gap_agrees
      (before_agrees name_agrees end_agrees (λ b i j s stop. separator_no_name (byte bytes i) (white_begins bytes 10 refl s)))
      (λ n i j s stop. let c = parts s in letter_no_separator (byte bytes i) (begins bytes letter refl (λ w h. ap (λ w. letter (get_or w 0 0)) h.1 ∙ word_first n h.0.0) c.1)))
      (λ n i j s stop. separator_no_name (byte bytes i) (white_begins bytes 32 refl (parts s).1))

module _ (t : Tables) (bytes : List ℕ) where
  abbrev Sep : ℕ → Type 0
  Sep = Stops separator bytes

  abbrev sizes : Sizes
  sizes = sizes_of t

  names_in : (vs : List Variable) → map (name_in bytes) vs ≡ names_of (map (declared_in bytes) vs)
  names_in [] = refl
  names_in (v ∷ vs) = λ k. name_in bytes v ∷ names_in vs k

  pub scope_is : (vs : List Variable) → scope_in bytes vs ≡ scope_with (map (declared_in bytes) vs)
  scope_is vs = λ k. record { names = names_in vs k; listed = None }

  body_agrees : (vs : List Variable) → IsDistinct same_word (names_of (map (declared_in bytes) vs)) → Agrees sizes bytes (read_body t vs) (map (retold (slice bytes))) (statements (scope_with (map (declared_in bytes) vs))) Sep
  body_agrees vs once =
      same_agrees (read_body t vs) (λ i. ap (λ sc. read_statements sc (length t.rows) (length t.statements) (min (length t.statements) 200) [] bytes i) (scope_is vs))
      (statements_agrees sizes bytes (scope_with (map (declared_in bytes) vs)) once)

  abbrev rest : Production (List Declared × List (Sentence (List ℕ)))
  rest = both (declarations sizes bytes) (λ ds. statements (scope_with ds))

  rest_agrees : Agrees sizes bytes (read_rest t) (λ p. (map (declared_in bytes) p.0, map (retold (slice bytes)) p.1)) rest Sep
  rest_agrees =
      pair_agrees (λ ds. statements (scope_with ds)) (declarations_agree sizes bytes) (λ vs n. body_agrees vs n.1)
      (λ ds _ ss i j s stop. statements_begin sizes bytes (scope_with ds) ss s stop)

  abbrev unit_of_parts : List ℕ × (List Declared × List (Sentence (List ℕ))) → JUnit
  unit_of_parts p = record { name = p.0; variables = p.1.0; statements = p.1.1 }

  -- no name is declared twice
  abbrev IsOnce : JUnit → Type 0
  IsOnce u = IsDistinct same_word (names_of u.variables)

  abbrev pub units : Production JUnit
  units = record { spells = Spells; needs = Within }

  pub unit_agrees : Agrees sizes bytes (read_unit t) (unit_in bytes) units Sep
  unit_agrees =
      renamed units
      (λ u w h. (h.0, subst (λ u. (Heading u.name ⊙ Declarations u.variables ⊙ Statements (scope_with u.variables) u.statements) w) h.1.1 h.1.2))
      (λ u w h. (h.0, ((u.name, (u.variables, u.statements)), refl, h.1)))
      (λ t u n. n) (λ t u n. n)
      (spelling {P = image unit_of_parts (both (plain Heading) (λ _. rest)) Within} IsOnce
      (image_agrees located (unit_in bytes) unit_of_parts (λ t u. IsOnce u × Within t u)
      (pair_agrees (λ _. rest) heading_agrees (λ s _. rest_agrees) (λ n _ p i j s stop. begin p s stop))
      (λ p. refl)
      (λ t p n. (n.1.0.1, record { variables = n.1.0.0; statements = n.1.1.0; rows = n.1.1.1 }))
      (λ t p n. (tt, ((n.1.variables, n.0), (n.1.statements, n.1.rows))))))
    where
      begin : (p : List Declared × List (Sentence (List ℕ))) {i j : ℕ} → Spelt (Declarations p.0 ⊙ Statements (scope_with p.0) p.1) bytes i j → Sep j → Sep i
      begin p s stop = let c = parts s in declarations_begin sizes bytes p.0 c.1 (statements_begin sizes bytes (scope_with p.0) p.1 c.2 stop)

  -- a word stands within the bytes
  pub heading_within : (i : ℕ) (s : Span) (j : ℕ) → read_heading bytes i ≡ got s j → i < length bytes
  unfolding read_heading
  heading_within i s j e =
      let k = then_got (read_keyword (codes "BEGIN") bytes i) (λ _ i. (read_gap ▷ (read_name ◁ read_end)) bytes i) e in
      let w = then_got (read_word bytes i) (λ s j. cond (same_word (slice bytes s) (codes "BEGIN")) (got tt j) (refuse Missing i)) k.2 in
      let first = (word_is bytes w.2).0 in
      ⊎_elim
      (λ h. h)
      (λ h. absurd (both_ways (letter 0) refl (ap letter (sym (get_or_past bytes i 0 h)) ∙ first)))
      (cases_lt i (length bytes))

  -- the last separators are taken whole
  rest_whole : (i : ℕ) (p : List Variable × List (Sentence Span)) (j : ℕ) → read_rest t bytes i ≡ got p j → Sep j
  rest_whole i p j e =
      let c = then_got (read_declarations (length t.variables) (min (length t.variables) 32) [] bytes i) (λ vs i. and_then (read_body t vs bytes i) (λ ss j. got (vs, ss) j)) e in
      let d = then_got (read_body t c.0 bytes c.1) (λ ss j. got (c.0, ss) j) c.3 in
      subst Sep (got_next {a = (c.0, d.0)} {b = p} {j = d.1} d.3) (statements_whole sizes bytes (scope_in bytes c.0) (min (length t.statements) 200) [] c.1 d.0 d.1 d.2)

  pub unit_ends : (i : ℕ) (u : Located) (j : ℕ) → read_unit t bytes i ≡ got u j → (i < length bytes) × Sep j
  unit_ends i u j e =
      let whole = then_got ((read_heading ⊗ λ _. read_rest t) bytes i) (λ p i. got (located p) i) e in
      let a = then_got (read_heading bytes i) (λ s i. and_then (read_rest t bytes i) (λ p j. got (s, p) j)) whole.2 in
      let b = then_got (read_rest t bytes a.1) (λ p j. got (a.0, p) j) a.3 in
      (heading_within i a.0 a.1 a.2, subst Sep (got_next {a = (a.0, b.0)} {b = whole.0} {j = b.1} b.3 ∙ got_next {a = located whole.0} {b = u} {j = whole.1} whole.3) (rest_whole a.1 b.0 b.1 b.2))
