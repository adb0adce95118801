-- The rows that terms begin with: reading and spelling agree.
use Rattle.std.proofs.Common.{◌≡◌, ℕ, ◌+◌, ◌≤◌, Bool, true, false, cond, eqb, ◌⊎◌, List, [], ◌∷◌, ◌++◌, length, get_or, ℤ, pos, negsuc, Some, None, Option, sym, refl, ap, ◌∙◌, subst, inl, inr, ⊎_elim, arith, append-nil, le_trans}
use Rattle.std.specs.Prelude.{codes}
use Rattle.std.specs.List.{IsDistinct}
use Rattle.std.specs.Option.{is_some}
use Rattle.std.proofs.lemmas.Bool.{cases_Bool, cond-true, cond-false, or_parts, both_ways, false_from_ne_true, false≢true}
use Rattle.std.proofs.lemmas.Int.{ints}
use Rattle.terms.specs.declared.operator.Operator.{Operator}
use Rattle.terms.specs.declared.operator.Operator.TheVariants.{Addi}
use Rattle.terms.specs.declared.row.Row.TheVariants.{Constant, Mention as Mentioned, Operator as Applied}
use Rattle.terms.specs.Operators.{word_of, operators, operator_of}
use Rattle.terms.specs.Words.{same_word, first_with}
use Rattle.jcode.specs.declared.mention.Aspect.{Aspect}
use Rattle.jcode.specs.declared.mention.Aspect.TheVariants.{Value, Shadow}
use Rattle.jcode.specs.declared.mention.Stage.{Stage}
use Rattle.jcode.specs.declared.mention.Stage.TheVariants.{Current, New}
use Rattle.jcode.specs.declared.refusal.Refusal.TheVariants.{Name as Unknown}
use Rattle.jcode.specs.declared.span.Span.{Span}
use Rattle.jcode.specs.declared.term_reader.Head.{Head}
use Rattle.jcode.specs.declared.term_reader.Head.TheVariants.{Constant as ConstantHead, Defined, New as NewHead, Operator as OperatorHead}
use Rattle.jcode.specs.Bytes.{separator, letter, digit, name_byte, slice, stands, is_word}
use Rattle.jcode.specs.Language.{Language, ◌⊙◌, Just, Gap, Number, between, Spelt}
use Rattle.jcode.specs.Spelling.{Sizes, Variable, Listed, Mention, Leader}
use Rattle.jcode.specs.Pieces.{Answer, got, refuse, and_then, ◌▷◌, ◌giving◌, starts_with, read_gap, read_word, read_number}
use Rattle.jcode.specs.Scopes.{Scope, renews}
use Rattle.jcode.specs.ReadTerms.{operator_head, head_of, known, read_variable, read_listed, read_renewed, mention, read_defined, by_head_found, read_row}
use Rattle.jcode.specs.Rows.{UnitRow}
use Rattle.jcode.proofs.Outcomes.{got_what, got_next, then_got, then_step, when_got, either_got}
use Rattle.jcode.proofs.Places.{byte, joins, parts, spelt_as, spelt_none, just_next, length_between}
use Rattle.jcode.proofs.Agreement.{plain, Stops, Finds, found, Agrees, surely, finds_then, after_agrees, image_agrees, weaken, renamed, nothing_agrees}
use Rattle.jcode.proofs.Fronts.{stands_byte}
use Rattle.jcode.proofs.Marks.{same_words, gap_agrees, mark_agrees}
use Rattle.jcode.proofs.Classes.{digit_least, large_no_separator, letter_no_separator, head_byte, begins, begins_with}
use Rattle.jcode.proofs.Words.{word_first, word_agrees}
use Rattle.jcode.proofs.Variables.{variable_agrees, listed_agrees, listed_in_new}
use Rattle.jcode.proofs.Numbers.{byte_spelt, byte_stands, decimal_first, number_agrees}

-- the word of what is found
pub first_is : {X : Type 0} (word : X → List ℕ) (w : List ℕ) (xs : List X) (x : X) → first_with word w xs ≡ Some x → w ≡ word x
first_is word w [] x e = let z : ◌≡◌ {A = ℕ} 0 1 = cc in absurd (omega arith)
first_is word w (y ∷ xs) x e =
    ⊎_elim
    (λ t. let s : Some y ≡ Some x = sym (cond-true _ _ _ t) ∙ e in
    let same : y ≡ x = cc in
    same_words w (word y) t ∙ ap word same)
    (λ t. first_is word w xs x (sym (cond-false _ _ _ t) ∙ e))
    (cases_Bool (same_word w (word y)))

-- what the word before `!` is
abbrev HeadIs : List ℕ → Option Head → Type 0
HeadIs w (Some ConstantHead) = w ≡ codes "consti"
HeadIs w (Some Defined) = w ≡ codes "defined"
HeadIs w (Some NewHead) = w ≡ codes "new"
HeadIs w (Some (OperatorHead o)) = w ≡ word_of o
HeadIs w None = Unit {0}

operator_is : (w : List ℕ) (o : Option Operator) → operator_of w ≡ o → HeadIs w (operator_head o)
operator_is w (Some o) e = first_is word_of w operators o e
operator_is w None e = tt

head_is : (w : List ℕ) → HeadIs w (head_of w)
head_is w = by (same_word w (codes "consti")) refl (same_word w (codes "defined")) refl (same_word w (codes "new")) refl
  where
    by : (a : Bool) → same_word w (codes "consti") ≡ a → (b : Bool) → same_word w (codes "defined") ≡ b → (c : Bool) → same_word w (codes "new") ≡ c → HeadIs w (cond a (Some ConstantHead) (cond b (Some Defined) (cond c (Some NewHead) (operator_head (operator_of w)))))
    by true p b q c r = same_words w (codes "consti") p
    by false p true q c r = same_words w (codes "defined") q
    by false p false q true r = same_words w (codes "new") r
    by false p false q false r = operator_is w (operator_of w) refl

operator_word : (o : Operator) → is_word (word_of o) ≡ true
operator_word Addi = refl
operator_word o = refl

head_of_word : (o : Operator) → head_of (word_of o) ≡ Some (OperatorHead o)
head_of_word Addi = refl
head_of_word o = refl

head_no_name : (b : ℕ) → head_byte b ≡ false → name_byte b ≡ false
head_no_name b e = (or_parts (name_byte b) (eqb b 33) e).0

head_no_digit : (b : ℕ) → head_byte b ≡ false → digit b ≡ false
head_no_digit b e = (or_parts (digit b) _ (or_parts (letter b) _ (head_no_name b e)).1).0

module _ (bytes : List ℕ) where
  pub number_stops : (z : ℤ) {i j : ℕ} → Spelt (Number z) bytes i j → Stops separator bytes i
  number_stops (pos n) {i = i} s =
      let small = s.belongs.1 in
      let first = begins bytes digit refl (λ w h. ap (λ w. digit (get_or w 0 0)) h.2 ∙ decimal_first n (omega (arith, ints, small))) s in
      large_no_separator (byte bytes i) (omega (arith, digit_least (byte bytes i) first))
  number_stops (negsuc n) {i = i} s =
      ap separator (begins_with bytes 45 _ (omega arith) (spelt_as (λ w h. h.2) s))

  module _ (sc : Scope) where
    pub variable_begins : (v : ℕ) {i j : ℕ} → Spelt (Variable sc v) bytes i j → letter (byte bytes i) ≡ true
    variable_begins v s = begins bytes letter refl (λ w h. word_first w h.1.0) s

    pub variable_stops : (v : ℕ) {i j : ℕ} → Spelt (Variable sc v) bytes i j → Stops separator bytes i
    variable_stops v {i = i} s = letter_no_separator (byte bytes i) (variable_begins v s)

module _ (tables : Sizes) (bytes : List ℕ) (sc : Scope) (once : IsDistinct same_word sc.names) where
  -- a variable, as the row that mentions it
  abbrev VariableAs : (ℕ → UnitRow) → UnitRow → Language
  VariableAs f r w = (v : ℕ) × (f v ≡ r) × Variable sc v w

  variable_as : (f : ℕ → UnitRow) → Agrees tables bytes (read_variable sc giving f) (λ r. r) (plain (VariableAs f)) (Stops head_byte bytes)
  variable_as f =
      weaken (Stops head_byte bytes) (λ j. head_no_name (byte bytes j))
      (image_agrees f (λ r. r) f (λ t r. Unit {0}) (variable_agrees tables bytes sc once) (λ v. refl) (λ t b n. n) (λ t b n. n))

  variable_as_stops : (f : ℕ → UnitRow) (r : UnitRow) {i j : ℕ} → Spelt (VariableAs f r) bytes i j → Stops separator bytes i
  variable_as_stops f r s = variable_stops bytes sc s.belongs.0 (record { forward = s.forward; within = s.within; belongs = s.belongs.2 })

  -- a listed variable after `new!`, likewise
  abbrev ListedAs : (ℕ → UnitRow) → UnitRow → Language
  ListedAs f r w = (v : ℕ) × (f v ≡ r) × (Gap ⊙ Listed sc v) w

  renewed_agrees : (place : ℕ) → Agrees tables bytes (read_renewed sc place) (λ v. v) (plain (λ v. Gap ⊙ Listed sc v)) (Stops name_byte bytes)
  renewed_agrees place = by (is_some sc.listed) (λ v. listed_in_new sc v)
    where
      by : (b : Bool) → ((v : ℕ) → renews sc v ≡ true → b ≡ true) → Agrees tables bytes (λ bytes i. cond b ((read_gap ▷ read_listed sc place) bytes i) (refuse Unknown place)) (λ v. v) (plain (λ v. Gap ⊙ Listed sc v)) (Stops name_byte bytes)
      by true there =
          after_agrees gap_agrees (listed_agrees tables bytes sc once place)
          (λ v i j s stop. variable_stops bytes sc v (spelt_as (λ w h. h.1) s))
      by false there =
          renamed (plain (λ v. Gap ⊙ Listed sc v)) (λ v w h. absurd h) (λ v w h. absurd (false≢true (there v h.3.0))) (λ t v n. n) (λ t v n. n)
          (nothing_agrees (λ v. v) Unknown (λ i. place) (Stops name_byte bytes))

  renewed_as : (f : ℕ → UnitRow) (place : ℕ) → Agrees tables bytes (read_renewed sc place giving f) (λ r. r) (plain (ListedAs f)) (Stops head_byte bytes)
  renewed_as f place =
      weaken (Stops head_byte bytes) (λ j. head_no_name (byte bytes j))
      (image_agrees f (λ r. r) f (λ t r. Unit {0}) (renewed_agrees place) (λ v. refl) (λ t b n. n) (λ t b n. n))

  abbrev constant : ℤ → UnitRow
  constant z = Constant z

  abbrev ConstantL : UnitRow → Language
  ConstantL r = Gap ⊙ (λ w. (z : ℤ) × (constant z ≡ r) × Number z w)

  constant_agrees : Agrees tables bytes (read_gap ▷ (read_number giving constant)) (λ r. r) (plain ConstantL) (Stops head_byte bytes)
  constant_agrees =
      weaken (Stops head_byte bytes) (λ j. head_no_digit (byte bytes j))
      (after_agrees gap_agrees
      (image_agrees constant (λ r. r) constant (λ t r. Unit {0}) number_agrees (λ v. refl) (λ t b n. n) (λ t b n. n))
      (λ r i j s stop. number_stops bytes s.belongs.0 (record { forward = s.forward; within = s.within; belongs = s.belongs.2 })))

  -- after `defined!`
  abbrev NewL : UnitRow → Language
  NewL r = Just (codes "new!") ⊙ ListedAs (mention Shadow New) r

  abbrev DefinedL : UnitRow → Language
  DefinedL r w = NewL r w ⊎ VariableAs (mention Shadow Current) r w

  abbrev marked : ℕ → Bool
  marked i = starts_with (codes "new!") bytes i

  new_spelt : (i : ℕ) → i ≤ length bytes → marked i ≡ true → Spelt (Just (codes "new!")) bytes i (i + 4)
  new_spelt i l e = ((mark_agrees {tables = tables} (codes "new!")).sound i tt (i + 4) l (cond-true _ _ _ e)).spelt

  -- where `new!` stands no name does
  no_new : (v i j : ℕ) → Spelt (Variable sc v) bytes i j → Stops head_byte bytes j → marked i ≡ false
  no_new v i j s stop = false_from_ne_true (marked i) (λ e.
      let c = parts (spelt_as {Q = Just (codes "new") ⊙ Just (codes "!")} (λ w h. (codes "new", codes "!", refl, refl, h)) (new_spelt i (le_trans s.forward s.within) e)) in
      let bang = begins_with bytes 33 [] (omega arith) c.2 in
      let a = surely ((word_agrees {tables = tables}).complete i (codes "new") c.0 (spelt_as (λ w h. (refl, h)) c.1) tt (ap name_byte bang)) in
      let b = surely ((word_agrees {tables = tables}).complete i (between bytes i j) j (record { forward = s.forward; within = s.within; belongs = (s.belongs.1.0, refl) }) tt (head_no_name (byte bytes j) stop)) in
      let same : c.0 ≡ j = got_next (sym a.1 ∙ b.1) in
      both_ways (head_byte (byte bytes j)) stop (ap (λ k. head_byte (byte bytes k)) (sym same) ∙ ap head_byte bang))

  defined_agrees : Agrees tables bytes (read_defined sc) (λ r. r) (plain DefinedL) (Stops head_byte bytes)
  defined_agrees = record {
    sound = λ i r j l e.
        record {
          spelt = ⊎_elim
              (λ u.
              let mark = new_spelt i l u.0 in
              spelt_as (λ w h. inl h) (joins mark ((renewed_as (mention Shadow New) i).sound (i + 4) r j mark.within u.1).spelt))
              (λ u. spelt_as (λ w h. inr h) ((variable_as (mention Shadow Current)).sound i r j l u.1).spelt)
              (either_got (marked i) _ _ e);
          keeps = tt;
          fits = tt;
        };
    complete = λ i r j s _ stop. complete i r j s stop s.belongs;
  }
    where
      complete : (i : ℕ) (r : UnitRow) (j : ℕ) (s : Spelt (DefinedL r) bytes i j) → Stops head_byte bytes j → DefinedL r (between bytes i j) → Finds tables bytes (λ r. r) (Unit {0}) (read_defined sc bytes i) r j
      complete i r j s stop (inl x) =
          let c = parts (spelt_as {Q = NewL r} (λ w h. h) (record { forward = s.forward; within = s.within; belongs = x })) in
          let m = when_got (marked i) (got tt (i + 4)) _ (surely ((mark_agrees {tables = tables} (codes "new!")).complete i tt c.0 c.1 tt tt)).1 in
          subst (λ o. Finds tables bytes (λ r. r) (Unit {0}) o r j) (sym (cond-true _ _ _ m.0 ∙ ap (λ k. (read_renewed sc i giving mention Shadow New) bytes k) (got_next m.1)))
          ((renewed_as (mention Shadow New) i).complete c.0 r j c.2 tt stop)
      complete i r j s stop (inr x) =
          let v : Spelt (VariableAs (mention Shadow Current) r) bytes i j = record { forward = s.forward; within = s.within; belongs = x } in
          subst (λ o. Finds tables bytes (λ r. r) (Unit {0}) o r j) (sym (cond-false _ _ _ (no_new x.0 i j (spelt_as {Q = Variable sc x.0} (λ w h. h) (record { forward = s.forward; within = s.within; belongs = x.2 })) stop)))
          ((variable_as (mention Shadow Current)).complete i r j v tt stop)

  defined_stops : (r : UnitRow) {i j : ℕ} → Spelt (DefinedL r) bytes i j → Stops separator bytes i
  defined_stops r {i = i} {j = j} s =
      ⊎_elim
      (λ x.
      let c = parts (spelt_as {Q = NewL r} (λ w h. h) (record { forward = s.forward; within = s.within; belongs = x })) in
      ap separator (begins_with bytes 110 (codes "ew!") (omega arith) c.1))
      (λ x. variable_as_stops (mention Shadow Current) r (record { forward = s.forward; within = s.within; belongs = x }))
      s.belongs

  -- after a word and `!`
  abbrev HeadL : Option Head → UnitRow → Language
  HeadL (Some ConstantHead) = ConstantL
  HeadL (Some Defined) = λ r. Gap ⊙ DefinedL r
  HeadL (Some NewHead) = ListedAs (mention Value New)
  HeadL (Some (OperatorHead o)) = λ r w. (Applied o ≡ r) × (w ≡ [])
  HeadL None = λ r w. ⊥

  head_agrees : (at : ℕ) (o : Option Head) → Agrees tables bytes (by_head_found sc at o) (λ r. r) (plain (HeadL o)) (Stops head_byte bytes)
  head_agrees at (Some ConstantHead) = constant_agrees
  head_agrees at (Some Defined) = after_agrees gap_agrees defined_agrees (λ r i j s stop. defined_stops r s)
  head_agrees at (Some NewHead) = renewed_as (mention Value New) at
  head_agrees at (Some (OperatorHead o)) = record {
    sound = λ i r j l e. record { spelt = subst (Spelt (HeadL (Some (OperatorHead o)) r) bytes i) (got_next e) (spelt_none (HeadL (Some (OperatorHead o)) r) i l (got_what e, refl)); keeps = tt; fits = tt };
    complete = λ i r j s _ stop.
        let same : i ≡ j = (let f = s.forward in omega (arith, length_between bytes i j s.within, ap length s.belongs.1)) in
        found r (λ k. got (s.belongs.0 k) (same k)) refl;
  }
  head_agrees at None = nothing_agrees (λ r. r) Unknown (λ i. at) (Stops head_byte bytes)

  -- a word with `!` after it, and what that opens, or a variable
  abbrev HeadedL : List ℕ → UnitRow → Language
  HeadedL n r = Just (n ++ codes "!") ⊙ HeadL (head_of n) r

  abbrev RowL : UnitRow → Language
  RowL r w = ((n : List ℕ) × (is_word n ≡ true) × HeadedL n r w) ⊎ VariableAs (mention Value Current) r w

  abbrev opening : ℕ → Span → ℕ → Answer UnitRow
  opening i s j =
      cond (stands 33 bytes j) (by_head_found sc i (head_of (slice bytes s)) bytes (j + 1)) (and_then (known sc bytes s j) (λ v k. got (mention Value Current v) k))

  -- where a word is read, the variable that it names is
  as_variable : (i : ℕ) {s : Span} {j : ℕ} → read_word bytes i ≡ got s j → (read_variable sc giving mention Value Current) bytes i ≡ and_then (known sc bytes s j) (λ v k. got (mention Value Current v) k)
  as_variable i e = ap (λ o. and_then o (λ v k. got (mention Value Current v) k)) (then_step (known sc bytes) e)

  row_sound : (i : ℕ) (r : UnitRow) (k : ℕ) → i ≤ length bytes → read_row sc bytes i ≡ got r k → Spelt (RowL r) bytes i k
  row_sound i r k l e =
      let t = then_got (read_word bytes i) (opening i) e in
      let w = slice bytes t.0 in
      let p = ((word_agrees {tables = tables}).sound i t.0 t.1 l t.2).spelt in
      ⊎_elim
      (λ u.
      let bang = byte_spelt bytes 33 (omega arith) t.1 p.within u.0 in
      let q = (head_agrees i (head_of w)).sound (t.1 + 1) r k bang.within u.1 in
      let head : Spelt (Just (w ++ codes "!")) bytes i (t.1 + 1) = spelt_as (λ x h. h.4 ∙ (λ m. h.2.1 m ++ h.3 m)) (joins p bang) in
      spelt_as (λ x h. inl (w, p.belongs.0, h)) (joins head q.spelt))
      (λ u. spelt_as (λ x h. inr h) ((variable_as (mention Value Current)).sound i r k l (as_variable i t.2 ∙ u.1)).spelt)
      (either_got (stands 33 bytes t.1) _ _ t.3)

  row_complete : (i : ℕ) (r : UnitRow) (j : ℕ) (s : Spelt (RowL r) bytes i j) → Stops head_byte bytes j → RowL r (between bytes i j) → Finds tables bytes (λ r. r) (Unit {0}) (read_row sc bytes i) r j
  row_complete i r j s stop (inl x) =
      let c = parts (spelt_as {Q = HeadedL x.0 r} (λ w h. h) (record { forward = s.forward; within = s.within; belongs = x.2 })) in
      let d = parts (spelt_as {Q = Just x.0 ⊙ Just (codes "!")} (λ w h. (x.0, codes "!", refl, refl, h)) c.1) in
      let to : d.0 + 1 ≡ c.0 = just_next d.2 in
      let ends : Stops name_byte bytes d.0 = ap name_byte (begins_with bytes 33 [] (omega arith) d.2) in
      finds_then (λ r. r) (Unit {0}) r j (opening i)
      ((word_agrees {tables = tables}).complete i x.0 d.0 (spelt_as (λ w h. (x.1, h)) d.1) tt ends) (λ m. m)
      (λ a _ is.
      subst (λ o. Finds tables bytes (λ r. r) (Unit {0}) o r j) (sym (cond-true _ _ _ (byte_stands bytes 33 (omega arith) d.2) ∙ (λ k. by_head_found sc i (head_of (is k)) bytes (to k))))
      ((head_agrees i (head_of x.0)).complete c.0 r j c.2 tt stop))
  row_complete i r j s stop (inr x) =
      let no_bang : stands 33 bytes j ≡ false = stands_byte 33 (omega arith) bytes j ∙ (or_parts (name_byte (byte bytes j)) (eqb (byte bytes j) 33) stop).1 in
      finds_then (λ r. r) (Unit {0}) r j (opening i)
      ((word_agrees {tables = tables}).complete i (between bytes i j) j (record { forward = s.forward; within = s.within; belongs = (x.2.1.0, refl) }) tt (head_no_name (byte bytes j) stop)) (λ m. m)
      (λ a e is.
      subst (λ o. Finds tables bytes (λ r. r) (Unit {0}) o r j) (as_variable i e ∙ sym (cond-false _ _ _ no_bang))
      ((variable_as (mention Value Current)).complete i r j (record { forward = s.forward; within = s.within; belongs = x }) tt stop))

  defined_there : (r : UnitRow) (w u v g m : List ℕ) → u ≡ codes "defined!" → w ≡ u ++ v → Gap g → v ≡ g ++ m → DefinedL r m → Leader sc r w
  defined_there r w u v g m eu ew gap ev (inl x) =
      let y = x.3 in
      subst (λ r. Leader sc r w) y.1 (u, v, eu, (g, m, gap, (x.0, x.1, x.2, y.2, x.4), ev), ew)
  defined_there r w u v g m eu ew gap ev (inr x) = subst (λ r. Leader sc r w) x.1 (u, v, eu, (g, m, gap, x.2, ev), ew)

  head_there : (o : Option Head) (n : List ℕ) → HeadIs n o → (r : UnitRow) (w : List ℕ) → (Just (n ++ codes "!") ⊙ HeadL o r) w → Leader sc r w
  head_there (Some ConstantHead) n is r w h =
      let y = h.3 in
      subst (λ r. Leader sc r w) y.3.1 (h.0, h.1, h.2 ∙ ap (λ n. n ++ codes "!") is, (y.0, y.1, y.2, y.3.2, y.4), h.4)
  head_there (Some Defined) n is r w h =
      let y = h.3 in
      defined_there r w h.0 h.1 y.0 y.1 (h.2 ∙ ap (λ n. n ++ codes "!") is) h.4 y.2 y.4 y.3
  head_there (Some NewHead) n is r w h =
      let y = h.3 in
      subst (λ r. Leader sc r w) y.1 (h.0, h.1, h.2 ∙ ap (λ n. n ++ codes "!") is, y.2, h.4)
  head_there (Some (OperatorHead o)) n is r w h =
      subst (λ r. Leader sc r w) h.3.0 (h.4 ∙ (λ k. h.2 k ++ h.3.1 k) ∙ append-nil (n ++ codes "!") ∙ ap (λ n. n ++ codes "!") is)
  head_there None n is r w h = absurd h.3

  row_there : (r : UnitRow) (w : List ℕ) → RowL r w → Leader sc r w
  row_there r w (inl x) = head_there (head_of x.0) x.0 (head_is x.0) r w x.2
  row_there r w (inr x) = subst (λ r. Leader sc r w) x.1 x.2

  mention_back : (a : Aspect) (s : Stage) (v : ℕ) (w : List ℕ) → Mention sc a s v w → RowL (mention a s v) w
  mention_back Value Current v w h = inr (v, refl, h)
  mention_back Shadow Current v w h =
      let y = h.3 in
      inl (codes "defined", refl, (h.0, h.1, h.2, (y.0, y.1, y.2, inr (v, refl, y.3), y.4), h.4))
  mention_back Value New v w h = inl (codes "new", refl, (h.0, h.1, h.2, (v, refl, h.3), h.4))
  mention_back Shadow New v w h =
      let y = h.3 in
      let z = y.3 in
      inl (codes "defined", refl, (h.0, h.1, h.2, (y.0, y.1, y.2, inl (z.0, z.1, z.2, (v, refl, z.3), z.4), y.4), h.4))

  row_back : (r : UnitRow) (w : List ℕ) → Leader sc r w → RowL r w
  row_back (Constant z) w h =
      let y = h.3 in
      inl (codes "consti", refl, (h.0, h.1, h.2, (y.0, y.1, y.2, (z, refl, y.3), y.4), h.4))
  row_back (Mentioned m) w h = mention_back m.aspect m.stage m.variable w h
  row_back (Applied o) w h =
      inl (word_of o, operator_word o, (w, [], h, subst (λ t. HeadL t (Applied o) []) (sym (head_of_word o)) (refl, refl), sym (append-nil w)))

  pub row_agrees : Agrees tables bytes (read_row sc) (λ r. r) (plain (Leader sc)) (Stops head_byte bytes)
  row_agrees =
      renamed (plain (Leader sc)) row_there row_back (λ t r n. n) (λ t r n. n)
      (record {
        sound = λ i r k l e. record { spelt = row_sound i r k l e; keeps = tt; fits = tt };
        complete = λ i r j s _ stop. row_complete i r j s stop s.belongs;
      })

  pub row_stops : (r : UnitRow) {i j : ℕ} → Spelt (Leader sc r) bytes i j → Stops separator bytes i
  row_stops r {i = i} {j = j} s =
      ⊎_elim
      (λ x.
      let c = parts (spelt_as {Q = HeadedL x.0 r} (λ w h. h) (record { forward = s.forward; within = s.within; belongs = x.2 })) in
      let d = parts (spelt_as {Q = Just x.0 ⊙ Just (codes "!")} (λ w h. (x.0, codes "!", refl, refl, h)) c.1) in
      letter_no_separator (byte bytes i) (begins bytes letter refl (λ w h. ap (λ w. letter (get_or w 0 0)) h ∙ word_first x.0 x.1) d.1))
      (λ x. variable_as_stops (mention Value Current) r (record { forward = s.forward; within = s.within; belongs = x }))
      (row_back r (between bytes i j) s.belongs)
