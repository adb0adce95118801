-- Tables of a unit that bytes spell keep the rules of reading.
use Rattle.std.proofs.Common.{◌≡◌, ℕ, zero, suc, ◌+◌, ◌-◌, ◌<◌, ◌≤◌, ◌≤ℤ◌, Bool, true, false, not, ◌&&◌, ◌||◌, eqb, leb, ltb, List, [], ◌∷◌, map, length, take, drop, ℤ, sym, refl, ap, ◌∙◌, subst, arith, zero-add}
use Rattle.std.specs.Prelude.{codes, int_le}
use Rattle.std.specs.List.{list_all, list_any, IsDistinct, AllByRecursion, range_with_len}
use Rattle.std.proofs.lemmas.Bool.{and_parts, and_from, or_from, not_from_false, lt-ltb, le-leb, leb-true, eq-eqb}
use Rattle.std.proofs.lemmas.Int.{ints}
use Rattle.std.proofs.lemmas.List.{length-take, length-drop, map-id}
use Rattle.std.proofs.lemmas.List.Folds.{length-prefix_len}
use Rattle.std.proofs.lemmas.List.FromFn.{length-range_with_len, get_or-range_with_len}
use Rattle.std.proofs.lemmas.List.Sums.{prefix_len_is}
use Rattle.std.proofs.lemmas.Option.{slice_get_within}
use Rattle.terms.specs.declared.row.Row.TheVariants.{Constant, Mention as Mentioned, Operator as Applied}
use Rattle.terms.specs.Numbers.{in_span, least, greatest}
use Rattle.terms.specs.Words.{same_word}
use Rattle.jcode.specs.declared.mention.Aspect.{Aspect}
use Rattle.jcode.specs.declared.mention.Aspect.TheVariants.{Value, Shadow}
use Rattle.jcode.specs.declared.mention.Stage.{Stage}
use Rattle.jcode.specs.declared.mention.Stage.TheVariants.{Current, New as Renewed}
use Rattle.jcode.specs.declared.span.Span.{Span}
use Rattle.jcode.specs.declared.variable.Domain.{Domain}
use Rattle.jcode.specs.declared.variable.Domain.TheVariants.{Integer, Boolean, Subrange}
use Rattle.jcode.specs.declared.variable.Variable.{Variable}
use Rattle.jcode.specs.Bytes.{text_byte, slice, text_at, is_text as plain}
use Rattle.jcode.specs.Language.{◌⊙◌, Many, Gap, IsName, Number, Label, Unclosed, IsText}
use Rattle.jcode.specs.ReadUnits.{Tables}
use Rattle.jcode.specs.Rows.{UnitRow}
use Rattle.jcode.specs.Scopes.{Scope, member, listing, name_in}
use Rattle.jcode.specs.Sentences.{Sentence, Hang, Break, Require, Proclaim, New, Assign, Split, When, Branch, Join}
use Rattle.jcode.specs.Spelling.{Variable as Named, Listed, Mention, Leader, Term, Close, Listing, Names, Says, Statements, InDomain, Declarations, names_of, scope_with}
use Rattle.jcode.specs.Units.{declared_in, retold, unit_of}
use Rattle.jcode.proofs.Names.{length_map}
use Rattle.jcode.proofs.Saying.{all_rows_told}
use Rattle.jcode.proofs.Whole.{scope_is}
use Rattle.checking.specs.Pieces.{is_name, is_text, is_label, is_domain, is_declaration, same_name, stage_known, row_known, is_term, is_list}
use Rattle.checking.specs.Readable.{sentences_in}
use Rattle.checking.specs.Sentences.{keeps}
use Rattle.checking.specs.Spelled.{lies_in, text_fits, SpelledIsReadable}
use Rattle.checking.specs.Tests.{apart}
use Rattle.checking.proofs.Depths.{writes}

-- a number of the span, a label, a type
number_kept : (z : ℤ) (w : List ℕ) → Number z w → in_span z ≡ true
number_kept z w h = and_from (int_le least z) (int_le z greatest) (tested least z h.0) (tested z greatest h.1)
  where
    tested : (a b : ℤ) → a ≤ℤ b → int_le a b ≡ true
    tested a b e = grind (arith, ints)

label_kept : (l : ℕ) (w : List ℕ) → Label l w → is_label l ≡ true
label_kept l w h = and_from (leb 1 l) (leb l 9999) (le-leb 1 l h.0) (le-leb l 9999 h.1)

domain_kept : (d : Domain) (w : List ℕ) → InDomain d w → is_domain d ≡ true
domain_kept Integer w h = refl
domain_kept Boolean w h = refl
domain_kept (Subrange low high) w h =
    let numbers = h.1.3.3 in
    and_from (in_span low && in_span high) (int_le low high) (and_from (in_span low) (in_span high) (number_kept low _ numbers.2) (number_kept high _ numbers.3.3)) (tested low high h.0)
  where
    tested : (a b : ℤ) → a ≤ℤ b → int_le a b ≡ true
    tested a b e = grind (arith, ints)

-- a text goes on from each of its places
text_on : (t : List ℕ) (i : ℕ) → i < length t → list_all text_byte t ≡ true → Unclosed t → text_at t i ≡ true
text_on [] i lt e open_ = absurd (omega arith)
text_on (b ∷ t) zero lt e open_ = and_from (text_byte b) (not (same_word (take 2 (b ∷ t)) (codes "/)"))) (and_parts (text_byte b) (list_all text_byte t) e).0 (not_from_false _ open_.0)
text_on (b ∷ t) (suc i) lt e open_ = text_on t i (omega arith) (and_parts (text_byte b) (list_all text_byte t) e).1 open_.1

plain_kept : (t : List ℕ) → IsText t → plain t ≡ true
plain_kept t h =
    let places = range_with_len 0 (length t - 0) in
    let many = length-range_with_len 0 (length t - 0) in
    let on : (k : ℕ) → k < length t → text_at t (Rattle.std.proofs.Common.get_or places k 0) ≡ true = λ k lt. ap (text_at t) (get_or-range_with_len 0 (length t - 0) k 0 (omega arith) ∙ zero-add k) ∙ text_on t k lt h.0 h.1 in
    eq-eqb _ _ (length-prefix_len (text_at t) places ∙ prefix_len_is (text_at t) places (length t) 0 (omega arith) on (λ lt. absurd (omega arith)))

module _ (bytes : List ℕ) where
  fits_length : (s : Span) → lies_in bytes s ≡ true → length (slice bytes s) ≡ s.length
  fits_length s e = let le = leb-true (s.start + s.length) (length bytes) e in omega (arith, length-take s.length (drop s.start bytes), length-drop s.start bytes)

  name_kept : (s : Span) → lies_in bytes s ≡ true → IsName (slice bytes s) → is_name bytes s ≡ true
  name_kept s e h = let few = h.1 in and_from (lies_in bytes s) _ e (and_from (leb s.length 32) _ (le-leb s.length 32 (omega (arith, fits_length s e))) h.0)

  text_kept : (s : Span) → lies_in bytes s ≡ true → IsText (slice bytes s) → is_text bytes s ≡ true
  text_kept s e h = let few = h.2 in and_from (lies_in bytes s) _ e (and_from (leb s.length 80) _ (le-leb s.length 80 (omega (arith, fits_length s e))) (plain_kept (slice bytes s) h))

-- things with keys of which no two are alike
module _ {X Y : Type 0} (alike : Y → Y → Bool) (key : X → Y) where
  none_like : (y : Y) (xs : List X) → AllByRecursion (λ z. alike y z ≡ false) (map key xs) → list_any (λ x. alike y (key x)) xs ≡ false
  none_like y [] h = refl
  none_like y (x ∷ xs) h = or_from (alike y (key x)) (list_any (λ x. alike y (key x)) xs) h.0 (none_like y xs h.1)

  apart_kept : (xs : List X) → IsDistinct alike (map key xs) → apart (λ x y. alike (key x) (key y)) xs ≡ true
  unfolding IsDistinct
  apart_kept [] h = refl
  apart_kept (x ∷ xs) h = and_from _ _ (not_from_false _ (none_like (key x) xs h.0)) (apart_kept xs h.1)

module _ (sc : Scope) where
  abbrev count : ℕ
  count = length sc.names

  declared_below : (v : ℕ) (w : List ℕ) → Named sc v w → ltb v count ≡ true
  declared_below v w h = lt-ltb v count (slice_get_within sc.names v w h.0)

  names_below : (vs : List ℕ) (w : List ℕ) → Many (λ v. Gap ⊙ Named sc v) Close vs w → list_all (λ v. ltb v count) vs ≡ true
  names_below [] w h = refl
  names_below (v ∷ vs) w h = and_from (ltb v count) (list_all (λ v. ltb v count) vs) (declared_below v _ h.2.3) (names_below vs _ h.3)

  listed_below : (vs : List ℕ) (w : List ℕ) → Names sc vs w → list_all (λ v. ltb v count) vs ≡ true
  listed_below [] w h = refl
  listed_below (v ∷ vs) w h = and_from (ltb v count) (list_all (λ v. ltb v count) vs) (declared_below v _ h.2) (names_below vs _ h.3)

  list_kept : (vs : List ℕ) (w : List ℕ) → Listing sc vs w → is_list count vs ≡ true
  list_kept vs w h =
      and_from (leb (length vs) 8) _ (le-leb (length vs) 8 h.0)
      (and_from (list_all (λ v. ltb v count) vs) (apart eqb vs) (listed_below vs _ h.2.3.3) (apart_kept eqb (λ v. v) vs (subst (IsDistinct eqb) (sym (map-id vs)) h.1)))

  -- where `new!` is for these variables alone
  module _ (listed : List ℕ) (only : (v : ℕ) (w : List ℕ) → Listed sc v w → member v listed ≡ true) where
    mention_kept : (a : Aspect) (s : Stage) (v : ℕ) (w : List ℕ) → Mention sc a s v w → (ltb v count && stage_known listed v s) ≡ true
    mention_kept Value Current v w h = and_from (ltb v count) true (declared_below v w h) refl
    mention_kept Shadow Current v w h = and_from (ltb v count) true (declared_below v _ h.3.3) refl
    mention_kept Value Renewed v w h = let n = h.3.3 in and_from (ltb v count) (member v listed) (declared_below v _ n.1) (only v _ n)
    mention_kept Shadow Renewed v w h = let n = h.3.3.3.3 in and_from (ltb v count) (member v listed) (declared_below v _ n.1) (only v _ n)

    row_kept : (r : UnitRow) (w : List ℕ) → Leader sc r w → row_known count listed r ≡ true
    row_kept (Constant z) w h = number_kept z _ h.3.3
    row_kept (Mentioned m) w h = mention_kept m.aspect m.stage m.variable w h
    row_kept (Applied o) w h = refl

    term_kept : (e : List UnitRow) (w : List ℕ) → Term sc 32 e w → is_term count listed e ≡ true
    term_kept e w h = let p = writes 32 sc (row_known count listed) row_kept e w h in and_from _ _ p.0 p.1

module _ (bytes : List ℕ) (sc : Scope) (outside : (v : ℕ) (w : List ℕ) → Listed sc v w → ⊥) where
  abbrev told : Sentence Span → Sentence (List ℕ)
  told = retold (slice bytes)

  old_term : (e : List UnitRow) (w : List ℕ) → Term sc 32 e w → is_term (count sc) [] e ≡ true
  old_term = term_kept sc [] (λ v w h. absurd (outside v w h))

  new_term : (vs : List ℕ) (e : List UnitRow) (w : List ℕ) → Term (listing sc vs) 32 e w → is_term (count sc) vs e ≡ true
  new_term vs = term_kept (listing sc vs) vs (λ v w h. h.0)

  says_kept : (s : Sentence Span) (w : List ℕ) → text_fits bytes s ≡ true → Says sc (told s) w → keeps bytes (count sc) s ≡ true
  says_kept Hang w f h = refl
  says_kept (Break t) w f h = text_kept bytes t f h.3.3.2.3.2.0
  says_kept (Require e t) w f h = and_from _ _ (old_term e _ h.3.3.2) (text_kept bytes t f h.3.3.3.3.2.3.2.0)
  says_kept (Proclaim e) w f h = old_term e _ h.3.3.2
  says_kept (New vs e t) w f h =
      let rest = h.3.3.3.3 in
      and_from _ _ (list_kept sc vs _ h.3.3.2) (and_from _ _ (new_term vs e _ rest.2) (text_kept bytes t f rest.3.3.2.3.2.0))
  says_kept (Assign v e g) w f h =
      let rest = h.3.3.3.3.3.3 in
      and_from _ _ (declared_below sc v _ h.3.3.2.3.3.2) (and_from _ _ (old_term e _ rest.2) (old_term g _ rest.3.3.2))
  says_kept (Split l) w f h = label_kept l _ h.3.3.2
  says_kept (When e l) w f h = and_from _ _ (old_term e _ h.3.3.2) (label_kept l _ h.3.3.3.3.2)
  says_kept (Branch t l) w f h = and_from _ _ (text_kept bytes t f h.3.3.2.3.2.0) (label_kept l _ h.3.3.3.3.2)
  says_kept (Join l) w f h = label_kept l _ h.3.3.2

  all_kept : (ss : List (Sentence Span)) (w : List ℕ) → list_all (text_fits bytes) ss ≡ true → Statements sc (map told ss) w → list_all (keeps bytes (count sc)) ss ≡ true
  all_kept [] w f h = refl
  all_kept (s ∷ ss) w f h =
      let p = and_parts (text_fits bytes s) (list_all (text_fits bytes) ss) f in
      and_from _ _ (says_kept s _ p.0 h.2) (all_kept ss _ p.1 h.3)

module _ (bytes : List ℕ) where
  declared_kept : (vs : List Variable) (w : List ℕ) → list_all (λ v. lies_in bytes v.name) vs ≡ true → Declarations (map (declared_in bytes) vs) w → list_all (is_declaration bytes) vs ≡ true
  declared_kept [] w f h = refl
  declared_kept (v ∷ vs) w f h =
      let p = and_parts (lies_in bytes v.name) (list_all (λ v. lies_in bytes v.name) vs) f in
      let domain = h.2.3.3.3.3.2.3.3.2.3.3.3.3.2 in
      and_from _ _ (and_from _ _ (name_kept bytes v.name p.0 h.2.2.0) (domain_kept v.domain _ domain)) (declared_kept vs _ p.1 h.3)

  once_kept : (t : Tables) → IsDistinct same_word (names_of (map (declared_in bytes) t.variables)) → apart (same_name bytes) t.variables ≡ true
  once_kept t h = apart_kept same_word (name_in bytes) t.variables (subst (IsDistinct same_word) (sym (ap (λ sc. sc.names) (scope_is t bytes t.variables))) h)

pub spelled_is_readable : SpelledIsReadable
spelled_is_readable bytes name t h =
    let l = h.0 in
    let body = h.1.1.1 in
    let sc = scope_with (map (declared_in bytes) t.variables) in
    let count_is : count sc ≡ length t.variables = length_map _ _ ∙ length_map _ _ in
    record {
      laid = l.laid;
      filled = l.filled;
      few_variables = let few = l.limited.variables in omega (arith, length_map (declared_in bytes) t.variables);
      few_statements = let few = l.limited.statements in omega (arith, length_map (retold (slice bytes)) (sentences_in t), length_map (Rattle.jcode.specs.Units.sentence_in t.rows) t.statements);
      few_rows = let few = l.limited.rows in omega (arith, ap length (all_rows_told (slice bytes) (sentences_in t)), ap length l.filled);
      named = name_kept bytes name l.named body.2.3.3.2.0;
      declared = declared_kept bytes t.variables _ l.declared body.3.2;
      once = once_kept bytes t h.1.1.0;
      kept = subst (λ n. list_all (keeps bytes n) (sentences_in t) ≡ true) count_is (all_kept bytes sc (λ v w h. absurd (let z : false ≡ true = h.0 in cc)) (sentences_in t) _ l.told body.3.3);
    }
