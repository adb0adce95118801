-- What is spelt from a place on is one thing, and ends at one place.
use Rattle.std.proofs.Common.{◌≡◌, ℕ, zero, suc, ◌-◌, Bool, true, false, List, [], ◌∷◌, ◌++◌, length, Some, sym, refl, ap, ◌∙◌, subst, subst₂, arith}
use Rattle.std.specs.Prelude.{codes}
use Rattle.std.specs.List.{IsDistinct}
use Rattle.std.proofs.lemmas.Bool.{both_ways}
use Rattle.std.proofs.lemmas.List.{take_all, get_or_past}
use Rattle.terms.specs.Words.{same_word}
use Rattle.jcode.specs.declared.statement_reader.Verb.{Verb}
use Rattle.jcode.specs.declared.statement_reader.Verb.TheVariants as verb
use Rattle.jcode.specs.Bytes.{separator, slice}
use Rattle.jcode.specs.Language.{Language, ◌⊙◌, Many, Just, Gap, MayGap, End, Label, Text, Spelt}
use Rattle.jcode.specs.Spelling.{Sizes, limits, Leader, Close, Lead, Operands, Term, Listing, Says, Statements, Declares, Declarations, Heading, Spells, scope_with, names_of}
use Rattle.jcode.specs.Pieces.{Reader}
use Rattle.jcode.specs.Rows.{UnitRow, operands_after}
use Rattle.jcode.specs.Scopes.{Scope, listing}
use Rattle.jcode.specs.Sentences.{Hang, Break, Require, Proclaim, New, Assign, Split, When, Branch, Join, verb_word, verb_of}
use Rattle.jcode.specs.Units.{JUnit}
use Rattle.jcode.proofs.Outcomes.{got_what, got_next}
use Rattle.jcode.proofs.Places.{parts, spelt_as, length_between}
use Rattle.jcode.proofs.Grouping.{ungroup, under}
use Rattle.jcode.proofs.Agreement.{plain, Stops, Anywhere, Agrees, surely}
use Rattle.jcode.proofs.Repetition.{Repeats, many_stops}
use Rattle.jcode.proofs.Marks.{gap_agrees, may_gap_agrees, end_agrees}
use Rattle.jcode.proofs.Texts.{text_agrees}
use Rattle.jcode.proofs.Terms.{close_agrees, lead_agrees, inner_agrees, operands_stop, term_stops}
use Rattle.jcode.proofs.Lists.{listing_agrees, target_agrees, target_stops}
use Rattle.jcode.proofs.Verbs.{spoken, text_stops, text_end_agrees, label_end_agrees, gap_label_agrees}
use Rattle.jcode.proofs.Saying.{kind, found_verb, word_read, repeats as said_one_by_one, statements_begin}
use Rattle.jcode.proofs.Declaring.{declared_agrees, no_name_follows, Over, repeats as declared_one_by_one, declarations_begin}
use Rattle.jcode.proofs.Words.{name_agrees}
use Rattle.jcode.proofs.Classes.{begins_with}
use Rattle.jcode.proofs.Whole.{heading_agrees}

module _ (bytes : List ℕ) where
  pub record Unique {B : Type 0} (L : B → Language) (stop : ℕ → Type 0) : Type 0 where
    pub same : (i : ℕ) (b c : B) (j k : ℕ) → Spelt (L b) bytes i j → Spelt (L c) bytes i k → stop j → stop k → (b ≡ c) × (j ≡ k)

  abbrev Before : {B : Type 0} → (ℕ → Type 0) → (B → Language) → (ℕ → Type 0) → Type 0
  Before {B} p Q q = (b : B) (i j : ℕ) → Spelt (Q b) bytes i j → q j → p i

  -- what a reader tells is one
  unique_read : {A B : Type 0} {r : Reader A} {view : A → B} {L : B → Language} {p : ℕ → Type 0} → Agrees limits bytes r view (plain L) p → Unique L p
  unique_read {view = view} one = record {
    same = λ i b c j k s t m n.
        let x = surely (one.complete i b j s tt m) in
        let y = surely (one.complete i c k t tt n) in
        let e = sym x.1 ∙ y.1 in
        (sym x.2 ∙ ap view (got_what e) ∙ y.2, got_next e);
  }

  unique_pair : {B D : Type 0} {P : B → Language} {p : ℕ → Type 0} {Q : B → D → Language} {q : ℕ → Type 0} → Unique P p → ((b : B) → Unique (Q b) q) → ((b : B) → Before p (Q b) q) → Unique (λ (x : B × D). P x.0 ⊙ Q x.0 x.1) q
  unique_pair {Q = Q} one two apart = record {
    same = λ i b c j k s t m n.
        let x = parts s in
        let y = parts t in
        let e = one.same i b.0 c.0 x.0 y.0 x.1 y.1 (apart b.0 b.1 x.0 j x.2 m) (apart c.0 c.1 y.0 k y.2 n) in
        let f = (two c.0).same y.0 b.1 c.1 j k (subst₂ (λ h l. Spelt (Q h b.1) bytes l j) e.0 e.1 x.2) y.2 m n in
        ((λ l. (e.0 l, f.0 l)), f.1);
  }

  unique_as : {B : Type 0} {P Q : B → Language} {p : ℕ → Type 0} → ((b : B) (w : List ℕ) → Q b w → P b w) → Unique P p → Unique Q p
  unique_as f one = record { same = λ i b c j k s t m n. one.same i b c j k (spelt_as (f b) s) (spelt_as (f c) t) m n }

  unique_image : {B D : Type 0} {P : B → Language} {p : ℕ → Type 0} (f : B → D) → Unique P p → Unique (λ d w. (b : B) × (f b ≡ d) × P b w) p
  unique_image f one = record {
    same = λ i b c j k s t m n.
        let x = s.belongs in
        let y = t.belongs in
        let e = one.same i x.0 y.0 j k (record { forward = s.forward; within = s.within; belongs = x.2 }) (record { forward = t.forward; within = t.within; belongs = y.2 }) m n in
        (sym x.1 ∙ ap f e.0 ∙ y.1, e.1);
  }

  -- a piece ahead of a thing, or after it
  unique_ahead : {B : Type 0} {L : Language} {p : ℕ → Type 0} {Q : B → Language} {q : ℕ → Type 0} → Unique {B = Unit {0}} (λ _. L) p → Unique Q q → Before p Q q → Unique (λ b. L ⊙ Q b) q
  unique_ahead one two apart = record {
    same = λ i b c j k s t m n.
        let e = (unique_pair one (λ _. two) (λ _. apart)).same i (tt, b) (tt, c) j k s t m n in
        (ap (λ x. x.1) e.0, e.1);
  }

  unique_behind : {B : Type 0} {P : B → Language} {p : ℕ → Type 0} {L : Language} {q : ℕ → Type 0} → Unique P p → Unique {B = Unit {0}} (λ _. L) q → Before {B = Unit {0}} p (λ _. L) q → Unique (λ b. P b ⊙ L) q
  unique_behind one two apart = record {
    same = λ i b c j k s t m n.
        let e = (unique_pair one (λ _. two) (λ _. apart)).same i (b, tt) (c, tt) j k s t m n in
        (ap (λ x. x.0) e.0, e.1);
  }

  abbrev Sep : ℕ → Type 0
  Sep = Stops separator bytes

  gap_unique : Unique {B = Unit {0}} (λ _. Gap) Sep
  gap_unique = unique_read gap_agrees

  may_gap_unique : Unique {B = Unit {0}} (λ _. MayGap) Sep
  may_gap_unique = unique_read may_gap_agrees

  end_unique : Unique {B = Unit {0}} (λ _. End) Sep
  end_unique = unique_read end_agrees

  lead_unique : (b : Bool) → Unique {B = Unit {0}} (λ _. Lead b) Sep
  lead_unique b = unique_read (lead_agrees b)

  -- things one after another, each of them one
  unique_many : {A B : Type 0} {more : List ℕ → ℕ → Bool} {step : Bool → List A → Reader A} {done : List A → Reader (List A)} {view : A → B} {item : B → Language} {end : Language} {room : Sizes → ℕ → Type 0} {needs : Sizes → List B → B → Type 0} {p q : ℕ → Type 0} {most : ℕ} → Repeats limits bytes more step done view item end room needs p q most → Unique item p → Unique (Many item end) q
  unique_many {B = B} {more = more} {item = item} {end = end} {q = q} r one = record { same = by }
    where
      by : (i : ℕ) (bs cs : List B) (j k : ℕ) → Spelt (Many item end bs) bytes i j → Spelt (Many item end cs) bytes i k → q j → q k → (bs ≡ cs) × (j ≡ k)
      by i [] [] j k s t m n = (refl, got_next (sym (r.ended [] i j s m) ∙ r.ended [] i k t n))
      by i [] (c ∷ cs) j k s t m n = let y = parts t in absurd (both_ways (more bytes i) (r.goes_off i j s m) (r.goes_on c i y.0 y.1))
      by i (b ∷ bs) [] j k s t m n = let x = parts s in absurd (both_ways (more bytes i) (r.goes_off i k t n) (r.goes_on b i x.0 x.1))
      by i (b ∷ bs) (c ∷ cs) j k s t m n =
          let x = parts s in
          let y = parts t in
          let e = one.same i b c x.0 y.0 x.1 y.1 (many_stops r bs x.0 j x.2 m) (many_stops r cs y.0 k y.2 n) in
          let f = by y.0 bs cs j k (subst (λ l. Spelt (Many item end bs) bytes l j) e.1 x.2) y.2 m n in
          ((λ l. e.0 l ∷ f.0 l), f.1)

  module _ (sc : Scope) (once : IsDistinct same_word sc.names) where
    operands_unique : (k : ℕ) → Unique (Term sc k) Anywhere → (m : ℕ) (first : Bool) → Unique (Operands (Term sc k) m first) Anywhere
    operands_unique k one zero first = record {
      same = λ i b c j l s t _ _.
          let f = s.forward in
          let g = t.forward in
          (s.belongs.0 ∙ sym t.belongs.0, omega (arith, length_between bytes i j s.within, ap length s.belongs.1, length_between bytes i l t.within, ap length t.belongs.1));
    }
    operands_unique k one (suc m) first =
        unique_as (λ rs w h. ((h.0, h.1), sym h.2, h.3))
        (unique_image (λ (p : List UnitRow × List UnitRow). p.0 ++ p.1)
        (unique_ahead (lead_unique first)
        (unique_pair one (λ _. operands_unique k one m false) (λ _ _ i j s _. tt))
        (λ p i j s _. term_stops limits bytes sc k p.0 (parts s).1)))

    term_unique : (k : ℕ) → Unique (Term sc k) Anywhere
    term_unique zero = record { same = λ i b c j l s t _ _. absurd s.belongs }
    term_unique (suc k) =
        unique_as back
        (unique_image (λ (p : UnitRow × List UnitRow). p.0 ∷ p.1)
        (unique_pair (unique_read (inner_agrees limits bytes sc once))
        (λ r. unique_behind (operands_unique k (term_unique k) (operands_after r) true) (unique_read close_agrees) (λ _ i j s _. tt))
        (λ r rs i j s _. operands_stop limits bytes sc once k (operands_after r) rs s)))
      where
        back : (rs : List UnitRow) (w : List ℕ) → Term sc (suc k) rs w → (p : UnitRow × List UnitRow) × (p.0 ∷ p.1 ≡ rs) × ((Just (codes "(") ⊙ MayGap ⊙ Leader sc p.0) ⊙ Operands (Term sc k) (operands_after p.0) true p.1 ⊙ Close) w
        back [] w h = absurd h
        back (r ∷ rs) w h = ((r, rs), refl, ungroup w (under ungroup w h))

  abbrev TextEnd : List ℕ → Language
  TextEnd t = MayGap ⊙ Text t ⊙ End

  abbrev LabelEnd : ℕ → Language
  LabelEnd l = MayGap ⊙ Label l ⊙ End

  text_end_unique : Unique TextEnd Sep
  text_end_unique = unique_read (text_end_agrees limits bytes)

  label_end_unique : Unique LabelEnd Sep
  label_end_unique = unique_read (label_end_agrees limits bytes)

  gap_label_unique : Unique (λ l. Gap ⊙ Label l ⊙ End) Sep
  gap_label_unique = unique_read (gap_label_agrees limits bytes)

  -- an expression and more
  expression_then : {B : Type 0} {L : Language} (sc : Scope) {Q : B → Language} → IsDistinct same_word sc.names → Unique {B = Unit {0}} (λ _. L) Sep → Unique Q Sep → Unique (λ (x : List UnitRow × B). L ⊙ Term sc 32 x.0 ⊙ Q x.1) Sep
  expression_then sc once lead more =
      unique_ahead lead (unique_pair (term_unique sc once 32) (λ _. more) (λ _ _ i j s _. tt)) (λ x i j s _. term_stops limits bytes sc 32 x.0 (parts s).1)

  expression_end : (sc : Scope) {L : Language} → IsDistinct same_word sc.names → Unique {B = Unit {0}} (λ _. L) Sep → Unique (λ e. L ⊙ Term sc 32 e ⊙ End) Sep
  expression_end sc once lead =
      unique_ahead lead (unique_behind (term_unique sc once 32) end_unique (λ _ i j s _. tt)) (λ e i j s _. term_stops limits bytes sc 32 e (parts s).1)

  module _ (sc : Scope) (once : IsDistinct same_word sc.names) where
    verb_unique : (v : Verb) → Unique (spoken sc 0 v).spells Sep
    verb_unique verb.Break = unique_image Break text_end_unique
    verb_unique verb.Require = unique_image (λ x. Require x.0 x.1) (expression_then sc once gap_unique text_end_unique)
    verb_unique verb.Proclaim = unique_image Proclaim (expression_end sc once gap_unique)
    verb_unique verb.New =
        unique_image (λ x. New x.0 x.1.0 x.1.1)
        (unique_ahead gap_unique
        (unique_pair (unique_read (listing_agrees limits bytes sc once)) (λ vs. expression_then (listing sc vs) once may_gap_unique text_end_unique) (λ _ _ i j s _. tt))
        (λ x i j s _. listing_begins x.0 (parts s).1))
      where
        listing_begins : (vs : List ℕ) {i j : ℕ} → Spelt (Listing sc vs) bytes i j → Sep i
        listing_begins vs s = ap separator (begins_with bytes 40 [] (omega arith) (parts (spelt_as (λ w h. h.2) s)).1)
    verb_unique verb.Assign =
        unique_image (λ x. Assign x.0 x.1.0 x.1.1)
        (unique_ahead gap_unique
        (unique_pair (unique_read (target_agrees limits bytes sc once))
        (λ _. unique_ahead may_gap_unique
        (unique_pair (term_unique sc once 32) (λ _. expression_end sc once may_gap_unique) (λ _ _ i j s _. tt))
        (λ x i j s _. term_stops limits bytes sc 32 x.0 (parts s).1))
        (λ _ _ i j s _. tt))
        (λ x i j s _. target_stops limits bytes sc once x.0 (parts s).1))
    verb_unique verb.Split = unique_image Split gap_label_unique
    verb_unique verb.When = unique_image (λ x. When x.0 x.1) (expression_then sc once gap_unique label_end_unique)
    verb_unique verb.Branch =
        unique_image (λ x. Branch x.0 x.1)
        (unique_ahead gap_unique (unique_pair (unique_read text_agrees) (λ _. label_end_unique) (λ _ _ i j s _. tt)) (λ x i j s _. text_stops bytes x.0 (parts s).1))
    verb_unique verb.Join = unique_image Join gap_label_unique
    verb_unique verb.Hang = unique_image (λ _. Hang) end_unique

    some_same : {u v : Verb} → Some u ≡ Some v → u ≡ v
    some_same e = cc

    says_unique : Unique (Says sc) Sep
    says_unique = record {
      same = λ i b c j k s t m n.
          let x = word_read limits bytes sc 0 b s in
          let y = word_read limits bytes sc 0 c t in
          let e = sym x.3 ∙ y.3 in
          let word : verb_word (kind b) ≡ verb_word (kind c) = sym x.4 ∙ ap (slice bytes) (got_what e) ∙ y.4 in
          let verbs : kind b ≡ kind c = some_same (sym (found_verb (kind b)) ∙ ap verb_of word ∙ found_verb (kind c)) in
          (verb_unique (kind c)).same y.0 b c j k (subst₂ (λ v l. Spelt ((spoken sc 0 v).spells b) bytes l j) verbs (got_next e) x.1) y.1 m n;
    }

    statements_unique : Unique (Statements sc) Sep
    statements_unique = unique_many (said_one_by_one limits bytes sc once) says_unique

  declares_unique : Unique Declares Sep
  declares_unique =
      unique_as (λ d w h. ((d.name, d.domain), refl, h))
      (unique_image (λ x. record { name = x.0; domain = x.1 }) (unique_pair (unique_read name_agrees) (λ _. unique_read (declared_agrees limits bytes)) (λ _ d i j s _. no_name_follows limits bytes d s)))

  declarations_unique : Unique Declarations (Over limits bytes)
  declarations_unique = unique_many (declared_one_by_one limits bytes) declares_unique

  -- a unit's parts, from a place on
  abbrev Parts : JUnit → Language
  Parts u = Heading u.name ⊙ Declarations u.variables ⊙ Statements (scope_with u.variables) u.statements

  -- where a unit's parts begin and end
  record Cuts (u : JUnit) (i j : ℕ) : Type 0 where
    declared : ℕ
    said : ℕ
    heading : Spelt (Heading u.name) bytes i declared
    declarations : Spelt (Declarations u.variables) bytes declared said
    statements : Spelt (Statements (scope_with u.variables) u.statements) bytes said j
    over : Over limits bytes said
    begun : Sep declared

  cuts : (u : JUnit) (i j : ℕ) → Spelt (Parts u) bytes i j → Sep j → Cuts u i j
  cuts u i j s stop =
      let x = parts s in
      let a = parts x.2 in
      let over = statements_begin limits bytes (scope_with u.variables) u.statements a.2 stop in
      record { declared = x.0; said = a.0; heading = x.1; declarations = a.1; statements = a.2; over = over; begun = declarations_begin limits bytes u.variables a.1 over }

  unit_unique : (u v : JUnit) (i j k : ℕ) → IsDistinct same_word (names_of v.variables) → Cuts u i j → Cuts v i k → Sep j → Sep k → u ≡ v
  unit_unique u v i j k once x y m n =
      let a = (unique_read heading_agrees).same i u.name v.name x.declared y.declared x.heading y.heading x.begun y.begun in
      let b = declarations_unique.same y.declared u.variables v.variables x.said y.said (subst (λ l. Spelt (Declarations u.variables) bytes l x.said) a.1 x.declarations) y.declarations x.over y.over in
      let c = (statements_unique (scope_with v.variables) once).same y.said u.statements v.statements j k (subst₂ (λ ds l. Spelt (Statements (scope_with ds) u.statements) bytes l j) b.0 b.1 x.statements) y.statements m n in
      λ l. record { name = a.0 l; variables = b.0 l; statements = c.0 l }

-- no bytes spell two units
pub one_unit : (u v : JUnit) (w : List ℕ) → Spells u w → Spells v w → u ≡ v
one_unit u v w g h = unit_unique w u v 0 (length w) (length w) h.0 (cuts w u 0 (length w) (whole u g) stop) (cuts w v 0 (length w) (whole v h) stop) stop stop
  where
    stop : Stops separator w (length w)
    stop = ap separator (get_or_past w (length w) 0 (omega arith))

    whole : (u : JUnit) → Spells u w → Spelt (Parts w u) w 0 (length w)
    whole u h = record { forward = omega arith; within = omega arith; belongs = subst (Parts w u) (sym (take_all (length w - 0) w (omega arith))) h.1 }
