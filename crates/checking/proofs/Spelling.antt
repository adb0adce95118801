-- Tables that keep the rules of reading hold a unit that some bytes spell.
use Rattle.std.proofs.Common.{◌≡◌, ℕ, zero, suc, ◌≤◌, Bool, true, false, not, eqb, leb, ltb, ◌&&◌, List, [], ◌∷◌, map, length, sym, refl, ap, ◌∙◌, subst, arith}
use Rattle.std.specs.Prelude.{codes, int_le}
use Rattle.std.specs.List.{list_all, list_any, IsDistinct, AllByRecursion}
use lib.ListN.{length-map}
use Rattle.std.proofs.lemmas.Bool.{and_parts, and_from, or_parts, leb-true, ltb-true, lt-ltb, not-true}
use Rattle.std.proofs.lemmas.List.{map-id}
use Rattle.flow.proofs.Leading.{never}
use Rattle.terms.specs.Words.{same_word}
use Rattle.terms.specs.Numbers.{in_span}
use Rattle.jcode.specs.declared.span.Span.{Span}
use Rattle.jcode.specs.declared.variable.Domain.{Domain}
use Rattle.jcode.specs.declared.variable.Domain.TheVariants.{Integer, Boolean, Subrange}
use Rattle.jcode.specs.declared.variable.Variable.{Variable as Record}
use Rattle.jcode.specs.Bytes.{slice}
use Rattle.jcode.specs.Language.{Language, Many, Name}
use Rattle.jcode.specs.Scopes.{Scope, listing, member, name_in}
use Rattle.jcode.specs.Sentences.{Sentence, Hang, Break, Require, Proclaim, New, Assign, Split, When, Branch, Join}
use Rattle.jcode.specs.Rows.{UnitRow}
use Rattle.jcode.specs.ReadUnits.{Tables}
use Rattle.jcode.specs.Spelling.{Variable, Listed, Expression, Bracketed, MoreNames, Names, Listing, Says, InDomain, Declares, scope_with, Spells, limits}
use Rattle.jcode.specs.Units.{declared_in, retold, unit_of}
use Rattle.jcode.proofs.Saying.{all_rows_told}
use Rattle.jcode.proofs.Whole.{scope_is}
use Rattle.checking.specs.Tests.{apart}
use Rattle.checking.specs.Pieces.{is_name, is_text, is_label, is_domain, is_declaration, is_term, is_list}
use Rattle.checking.specs.Sentences.{keeps}
use Rattle.checking.specs.Readable.{Readable, sentences_in}
use Rattle.checking.specs.Spelled.{lies_in, text_fits, Laid, ReadableIsSpelled}
use Rattle.checking.proofs.Wording.{Spelled, ◌&◌, these, gap, no_gap, line_end, close, at_most, number, label, name, text}
use Rattle.checking.proofs.Writing.{term_spelled}

-- things of which no two are alike by their keys
distinct : {X K : Type 0} (eq : K → K → Bool) (key : X → K) (xs : List X) → apart (λ x y. eq (key x) (key y)) xs ≡ true → IsDistinct eq (map key xs)
unfolding IsDistinct
distinct eq key [] e = tt
distinct {X = X} eq key (x ∷ xs) e = let h = and_parts (not (list_any (λ y. eq (key x) (key y)) xs)) (apart (λ x y. eq (key x) (key y)) xs) e in (none xs (not-true _ h.0), distinct eq key xs h.1)
  where
    none : (ys : List X) → list_any (λ y. eq (key x) (key y)) ys ≡ false → AllByRecursion (λ k. eq (key x) k ≡ false) (map key ys)
    none [] e = tt
    none (y ∷ ys) e = let h = or_parts (eq (key x) (key y)) (list_any (λ y. eq (key x) (key y)) ys) e in (h.0, none ys h.1)

bracketed : {P : Language} → Spelled P → Spelled (Bracketed P)
bracketed p = these (codes "(") & no_gap & p & close

-- one thing after another, each by its test
many : {X B : Type 0} (item : B → Language) {end : Language} (f : X → B) (test : X → Bool) → ((x : X) → test x ≡ true → Spelled (item (f x))) → Spelled end → (xs : List X) → list_all test xs ≡ true → Spelled (Many item end (map f xs))
many item f test each last [] e = last
many item f test each last (x ∷ xs) e = let h = and_parts (test x) (list_all test xs) e in each x h.0 & many item f test each last xs h.1

-- a test that another test brings with it holds of each element that passes the other
pub list_all-weaker : {X : Type 0} (p q : X → Bool) → ((x : X) → p x ≡ true → q x ≡ true) → (xs : List X) → list_all p xs ≡ true → list_all q xs ≡ true
list_all-weaker p q so [] e = refl
list_all-weaker p q so (x ∷ xs) e = let h = and_parts (p x) (list_all p xs) e in and_from (q x) (list_all q xs) (so x h.0) (list_all-weaker p q so xs h.1)

in_domain : (d : Domain) → is_domain d ≡ true → Spelled (InDomain d)
in_domain Integer e = these (codes "integer")
in_domain Boolean e = these (codes "boolean")
in_domain (Subrange low high) e =
    let h = and_parts (in_span low && in_span high) (int_le low high) e in
    let k = and_parts (in_span low) (in_span high) h.0 in
    let s = these (codes "subrange") & gap & number low k.0 & gap & number high k.1 in
    (s.0, (at_most low high h.1, s.1))

module _ (bytes : List ℕ) where
  named : (n : Span) → is_name bytes n ≡ true → Spelled (Name (slice bytes n))
  named n e = (slice bytes n, (name bytes n e, refl))

  declares : (v : Record) → is_declaration bytes v ≡ true → Spelled (Declares (declared_in bytes v))
  declares v e =
      let h = and_parts (is_name bytes v.name) (is_domain v.domain) e in
      named v.name h.0 & no_gap & these (codes ":") & no_gap & bracketed (these (codes "variable") & no_gap & bracketed (in_domain v.domain h.1)) & line_end

  -- the variables of a scope have names
  variable : (vs : List Record) (v : ℕ) → list_all (is_declaration bytes) vs ≡ true → ltb v (length vs) ≡ true → Spelled (Variable (scope_with (map (declared_in bytes) vs)) v)
  variable [] v e lt = absurd (let small = ltb-true v 0 lt in omega arith)
  variable (x ∷ vs) zero e lt = let h = and_parts (is_declaration bytes x) (list_all (is_declaration bytes) vs) e in (slice bytes x.name, (refl, name bytes x.name (and_parts (is_name bytes x.name) (is_domain x.domain) h.0).0))
  variable (x ∷ vs) (suc v) e lt =
      let h = and_parts (is_declaration bytes x) (list_all (is_declaration bytes) vs) e in
      let small = ltb-true (suc v) (suc (length vs)) lt in
      variable vs v h.1 (lt-ltb v (length vs) (omega arith))

  module _ (sc : Scope) (count : ℕ) (of_scope : (v : ℕ) → ltb v count ≡ true → Spelled (Variable sc v)) where
    expression : (e : List UnitRow) → is_term count [] e ≡ true → Spelled (Expression sc e)
    expression e ok = let h = and_parts _ _ ok in term_spelled sc count [] 32 of_scope (λ v lt m. never m) e h.0 h.1

    -- a variable that NEW lists is one that it renews
    renewed : (vs : List ℕ) (v : ℕ) → ltb v count ≡ true → member v vs ≡ true → Spelled (Listed (listing sc vs) v)
    renewed vs v lt m = let s = of_scope v lt in (s.0, (m, s.1))

    where_listed : (vs : List ℕ) (e : List UnitRow) → is_term count vs e ≡ true → Spelled (Expression (listing sc vs) e)
    where_listed vs e ok = let h = and_parts _ _ ok in term_spelled (listing sc vs) count vs 32 of_scope (renewed vs) e h.0 h.1

    more_names : (vs : List ℕ) → list_all (λ v. ltb v count) vs ≡ true → Spelled (MoreNames sc vs)
    more_names [] e = close
    more_names (v ∷ vs) e = let h = and_parts (ltb v count) (list_all (λ v. ltb v count) vs) e in (gap & of_scope v h.0) & more_names vs h.1

    names : (vs : List ℕ) → list_all (λ v. ltb v count) vs ≡ true → Spelled (Names sc vs)
    names [] e = these (codes ")")
    names (v ∷ vs) e = let h = and_parts (ltb v count) (list_all (λ v. ltb v count) vs) e in of_scope v h.0 & more_names vs h.1

    list : (vs : List ℕ) → is_list count vs ≡ true → Spelled (Listing sc vs)
    list vs e =
        let h = and_parts (leb (length vs) 8) (list_all (λ v. ltb v count) vs && apart eqb vs) e in
        let k = and_parts (list_all (λ v. ltb v count) vs) (apart eqb vs) h.1 in
        let s = these (codes "(") & no_gap & names vs k.0 in
        (s.0, (leb-true (length vs) 8 h.0, subst (IsDistinct eqb) (map-id vs) (distinct eqb (λ v. v) vs k.1), s.1))

    says : (s : Sentence Span) → keeps bytes count s ≡ true → Spelled (Says sc (retold (slice bytes) s))
    says Hang e = these (codes "HANG") & line_end
    says (Break t) e = these (codes "BREAK") & no_gap & text bytes t e & line_end
    says (Require x t) e = let h = and_parts (is_term count [] x) (is_text bytes t) e in these (codes "REQUIRE") & gap & expression x h.0 & no_gap & text bytes t h.1 & line_end
    says (Proclaim x) e = these (codes "PROCLAIM") & gap & expression x e & line_end
    says (New vs x t) e =
        let h = and_parts (is_list count vs) (is_term count vs x && is_text bytes t) e in
        let k = and_parts (is_term count vs x) (is_text bytes t) h.1 in
        these (codes "NEW") & gap & list vs h.0 & no_gap & where_listed vs x k.0 & no_gap & text bytes t k.1 & line_end
    says (Assign v x y) e =
        let h = and_parts (ltb v count) (is_term count [] x && is_term count [] y) e in
        let k = and_parts (is_term count [] x) (is_term count [] y) h.1 in
        these (codes "ASSIGN") & gap & bracketed (of_scope v h.0) & no_gap & bracketed (of_scope v h.0) & no_gap & expression x k.0 & no_gap & expression y k.1 & line_end
    says (Split l) e = these (codes "SPLIT") & gap & label l e & line_end
    says (When x l) e = let h = and_parts (is_term count [] x) (is_label l) e in these (codes "WHEN") & gap & expression x h.0 & no_gap & label l h.1 & line_end
    says (Branch t l) e = let h = and_parts (is_text bytes t) (is_label l) e in these (codes "BRANCH") & gap & text bytes t h.0 & no_gap & label l h.1 & line_end
    says (Join l) e = these (codes "JOIN") & gap & label l e & line_end

  inside : (s : Span) (b : Bool) → (lies_in bytes s && b) ≡ true → lies_in bytes s ≡ true
  inside s b e = (and_parts (lies_in bytes s) b e).0

  kept_fits : (count : ℕ) (s : Sentence Span) → keeps bytes count s ≡ true → text_fits bytes s ≡ true
  kept_fits count Hang e = refl
  kept_fits count (Break t) e = inside t _ e
  kept_fits count (Require x t) e = inside t _ (and_parts (is_term count [] x) (is_text bytes t) e).1
  kept_fits count (Proclaim x) e = refl
  kept_fits count (New vs x t) e = inside t _ (and_parts (is_term count vs x) (is_text bytes t) (and_parts (is_list count vs) _ e).1).1
  kept_fits count (Assign v x y) e = refl
  kept_fits count (Split l) e = refl
  kept_fits count (When x l) e = refl
  kept_fits count (Branch t l) e = inside t _ (and_parts (is_text bytes t) (is_label l) e).0
  kept_fits count (Join l) e = refl

  module _ (name : Span) (t : Tables) (r : Readable bytes name t) where
    abbrev scope : Scope
    scope = scope_with (map (declared_in bytes) t.variables)

    once : IsDistinct same_word scope.names
    once = subst (IsDistinct same_word) (ap (λ sc. sc.names) (scope_is t bytes t.variables)) (distinct same_word (name_in bytes) t.variables r.once)

    spelled : Spelled (Spells (unit_of bytes name t))
    spelled =
        let s = (these (codes "BEGIN") & gap & named name r.named & line_end)
        & many Declares (declared_in bytes) (is_declaration bytes) declares (these []) t.variables r.declared
        & many (Says scope) (retold (slice bytes)) (keeps bytes (length t.variables)) (says scope (length t.variables) (λ v lt. variable t.variables v r.declared lt)) (these (codes "END") & line_end) (sentences_in t) r.kept in
        (s.0, (once, s.1))

    laid : Laid bytes name t
    laid = record {
      laid = r.laid;
      filled = r.filled;
      limited = record {
        variables = simp length-map r.few_variables;
        statements = simp length-map r.few_statements;
        rows = subst (λ rs. length rs ≤ limits.rows) (r.filled ∙ sym (all_rows_told (slice bytes) (sentences_in t))) r.few_rows;
      };
      named = inside name _ r.named;
      declared = list_all-weaker (is_declaration bytes) (λ v. lies_in bytes v.name) (λ v e. inside v.name _ (and_parts (is_name bytes v.name) (is_domain v.domain) e).0) t.variables r.declared;
      told = list_all-weaker (keeps bytes (length t.variables)) (text_fits bytes) (kept_fits (length t.variables)) (sentences_in t) r.kept;
    }

-- tables that keep the rules of reading hold a unit that the notation allows
pub readable_spelled : ReadableIsSpelled
readable_spelled bytes name t r = (laid bytes name t r, spelled bytes name t r)
