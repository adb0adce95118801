-- A unit that a check passed is sensible.
use Rattle.std.proofs.Common.{◌≡◌, ℕ, zero, suc, true, List, [], ◌∷◌, map, length, get_or, refl, sym, ◌∙◌, subst, inl, inr, ⊎_elim, true≢false}
use Rattle.std.proofs.lemmas.Bool.{and_parts, and_from, cases_Bool, true_from_ne_false}
use Rattle.std.proofs.lemmas.List.{length-map}
use Rattle.std.specs.List.{list_all}
use Rattle.jcode.specs.declared.refusal.Refusal.TheVariants as refusal
use Rattle.jcode.specs.declared.span.Span.{Span}
use Rattle.jcode.specs.declared.variable.Variable.{Variable}
use Rattle.jcode.specs.ReadUnits.{Tables}
use Rattle.jcode.specs.Sentences.{Sentence, Hang, Break, Require, Proclaim, New, Assign, Split, When, Branch, Join}
use Rattle.jcode.specs.Units.{Declared, declared_in, retold, unit_of}
use Rattle.jcode.specs.Bytes.{slice}
use Rattle.checking.specs.Breaks.{Unbroken}
use Rattle.checking.specs.Pieces.{is_name, is_domain, is_declaration, is_term, is_list}
use Rattle.checking.specs.Readable.{Readable, readable, sentences_in}
use Rattle.checking.specs.Sentences.{keeps}
use Rattle.checking.proofs.Reading.{readable_right, readable_whole}
use Rattle.sheets.specs.Runs.{sentence}
use Rattle.sheets.specs.Matches.{terms_kept, Sensible}

types_kept : (bytes : List ℕ) (vs : List Variable) → list_all (is_declaration bytes) vs ≡ true → list_all is_domain (map (λ (d : Declared). d.domain) (map (declared_in bytes) vs)) ≡ true
types_kept bytes [] h = refl
types_kept bytes (v ∷ vs) h = let p = and_parts (is_declaration bytes v) _ h in and_from _ _ (and_parts (is_name bytes v.name) _ p.0).1 (types_kept bytes vs p.1)

module _ {S : Type 0} (f : Span → S) (bytes : List ℕ) (count : ℕ) where
  term_kept : (s : Sentence Span) → keeps bytes count s ≡ true → terms_kept count (retold f s) ≡ true
  term_kept Hang h = refl
  term_kept (Break t) h = refl
  term_kept (Require e t) h = (and_parts (is_term count [] e) _ h).0
  term_kept (Proclaim e) h = h
  term_kept (New vs e t) h = let p = and_parts (is_list count vs) _ h in and_from _ _ p.0 (and_parts (is_term count vs e) _ p.1).0
  term_kept (Assign v e g) h = h
  term_kept (Split l) h = refl
  term_kept (When e l) h = (and_parts (is_term count [] e) _ h).0
  term_kept (Branch t l) h = refl
  term_kept (Join l) h = refl

  each_kept : (ss : List (Sentence Span)) → list_all (keeps bytes count) ss ≡ true → (i : ℕ) → terms_kept count (get_or (map (retold f) ss) i Hang) ≡ true
  each_kept [] h i = refl
  each_kept (s ∷ ss) h zero = term_kept s (and_parts _ _ h).0
  each_kept (s ∷ ss) h (suc i) = each_kept ss (and_parts (keeps bytes count s) _ h).1 i

module _ (bytes : List ℕ) (name : Span) (t : Tables) (sound : Unbroken bytes name t) where
  pub reads : Readable bytes name t
  reads = ⊎_elim (readable_right bytes name t)
      (λ no. absurd (sound refusal.Tables 0 (inl (refl, refl, λ r. true≢false (sym (readable_whole bytes name t r) ∙ no)))))
      (cases_Bool (readable bytes name t))

  pub sensible : Sensible (unit_of bytes name t)
  sensible = record {
    types = types_kept bytes t.variables reads.declared;
    terms = λ i. subst (λ n. terms_kept n (sentence (unit_of bytes name t) i) ≡ true) (sym (length-map t.variables (declared_in bytes)))
        (each_kept (slice bytes) bytes (length t.variables) (sentences_in t) reads.kept i);
    kinds = λ i. true_from_ne_false _ (λ fails. sound refusal.Kind i (inr fails));
    spans = λ i. true_from_ne_false _ (λ fails. sound refusal.Range i (inr fails));
  }
