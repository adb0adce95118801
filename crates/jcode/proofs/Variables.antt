-- Names of variables: found exactly where they stand.
use Rattle.std.proofs.Common.{◌≡◌, ℕ, Bool, true, false, cond, ltb, List, length, get_or, Some, None, Option, sym, refl, ap, ◌∙◌, subst, arith}
use Rattle.std.specs.Prelude.{slice_get}
use Rattle.std.specs.Bool.{then_some}
use Rattle.std.specs.List.{IsDistinct}
use Rattle.std.specs.Option.{is_some, option_and_then, option_map_or}
use Rattle.std.proofs.lemmas.Bool.{cond-true, both_ways, lt-ltb, false_from_ne_true, false≢true}
use Rattle.std.proofs.lemmas.List.Quantifiers.{position-Some}
use Rattle.std.proofs.lemmas.List.Sums.{position_or_len_is}
use Rattle.std.proofs.lemmas.Map.Keys.{apart_from_distinct}
use Rattle.std.proofs.lemmas.Option.{none-some, slice_get-get_or, slice_get_within, get_or_from_slice_get}
use Rattle.terms.specs.Words.{same_word}
use Rattle.jcode.specs.declared.span.Span.{Span}
use Rattle.jcode.specs.Bytes.{name_byte, slice}
use Rattle.jcode.specs.Language.{Language, IsName, between, Spelt}
use Rattle.jcode.specs.Spelling.{Sizes, Variable, Listed}
use Rattle.jcode.specs.Pieces.{Reader, and_then, short, read_word, read_name, got}
use Rattle.jcode.specs.Scopes.{Scope, index_of, member, renews, renewed}
use Rattle.jcode.specs.ReadTerms.{found as found_at, read_variable, read_listed}
use Rattle.jcode.proofs.Chains.{assoc}
use Rattle.jcode.proofs.Outcomes.{refused_got, got_what, got_next, then_got}
use Rattle.jcode.proofs.Places.{spelt_as}
use Rattle.jcode.proofs.Agreement.{plain, Stops, found, Agrees, finds_then, same_agrees}
use Rattle.jcode.proofs.Marks.{same_words, same_refl}
use Rattle.jcode.proofs.Words.{name_agrees}

index_there : (w : List ℕ) (names : List (List ℕ)) (v : ℕ) → index_of w names ≡ Some v → slice_get names v ≡ Some w
index_there w names v e =
    let p = position-Some (same_word w) names v w e in
    slice_get-get_or names v w p.0 ∙ ap Some (sym (same_words w (get_or names v w) p.1))

index_back : (w : List ℕ) (names : List (List ℕ)) (v : ℕ) → IsDistinct same_word names → slice_get names v ≡ Some w → index_of w names ≡ Some v
index_back w names v once e =
    let l = slice_get_within names v w e in
    let here : get_or names v w ≡ w = get_or_from_slice_get names v w w e in
    let first = position_or_len_is (same_word w) names v w (omega arith)
    (λ k h. false_from_ne_true (same_word w (get_or names k w)) (λ t.
    both_ways (same_word (get_or names k w) (get_or names v w)) (apart_from_distinct same_word names k v w once h l)
    (ap (same_word (get_or names k w)) (here ∙ same_words w (get_or names k w) t) ∙ same_refl (get_or names k w))))
    (λ _. ap (same_word w) here ∙ same_refl w) in
    ap (λ n. cond (ltb n (length names)) (Some n) None) first ∙ cond-true _ _ _ (lt-ltb v (length names) l)

found_got : (at : ℕ) (o : Option ℕ) (j : ℕ) {v k : ℕ} → found_at at o j ≡ got v k → (o ≡ Some v) × (j ≡ k)
found_got at (Some u) j e = (ap Some (got_what e), got_next e)
found_got at None j e = absurd (refused_got e)

-- a listed variable is declared, and it is listed where NEW lists any
renewed_there : (sc : Scope) (w : List ℕ) (v : ℕ) → renewed sc w ≡ Some v → (renews sc v ≡ true) × (index_of w sc.names ≡ Some v)
renewed_there sc w v = by (index_of w sc.names) refl
  where
    kept : (u : ℕ) (b : Bool) → renews sc u ≡ b → then_some b u ≡ Some v → (u ≡ v) × (renews sc v ≡ true)
    kept u true is e = let same : u ≡ v = cc in (same, ap (renews sc) (sym same) ∙ is)
    kept u false is e = absurd (none-some v e)

    by : (o : Option ℕ) → index_of w sc.names ≡ o → option_and_then (λ u. then_some (renews sc u) u) o ≡ Some v → (renews sc v ≡ true) × (index_of w sc.names ≡ Some v)
    by (Some u) is e = let k = kept u (renews sc u) refl e in (k.1, is ∙ ap Some k.0)
    by None is e = absurd (none-some v e)

renewed_back : (sc : Scope) (w : List ℕ) (v : ℕ) → renews sc v ≡ true → index_of w sc.names ≡ Some v → renewed sc w ≡ Some v
renewed_back sc w v t e = ap (option_and_then (λ u. then_some (renews sc u) u)) e ∙ ap (λ b. then_some b v) t

pub listed_in_new : (sc : Scope) (v : ℕ) → renews sc v ≡ true → is_some sc.listed ≡ true
listed_in_new sc v = by sc.listed
  where
    by : (o : Option (List ℕ)) → option_map_or (member v) o false ≡ true → is_some o ≡ true
    by (Some vs) e = refl
    by None e = absurd (false≢true e)

-- a name of which something is found
abbrev named : (List ℕ → Option ℕ) → (Span → ℕ) → Reader ℕ
named find place bytes at = and_then (read_name bytes at) (λ s j. found_at (place s) (find (slice bytes s)) j)

module _ (tables : Sizes) (bytes : List ℕ) where
  named_agrees : (find : List ℕ → Option ℕ) (place : Span → ℕ) (L : ℕ → Language) → ((v : ℕ) (w : List ℕ) → IsName w → find w ≡ Some v → L v w) → ((v : ℕ) (w : List ℕ) → L v w → IsName w × (find w ≡ Some v)) → Agrees tables bytes (named find place) (λ v. v) (plain L) (Stops name_byte bytes)
  named_agrees find place L there back = record {
    sound = λ i v k l e.
        let t = then_got (read_name bytes i) (λ s j. found_at (place s) (find (slice bytes s)) j) e in
        let f = found_got (place t.0) (find (slice bytes t.0)) t.1 t.3 in
        let p = ((name_agrees {tables = tables}).sound i t.0 t.1 l t.2).spelt in
        record { spelt = subst (Spelt (L v) bytes i) f.1 (spelt_as (λ w h. subst (L v) (sym h.1) (there v (slice bytes t.0) h.0 f.0)) p); keeps = tt; fits = tt };
    complete = λ i v j s n stop.
        let w = between bytes i j in
        let h = back v w s.belongs in
        finds_then (λ v. v) (Unit {0}) v j (λ s j. found_at (place s) (find (slice bytes s)) j)
        ((name_agrees {tables = tables}).complete i w j (record { forward = s.forward; within = s.within; belongs = (h.0, refl) }) tt stop) (λ m. m)
        (λ a _ is. found v (ap (λ o. found_at (place a) o j) (ap find is ∙ h.1)) refl);
  }

  module _ (sc : Scope) (once : IsDistinct same_word sc.names) where
    abbrev index : List ℕ → Option ℕ
    index w = index_of w sc.names

    pub variable_agrees : Agrees tables bytes (read_variable sc) (λ v. v) (plain (Variable sc)) (Stops name_byte bytes)
    variable_agrees =
        same_agrees (read_variable sc) (λ i. assoc (read_word bytes i) short (λ s j. found_at s.start (index (slice bytes s)) j))
        (named_agrees index (λ s. s.start) (Variable sc) (λ v w n e. (index_there w sc.names v e, n)) (λ v w h. (h.1, index_back w sc.names v once h.0)))

    pub listed_agrees : (place : ℕ) → Agrees tables bytes (read_listed sc place) (λ v. v) (plain (Listed sc)) (Stops name_byte bytes)
    listed_agrees place =
        named_agrees (renewed sc) (λ _. place) (Listed sc)
        (λ v w n e. let r = renewed_there sc w v e in (r.0, (index_there w sc.names v r.1, n)))
        (λ v w h. (h.1.1, renewed_back sc w v h.0 (index_back w sc.names v once h.1.0)))
