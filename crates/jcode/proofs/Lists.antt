-- Lists of names, and the names that ASSIGN repeats: reading and spelling agree.
use Rattle.std.proofs.Common.{◌≡◌, ℕ, ◌<◌, ◌≤◌, true, false, cond, eqb, List, [], ◌∷◌, map, map-id, length, sym, refl, ap, ◌∙◌, subst, inr, ⊎_elim, arith}
use Rattle.std.specs.Prelude.{codes, nat_eq}
use Rattle.std.specs.List.{IsDistinct, list_any}
use Rattle.std.proofs.lemmas.Bool.{cond-true, cond-false, not_from_true, not_from_false, eq-eqb, eqb-true}
use Rattle.std.proofs.lemmas.Cmp.{nat_eq_equiv}
use Rattle.terms.specs.Words.{same_word}
use Rattle.jcode.specs.declared.refusal.Refusal.TheVariants.{Limit, Name as Unknown}
use Rattle.jcode.specs.Bytes.{separator, name_byte, stands}
use Rattle.jcode.specs.Language.{Language, ◌⊙◌, Just, Gap, MayGap, Spelt}
use Rattle.jcode.specs.Spelling.{Sizes, limits, Variable, Close, Bracketed, MoreNames, Names, Listing}
use Rattle.jcode.specs.Pieces.{Answer, got, refuse, and_then, ◌▷◌, ◌giving◌, read_gap, read_name}
use Rattle.jcode.specs.Scopes.{Scope, member}
use Rattle.jcode.specs.ReadTerms.{read_variable, read_close}
use Rattle.jcode.specs.ReadStatements.{goes_on, read_unseen, read_more, read_names, read_listing, read_single, read_again, read_repeated, read_target}
use Rattle.jcode.proofs.Outcomes.{refused_got, got_what, got_next, then_got, when_got, unless_got, either_got}
use Rattle.jcode.proofs.Places.{byte, joins, parts, spelt_as, just_next}
use Rattle.jcode.proofs.Agreement.{plain, mark, kept, Stops, Anywhere, Finds, found, short, Stands, Agrees, stands_as, surely, finds_then, after_agrees, before_agrees, pair_agrees, image_agrees, kept_agrees, spelling, renamed}
use Rattle.jcode.proofs.Repetition.{AllNeed, Repeats, many_sound, many_complete}
use Rattle.jcode.proofs.Fronts.{stands_byte}
use Rattle.jcode.proofs.Marks.{gap_agrees, may_gap_agrees, mark_agrees, past_gap_is}
use Rattle.jcode.proofs.Classes.{begins_with, white_begins, letter_is_not, letter_no_separator, separator_no_name}
use Rattle.jcode.proofs.Variables.{variable_agrees}
use Rattle.jcode.proofs.Numbers.{byte_spelt, byte_stands}
use Rattle.jcode.proofs.Rows.{variable_begins, variable_stops}
use Rattle.jcode.proofs.Terms.{close_agrees, close_stops}
use Rattle.jcode.proofs.Distinct.{Fresh, fresh_there, fresh_back}

-- ASSIGN's variable, in brackets twice
abbrev pub Target : Scope → ℕ → Language
Target sc v = Bracketed (Variable sc v) ⊙ MayGap ⊙ Bracketed (Variable sc v)

module _ (tables : Sizes) (bytes : List ℕ) (sc : Scope) (once : IsDistinct same_word sc.names) where
  -- v is none of these, as reading asks it
  member_is : (v : ℕ) (seen : List ℕ) → member v seen ≡ list_any (nat_eq v) seen
  member_is v seen = λ k. list_any (λ x. nat_eq_equiv.symm x v k) seen

  abbrev NeedsFresh : Sizes → List ℕ → ℕ → Type 0
  NeedsFresh t seen v = Fresh nat_eq nat_eq_equiv (λ v. v) seen v × Unit {0}

  unseen_agrees : (seen : List ℕ) → Agrees tables bytes (read_unseen sc false seen) (λ v. v) (record { spells = Variable sc; needs = λ t. NeedsFresh t seen }) (Stops name_byte bytes)
  unfolding read_unseen
  unseen_agrees seen =
      kept_agrees (Fresh nat_eq nat_eq_equiv (λ v. v) seen) (λ i v j. cond (member v seen) (refuse Unknown i) (got v j))
      (λ i v j l e h. cond-false _ _ _ (member_is v seen ∙ h))
      (λ i v j l e c k h. let u = unless_got (member v seen) (got v j) _ h in (u.1, sym (member_is v seen) ∙ u.0))
      (variable_agrees tables bytes sc once)

  unseen_refused : (seen : List ℕ) (i v j : ℕ) → (read_gap ▷ read_unseen sc true seen) bytes i ≡ got v j → ⊥
  unfolding read_unseen
  unseen_refused seen i v j e =
      let t = then_got (read_gap bytes i) (λ _ i. read_unseen sc true seen bytes i) e in
      refused_got (then_got (read_name bytes t.1) (λ s j. refuse Limit t.1) t.3).3

  -- a gap and a further name, or the closing bracket
  repeats : Repeats tables bytes goes_on (λ full seen. read_gap ▷ read_unseen sc full seen) (λ seen. read_close giving (λ _. seen)) (λ v. v) (λ v. Gap ⊙ Variable sc v) Close (λ t n. n < 8) NeedsFresh (Stops name_byte bytes) Anywhere 8
  repeats = record {
    items = λ seen.
        subst (λ s. Agrees tables bytes (read_gap ▷ read_unseen sc false seen) (λ v. v) (record { spells = λ v. Gap ⊙ Variable sc v; needs = λ t. NeedsFresh t s }) (Stops name_byte bytes)) (sym (map-id seen))
        (after_agrees gap_agrees (unseen_agrees seen) (λ v i j s stop. variable_stops bytes sc v s));
    ends = λ seen i all j l e.
        let t = then_got (read_close bytes i) (λ _ i. got seen i) e in
        (sym (got_what t.3), subst (Spelt Close bytes i) (got_next t.3) ((close_agrees {tables = tables}).sound i t.0 t.1 l t.2).spelt);
    ended = λ seen i j s stop. ap (λ o. and_then o (λ _ i. got seen i)) (surely ((close_agrees {tables = tables}).complete i tt j s tt tt)).1;
    item_stops = λ v i j s. separator_no_name (byte bytes i) (white_begins bytes 32 refl (parts s).1);
    end_stops = λ i j s stop. close_stops bytes name_byte separator_no_name refl s;
    goes_on = λ v i j s.
        let c = parts s in
        let first = variable_begins bytes sc v c.2 in
        let at = past_gap_is bytes i c.0 (spelt_as (λ w h. inr h) c.1) (letter_no_separator (byte bytes c.0) first) in
        not_from_false _ (ap (stands 41 bytes) at ∙ stands_byte 41 (omega arith) bytes c.0 ∙ letter_is_not (byte bytes c.0) 41 first (omega arith));
    goes_off = λ i j s stop.
        let c = parts s in
        let at = past_gap_is bytes i c.0 c.1 (ap separator (begins_with bytes 41 [] (omega arith) c.2)) in
        not_from_true _ (ap (stands 41 bytes) at ∙ byte_stands bytes 41 (omega arith) c.2);
    full = λ seen i a j e. unseen_refused seen i a j e;
    opened = λ n h. (h, h);
    shut = λ seen b i j h s. absurd (omega arith);
  }

  -- none of them is listed twice
  abbrev NoneTwice : List ℕ → Type 0
  NoneTwice vs = (length vs ≤ 8) × IsDistinct nat_eq vs

  abbrev SomeFresh : ℕ → List ℕ → Type 0
  SomeFresh v vs = AllNeed (λ n. n < 8) (NeedsFresh limits) 1 (v ∷ []) vs

  twice_there : (v : ℕ) (vs : List ℕ) → SomeFresh v vs → NoneTwice (v ∷ vs)
  unfolding IsDistinct
  twice_there v vs h =
      let r = fresh_there nat_eq nat_eq_equiv (λ v. v) 8 1 (v ∷ []) vs (tt, tt) h in
      let l = r.0 in
      (omega arith, subst (IsDistinct nat_eq) (map-id (v ∷ vs)) r.1)

  twice_back : (v : ℕ) (vs : List ℕ) → NoneTwice (v ∷ vs) → SomeFresh v vs
  twice_back v vs h =
      let l = h.0 in
      fresh_back nat_eq nat_eq_equiv (λ v. v) 8 1 (v ∷ []) vs (omega arith) (subst (IsDistinct nat_eq) (sym (map-id (v ∷ vs))) h.1)

  names_agrees : Agrees tables bytes (read_names sc) (λ vs. vs) (kept NoneTwice (plain (Names sc))) Anywhere
  unfolding read_names IsDistinct
  names_agrees = record {
    sound = λ i vs j l e.
        ⊎_elim
        (λ t. stands_as (λ vs. vs) {P = kept NoneTwice (plain (Names sc))} t.1 (record { spelt = byte_spelt bytes 41 (omega arith) i l t.0; keeps = ((omega arith, tt), tt); fits = ((omega arith, tt), tt) }))
        (λ t.
        let u = then_got (read_variable sc bytes i) (λ v j. read_more sc 7 (v ∷ []) bytes j) t.1 in
        let s = ((variable_agrees tables bytes sc once).sound i u.0 u.1 l u.2).spelt in
        let m = many_sound repeats 7 1 (u.0 ∷ []) u.1 vs j (omega arith) s.within u.3 in
        let is : vs ≡ u.0 ∷ m.rest = sym (map-id vs) ∙ m.is in
        let n = twice_there u.0 m.rest m.keeps in
        subst (λ vs. Stands tables bytes (kept NoneTwice (plain (Names sc))) i vs j) (sym is) (record { spelt = joins s m.spelt; keeps = (n, tt); fits = (n, tt) }))
        (either_got (stands 41 bytes i) _ _ e);
    complete = λ i vs j s n stop. by i vs j s n.0;
  }
    where
      by : (i : ℕ) (vs : List ℕ) (j : ℕ) → Spelt (Names sc vs) bytes i j → NoneTwice vs → Finds tables bytes (λ vs. vs) (NoneTwice vs × Unit {0}) (read_names sc bytes i) vs j
      by i [] j s n = found [] (cond-true _ _ _ (byte_stands bytes 41 (omega arith) s) ∙ ap (got []) (just_next s)) refl
      by i (v ∷ vs) j s n =
          let c = parts s in
          let first = variable_begins bytes sc v c.1 in
          let open_list : stands 41 bytes i ≡ false = stands_byte 41 (omega arith) bytes i ∙ letter_is_not (byte bytes i) 41 first (omega arith) in
          let more : Stops name_byte bytes c.0 = after_first vs c.2 in
          let fresh = twice_back v vs n in
          subst (λ o. Finds tables bytes (λ vs. vs) (NoneTwice (v ∷ vs) × Unit {0}) o (v ∷ vs) j) (sym (cond-false _ _ _ open_list))
          (finds_then (λ vs. vs) (NoneTwice (v ∷ vs) × Unit {0}) (v ∷ vs) j (λ v j. read_more sc 7 (v ∷ []) bytes j)
          ((variable_agrees tables bytes sc once).complete i v c.0 c.1 tt more) (λ m. tt)
          (λ a _ is.
          listed a v vs is (many_complete repeats 7 1 (a ∷ []) c.0 vs j (omega arith) c.2 (subst (λ a. SomeFresh a vs) (sym is) fresh) tt)))
        where
          after_first : (vs : List ℕ) {i j : ℕ} → Spelt (MoreNames sc vs) bytes i j → Stops name_byte bytes i
          after_first [] s = close_stops bytes name_byte separator_no_name refl s
          after_first (v ∷ vs) {i = i} s = separator_no_name (byte bytes i) (white_begins bytes 32 refl (parts (parts s).1).1)

          listed : (a v : ℕ) (vs : List ℕ) → a ≡ v → {o : Answer (List ℕ)} {j : ℕ} → Finds tables bytes (map (λ v. v)) (SomeFresh a vs) o (a ∷ vs) j → Finds tables bytes (λ vs. vs) (NoneTwice (v ∷ vs) × Unit {0}) o (v ∷ vs) j
          listed a v vs same (found all e is) = found all e (sym (map-id all) ∙ is ∙ ap (λ a. a ∷ vs) same)
          listed a v vs same (short place e lacks) = short place e (λ m. lacks (subst (λ a. SomeFresh a vs) (sym same) (twice_back v vs m.0)))

  names_stop : (vs : List ℕ) {i j : ℕ} → Spelt (Names sc vs) bytes i j → Stops separator bytes i
  names_stop [] s = ap separator (begins_with bytes 41 [] (omega arith) s)
  names_stop (v ∷ vs) s = variable_stops bytes sc v (parts s).1

  pub listing_agrees : Agrees tables bytes (read_listing sc) (λ vs. vs) (plain (Listing sc)) Anywhere
  unfolding read_listing
  listing_agrees =
      renamed (plain (Listing sc)) (λ vs w h. (h.0.0, h.0.1, h.1)) (λ vs w h. ((h.0, h.1), h.2)) (λ t vs n. n) (λ t vs n. n)
      (spelling {P = plain (λ vs. Just (codes "(") ⊙ MayGap ⊙ Names sc vs)} NoneTwice
      (after_agrees (mark_agrees (codes "("))
      (after_agrees may_gap_agrees names_agrees (λ vs i j s stop. names_stop vs s))
      (λ vs i j s stop. tt)))

  close_after_name : (v : ℕ) {i j : ℕ} → Spelt (Variable sc v ⊙ Close) bytes i j → Stops separator bytes i
  close_after_name v s = variable_stops bytes sc v (parts s).1

  pub single_agrees : Agrees tables bytes (read_single sc) (λ v. v) (plain (λ v. Bracketed (Variable sc v))) Anywhere
  unfolding read_single
  single_agrees =
      after_agrees (mark_agrees (codes "("))
      (after_agrees may_gap_agrees
      (before_agrees (variable_agrees tables bytes sc once) close_agrees (λ b i j s stop. close_stops bytes name_byte separator_no_name refl s))
      (λ v i j s stop. close_after_name v s))
      (λ v i j s stop. tt)

  again_agrees : (v : ℕ) → Agrees tables bytes (read_again sc v) (λ u. u) (mark (Variable sc v)) (Stops name_byte bytes)
  unfolding read_again
  again_agrees v = record {
    sound = λ i a j l e.
        let t = then_got (read_variable sc bytes i) (λ u j. cond (eqb u v) (got tt j) (refuse Unknown i)) e in
        let u = when_got (eqb t.0 v) (got tt t.1) _ t.3 in
        let s = ((variable_agrees tables bytes sc once).sound i t.0 t.1 l t.2).spelt in
        record { spelt = subst (Spelt (Variable sc v) bytes i) (got_next u.1) (subst (λ v. Spelt (Variable sc v) bytes i t.1) (eqb-true t.0 v u.0) s); keeps = tt; fits = tt };
    complete = λ i b j s n stop.
        finds_then (λ u. u) (Unit {0}) tt j (λ u j. cond (eqb u v) (got tt j) (refuse Unknown i))
        ((variable_agrees tables bytes sc once).complete i v j s tt stop) (λ m. tt)
        (λ a _ is. found tt (cond-true _ _ _ (eq-eqb a v is)) refl);
  }

  repeated_agrees : (v : ℕ) → Agrees tables bytes (read_repeated sc v) (λ u. u) (mark (MayGap ⊙ Bracketed (Variable sc v))) Anywhere
  unfolding read_repeated
  repeated_agrees v =
      after_agrees may_gap_agrees
      (after_agrees (mark_agrees (codes "("))
      (after_agrees may_gap_agrees
      (after_agrees (again_agrees v) close_agrees (λ b i j s stop. close_stops bytes name_byte separator_no_name refl s))
      (λ b i j s stop. close_after_name v s))
      (λ b i j s stop. tt))
      (λ b i j s stop. ap separator (begins_with bytes 40 [] (omega arith) (parts s).1))

  pub target_agrees : Agrees tables bytes (read_target sc) (λ v. v) (plain (Target sc)) Anywhere
  target_agrees =
      renamed (plain (Target sc)) (λ v w h. subst (λ v. Target sc v w) h.1 h.2) (λ v w h. ((v, tt), refl, h)) (λ t v n. n) (λ t v n. n)
      (image_agrees (λ p. p.0) (λ v. v) (λ p. p.0) (λ t v. Unit {0})
      (pair_agrees (λ v. mark (MayGap ⊙ Bracketed (Variable sc v))) single_agrees (λ v _. repeated_agrees v) (λ v _ b i j s stop. tt))
      (λ p. refl) (λ t p n. tt) (λ t p n. (tt, tt)))

  pub target_stops : (v : ℕ) {i j : ℕ} → Spelt (Target sc v) bytes i j → Stops separator bytes i
  target_stops v s = ap separator (begins_with bytes 40 [] (omega arith) (parts (parts s).1).1)
