-- What a run does past a statement, by the stores before and after it.
use Rattle.std.proofs.Common.{◌≡◌, ◌↔◌, ℕ, zero, suc, ◌+◌, ◌*◌, ◌<◌, Bool, true, false, not, ◌||◌, ◌≢◌, List, [], ◌∷◌, length, get_or, set, eqb, ltb, ℤ, pos, refl, sym, ap, ◌∙◌, subst, ⊎_elim, arith, length-set}
use Rattle.std.proofs.lemmas.Bool.{and_parts, and_from, cases_eq, ltb-true, eqb-false, ne_eqb, not-true}
use Rattle.std.proofs.lemmas.List.{ext_get_or, get_or-set_same, get_or-set_other}
use Rattle.std.specs.List.{flat_map, list_all, list_any}
use Rattle.flow.proofs.Leading.{never}
use Rattle.jcode.specs.declared.mention.Aspect.{Aspect}
use Rattle.jcode.specs.declared.mention.Aspect.TheVariants.{Value, Shadow}
use Rattle.jcode.specs.declared.variable.Domain.{Domain}
use Rattle.jcode.specs.declared.variable.Domain.TheVariants.{Integer, Boolean}
use Rattle.jcode.specs.Sentences.{Sentence, Hang, Require, Proclaim, New, Assign}
use Rattle.jcode.specs.Units.{JUnit}
use Rattle.reckoning.specs.Ranges.{within}
use Rattle.checking.specs.Pieces.{is_list}
use Rattle.checking.specs.Tests.{apart}
use Rattle.checking.specs.Types.{domains, domain_bounds}
use Rattle.sheets.specs.Runs.{sentence, are_of, with_shadows, types_at, Fitting, stored, entry_of, number_in, listed, Demands, Acts}
use Rattle.sheets.specs.Matches.{terms_kept, Sensible, value_in, shadow_in, Asks, Passes}
use Rattle.sheets.proofs.Typing.{length-are_of, length-types_at, length-domains, length-fitting}

-- ---- each entry of a store is a value or a shadow
entry_is : (k : ℕ) → (a : Aspect) × (v : ℕ) × (k ≡ entry_of a v)
entry_is zero = (Value, 0, refl)
entry_is (suc zero) = (Shadow, 0, refl)
entry_is (suc (suc k)) = further (entry_is k)
  where
    further : ((a : Aspect) × (v : ℕ) × (k ≡ entry_of a v)) → (a : Aspect) × (v : ℕ) × (suc (suc k) ≡ entry_of a v)
    further (Value, v, e) = (Value, suc v, omega arith)
    further (Shadow, v, e) = (Shadow, suc v, omega arith)

abbrev at : List ℤ → Aspect → ℕ → ℤ
at s a v = get_or s (entry_of a v) (pos 0)

same_variable : (a : Aspect) (v n : ℕ) → entry_of a v < 2 * n → v < n
same_variable Value v n h = omega arith
same_variable Shadow v n h = omega arith

same_stores : (n : ℕ) (s t : List ℤ) → length s ≡ 2 * n → length t ≡ 2 * n → ((a : Aspect) (v : ℕ) → v < n → at s a v ≡ at t a v) → s ≡ t
same_stores n s t l m h =
    ext_get_or (pos 0) s t (l ∙ sym m)
    (λ k inside.
    let e = entry_is k in
    let below : entry_of e.0 e.1 < 2 * n = subst (λ j. j < 2 * n) e.2 (subst (λ j. k < j) l inside) in
    subst (λ j. get_or s j (pos 0) ≡ get_or t j (pos 0)) (sym e.2) (h e.0 e.1 (same_variable e.0 e.1 n below)))

-- ---- two numbers put in for a variable
abbrev with_two : List ℤ → ℕ → ℤ → ℤ → List ℤ
with_two s v x d = set (set s (2 * v) x) (2 * v + 1) d

length_two : (s : List ℤ) (v : ℕ) (x d : ℤ) → length (with_two s v x d) ≡ length s
length_two s v x d = length-set (set s (2 * v) x) (2 * v + 1) d ∙ length-set s (2 * v) x

elsewhere : (a : Aspect) (w v : ℕ) → w ≢ v → (entry_of a w ≢ 2 * v) × (entry_of a w ≢ 2 * v + 1)
elsewhere Value w v h = (λ e. h (omega arith), λ e. absurd (omega arith))
elsewhere Shadow w v h = (λ e. absurd (omega arith), λ e. h (omega arith))

other_entry : (s : List ℤ) (v w : ℕ) (x d : ℤ) (a : Aspect) → w ≢ v → at (with_two s v x d) a w ≡ at s a w
other_entry s v w x d a h =
    get_or-set_other (set s (2 * v) x) (2 * v + 1) (entry_of a w) d (pos 0) (elsewhere a w v h).1
    ∙ get_or-set_other s (2 * v) (entry_of a w) x (pos 0) (elsewhere a w v h).0

abbrev of_two : Aspect → ℤ → ℤ → ℤ
of_two Value x d = x
of_two Shadow x d = d

this_entry : (n : ℕ) (s : List ℤ) (v : ℕ) (x d : ℤ) → length s ≡ 2 * n → v < n → (a : Aspect) → at (with_two s v x d) a v ≡ of_two a x d
this_entry n s v x d l h Value = get_or-set_other (set s (2 * v) x) (2 * v + 1) (2 * v) d (pos 0) (λ e. omega arith) ∙ get_or-set_same s (2 * v) x (pos 0) (omega arith)
this_entry n s v x d l h Shadow = get_or-set_same (set s (2 * v) x) (2 * v + 1) d (pos 0) (omega (arith, length-set s (2 * v) x))

-- ---- numbers put in for the listed variables
unlisted : (w v : ℕ) (vs : List ℕ) → list_any (eqb w) (v ∷ vs) ≡ false → (w ≢ v) × (list_any (eqb w) vs ≡ false)
unlisted w v vs h = by (eqb w v) refl h
  where
    by : (b : Bool) → eqb w v ≡ b → (b || list_any (eqb w) vs) ≡ false → (w ≢ v) × (list_any (eqb w) vs ≡ false)
    by true e k = never (sym k)
    by false e k = (eqb-false w v e, k)

unlisted_from : (w v : ℕ) (vs : List ℕ) → w ≢ v → list_any (eqb w) vs ≡ false → list_any (eqb w) (v ∷ vs) ≡ false
unlisted_from w v vs h k = ap (λ b. b || list_any (eqb w) vs) (ne_eqb w v h) ∙ k

stays : (a : Aspect) (w : ℕ) (vs : List ℕ) (xs s : List ℤ) → list_any (eqb w) vs ≡ false → at (stored vs xs s) a w ≡ at s a w
stays a w [] xs s h = refl
stays a w (v ∷ vs) [] s h = refl
stays a w (v ∷ vs) (x ∷ []) s h = refl
stays a w (v ∷ vs) (x ∷ d ∷ xs) s h = let u = unlisted w v vs h in stays a w vs xs (with_two s v x d) u.1 ∙ other_entry s v w x d a u.0

abbrev pub read_off : List ℕ → List ℤ → List ℤ
read_off vs t = flat_map (λ v. value_in t v ∷ shadow_in t v ∷ []) vs

abbrev Below : ℕ → List ℕ → Type 0
Below n vs = list_all (λ v. ltb v n) vs ≡ true

-- what is put in is read off again, where none is listed twice
pub reads_back : (n : ℕ) (vs : List ℕ) (xs s : List ℤ) → Below n vs → apart eqb vs ≡ true → length s ≡ 2 * n → length xs ≡ 2 * length vs → xs ≡ read_off vs (stored vs xs s)
reads_back n [] [] s b o l m = refl
reads_back n [] (x ∷ xs) s b o l m = absurd (omega arith)
reads_back n (v ∷ vs) [] s b o l m = absurd (omega arith)
reads_back n (v ∷ vs) (x ∷ []) s b o l m = absurd (omega arith)
reads_back n (v ∷ vs) (x ∷ d ∷ xs) s b o l m =
    let inside = and_parts (ltb v n) _ b in
    let once = and_parts (not (list_any (eqb v) vs)) _ o in
    let own = λ (a : Aspect). stays a v vs xs (with_two s v x d) (not-true _ once.0) ∙ this_entry n s v x d l (ltb-true v n inside.0) a in
    let rest = reads_back n vs xs (with_two s v x d) inside.1 once.1 (length_two s v x d ∙ l) (omega arith) in
    λ i. sym (own Value) i ∷ sym (own Shadow) i ∷ rest i

-- a store that keeps all but the listed ones is what comes of putting in theirs
pub comes_of : (n : ℕ) (t : List ℤ) (vs : List ℕ) (s : List ℤ) → Below n vs → length s ≡ 2 * n → length t ≡ 2 * n → ((a : Aspect) (w : ℕ) → w < n → list_any (eqb w) vs ≡ false → at t a w ≡ at s a w) → t ≡ stored vs (read_off vs t) s
comes_of n t [] s b l m kept = same_stores n t s m l (λ a w h. kept a w h refl)
comes_of n t (v ∷ vs) s b l m kept =
    let inside = and_parts (ltb v n) _ b in
    let x = value_in t v in
    let d = shadow_in t v in
    let own : (a : Aspect) → of_two a x d ≡ at t a v = λ a. elim a as (λ a. of_two a x d ≡ at t a v) [ Value ↦ refl | Shadow ↦ refl ] in
    comes_of n t vs (with_two s v x d) inside.1 (length_two s v x d ∙ l) m
    (λ a w h none.
    ⊎_elim
    (λ e. subst (λ k. at t a k ≡ at (with_two s v x d) a k) (sym e) (sym (this_entry n s v x d l (ltb-true v n inside.0) a ∙ own a)))
    (λ ne. kept a w h (unlisted_from w v vs ne none) ∙ sym (other_entry s v w x d a ne))
    (cases_eq w v))

-- ---- numbers in their types
one_stored : (ds : List Domain) (s : List ℤ) (v : ℕ) (x d : ℤ) → are_of (with_shadows ds) s ≡ true → within (domain_bounds (get_or ds v Integer)) x ≡ true → within (domain_bounds Boolean) d ≡ true
    → are_of (with_shadows ds) (with_two s v x d) ≡ true
one_stored [] [] v x d h p q = refl
one_stored [] (a ∷ s) v x d h p q = never h
one_stored (e ∷ ds) [] v x d h p q = never h
one_stored (e ∷ ds) (a ∷ []) v x d h p q = never (and_parts _ _ h).1
one_stored (e ∷ ds) (a ∷ b ∷ s) zero x d h p q = and_from _ _ p (and_from _ _ q (and_parts _ _ (and_parts _ _ h).1).1)
one_stored (e ∷ ds) (a ∷ b ∷ s) (suc v) x d h p q =
    let even : suc (suc (2 * v)) ≡ 2 * suc v = omega arith in
    let odd : suc (suc (2 * v + 1)) ≡ 2 * suc v + 1 = omega arith in
    let first = and_parts _ _ h in
    let second = and_parts _ _ first.1 in
    let same : a ∷ b ∷ with_two s v x d ≡ with_two (a ∷ b ∷ s) (suc v) x d = λ i. set (set (a ∷ b ∷ s) (even i) x) (odd i) d in
    subst (λ t. are_of (with_shadows (e ∷ ds)) t ≡ true) same (and_from _ _ first.0 (and_from _ _ second.0 (one_stored ds s v x d second.1 p q)))

pub stored_fits : (u : JUnit) (vs : List ℕ) (given s : List ℤ) → are_of (types_at u vs) given ≡ true → Fitting u s → Fitting u (stored vs given s)
stored_fits u [] given s h f = f
stored_fits u (v ∷ vs) [] s h f = f
stored_fits u (v ∷ vs) (x ∷ []) s h f = f
stored_fits u (v ∷ vs) (x ∷ d ∷ given) s h f =
    let first = and_parts _ _ h in
    let second = and_parts _ _ first.1 in
    stored_fits u vs given (with_two s v x d) second.1 (one_stored (domains u) s v x d f first.0 second.0)

one_typed : (ds : List Domain) (t : List ℤ) (v : ℕ) → are_of (with_shadows ds) t ≡ true → v < length ds
    → (within (domain_bounds (get_or ds v Integer)) (value_in t v) ≡ true) × (within (domain_bounds Boolean) (shadow_in t v) ≡ true)
one_typed [] t v h l = absurd (omega arith)
one_typed (e ∷ ds) [] v h l = never h
one_typed (e ∷ ds) (a ∷ []) v h l = never (and_parts _ _ h).1
one_typed (e ∷ ds) (a ∷ b ∷ t) zero h l = let first = and_parts _ _ h in (first.0, (and_parts _ _ first.1).0)
one_typed (e ∷ ds) (a ∷ b ∷ t) (suc v) h l =
    let even : suc (suc (2 * v)) ≡ 2 * suc v = omega arith in
    let odd : suc (suc (2 * v + 1)) ≡ 2 * suc v + 1 = omega arith in
    let rest = one_typed ds t v (and_parts _ _ (and_parts _ _ h).1).1 (omega arith) in (
      subst (λ k. within (domain_bounds (get_or ds v Integer)) (get_or (a ∷ b ∷ t) k (pos 0)) ≡ true) even rest.0,
      subst (λ k. within (domain_bounds Boolean) (get_or (a ∷ b ∷ t) k (pos 0)) ≡ true) odd rest.1,
    )

all_typed : (u : JUnit) (t : List ℤ) (vs : List ℕ) → Fitting u t → Below (length u.variables) vs → are_of (types_at u vs) (read_off vs t) ≡ true
all_typed u t [] f b = refl
all_typed u t (v ∷ vs) f b =
    let inside = and_parts (ltb v (length u.variables)) _ b in
    let one = one_typed (domains u) t v f (omega (arith, ltb-true v (length u.variables) inside.0, length-domains u)) in
    and_from _ _ one.0 (and_from _ _ one.1 (all_typed u t vs f inside.1))

-- ---- what is asked
list_kept : {T : Type 0} (count : ℕ) (st : Sentence T) → terms_kept count st ≡ true → Below count (listed st) × (apart eqb (listed st) ≡ true)
list_kept count (New vs e x) h = and_parts (list_all (λ v. ltb v count) vs) _ (and_parts _ _ (and_parts (is_list count vs) _ h).0).1
list_kept count (Assign v e f) h = (and_from _ _ (and_parts (ltb v count) _ h).0 refl, refl)
list_kept count st h = (refl, refl)

demands_ask : {T : Type 0} (st : Sentence T) (given s t : List ℤ) → t ≡ stored (listed st) given s → given ≡ read_off (listed st) t → Demands st s given ↔ Asks st s t
demands_ask Hang given s t after back = (λ d. d, λ a. a)
demands_ask (Require e x) given s t after back = (λ d. d, λ a. a)
demands_ask (Proclaim e) given s t after back = (λ d. d, λ a. a)
demands_ask (New vs e x) given s t after back = (subst (λ r. number_in s r e ≡ pos 1) (sym after), subst (λ r. number_in s r e ≡ pos 1) after)
demands_ask (Assign v e f) given s t after back = (
  λ d. (ap (λ l. get_or l 0 (pos 0)) (sym back ∙ d), ap (λ l. get_or l 1 (pos 0)) (sym back ∙ d)),
  λ a. back ∙ (λ i. a.0 i ∷ a.1 i ∷ []),
)
demands_ask st given s t after back = (λ d. tt, λ a. tt)

module _ (u : JUnit) (sensible : Sensible u) (i : ℕ) (given s t : List ℤ) (fit : Fitting u s) where
  abbrev vs : List ℕ
  vs = listed (sentence u i)

  abbrev list : Below (length u.variables) vs × (apart eqb vs ≡ true)
  list = list_kept (length u.variables) (sentence u i) (sensible.terms i)

  acts_pass : Acts u (sentence u i) given s t → Passes u (sentence u i) given s t
  acts_pass a =
      let as_many : length given ≡ 2 * length vs = length-are_of (types_at u vs) given a.typed ∙ length-types_at u vs in
      let back : given ≡ read_off vs t = reads_back (length u.variables) vs given s list.0 list.1 (length-fitting u s fit) as_many ∙ ap (read_off vs) (sym a.after) in
      record {
        fitting = subst (Fitting u) (sym a.after) (stored_fits u vs given s a.typed fit);
        asked = (demands_ask (sentence u i) given s t a.after back).0 a.demanded;
        kept = λ v none. (ap (λ r. value_in r v) a.after ∙ stays Value v vs given s none, ap (λ r. shadow_in r v) a.after ∙ stays Shadow v vs given s none);
        gives = back;
      }

  passes_act : Passes u (sentence u i) given s t → Acts u (sentence u i) given s t
  passes_act p =
      let same : (a : Aspect) (w : ℕ) → w < length u.variables → list_any (eqb w) vs ≡ false → at t a w ≡ at s a w
      = λ a w h none. elim a as (λ a. at t a w ≡ at s a w) [ Value ↦ (p.kept w none).0 | Shadow ↦ (p.kept w none).1 ] in
      let after : t ≡ stored vs given s = comes_of (length u.variables) t vs s list.0 (length-fitting u s fit) (length-fitting u t p.fitting) same ∙ ap (λ g. stored vs g s) (sym p.gives) in
      record {
        typed = subst (λ g. are_of (types_at u vs) g ≡ true) (sym p.gives) (all_typed u t vs p.fitting list.0);
        demanded = (demands_ask (sentence u i) given s t after p.gives).1 p.asked;
        after = after;
      }

pub acts_as : (u : JUnit) → Sensible u → (i : ℕ) (given s t : List ℤ) → Fitting u s → Acts u (sentence u i) given s t ↔ Passes u (sentence u i) given s t
acts_as u sensible i given s t fit = (acts_pass u sensible i given s t fit, passes_act u sensible i given s t fit)
