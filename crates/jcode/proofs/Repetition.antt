-- One thing after another: reading and spelling agree.
use Rattle.std.proofs.Common.{◌≡◌, ℕ, zero, suc, ◌+◌, ◌<◌, ◌≤◌, Bool, true, false, List, [], ◌∷◌, ◌++◌, map, length, sym, ap, ◌∙◌, subst, ⊎_elim, arith}
use Rattle.std.proofs.lemmas.Bool.{cond-true, cond-false}
use Rattle.std.proofs.lemmas.List.{append_assoc, append-nil, map_push}
use Rattle.jcode.specs.declared.refusal.Refusal.TheVariants.{Table}
use Rattle.jcode.specs.Language.{Language, Many, Spelt}
use Rattle.jcode.specs.Spelling.{Sizes, limits}
use Rattle.jcode.specs.Pieces.{Answer, got, Reader, refuse, and_then, repeated}
use Rattle.jcode.proofs.Outcomes.{then_got, either_got}
use Rattle.jcode.proofs.Places.{joins, parts}
use Rattle.jcode.proofs.Agreement.{Finds, found, short, Stands, Agrees, finds_then, finds_as}

-- after so many things, each has its place and what it needs after those that are seen
abbrev pub AllNeed : {B : Type 0} → (ℕ → Type 0) → (List B → B → Type 0) → ℕ → List B → List B → Type 0
AllNeed room needs n seen [] = Unit {0}
AllNeed room needs n seen (b ∷ bs) = room n × needs seen b × AllNeed room needs (n + 1) (seen ++ b ∷ []) bs

-- what holds where every end is told holds where things are told
pub repeated_ends : {A : Type 0} (bytes : List ℕ) (more : List ℕ → ℕ → Bool) (step : Bool → List A → Reader A) (done : List A → Reader (List A)) (C : ℕ → Type 0) → ((seen : List A) (i : ℕ) (all : List A) (j : ℕ) → done seen bytes i ≡ got all j → C j) → ((seen : List A) (i : ℕ) (a : A) (j : ℕ) → step true seen bytes i ≡ got a j → ⊥) → (left : ℕ) (seen : List A) (i : ℕ) (all : List A) (j : ℕ) → repeated more step done left seen bytes i ≡ got all j → C j
repeated_ends bytes more step done C ends full zero seen i all j e =
    ⊎_elim
    (λ t. let u = then_got (step true seen bytes i) (λ _ j. got seen j) t.1 in absurd (full seen i u.0 u.1 u.2))
    (λ t. ends seen i all j t.1)
    (either_got (more bytes i) _ _ e)
repeated_ends bytes more step done C ends full (suc left) seen i all j e =
    ⊎_elim
    (λ t. let u = then_got (step false seen bytes i) (λ a j. repeated more step done left (seen ++ a ∷ []) bytes j) t.1 in
    repeated_ends bytes more step done C ends full left (seen ++ u.0 ∷ []) u.1 all j u.3)
    (λ t. ends seen i all j t.1)
    (either_got (more bytes i) _ _ e)

module _ (tables : Sizes) (bytes : List ℕ) {A B : Type 0} (more : List ℕ → ℕ → Bool) (step : Bool → List A → Reader A) (done : List A → Reader (List A)) (view : A → B) (item : B → Language) (end : Language) (room : Sizes → ℕ → Type 0) (needs : Sizes → List B → B → Type 0) (p q : ℕ → Type 0) where
  -- how the parts of a repeated reading agree, where at most so many things may come
  pub record Repeats (most : ℕ) : Type 0 where
    pub items : (seen : List A) → Agrees tables bytes (step false seen) view (record { spells = item; needs = λ t. needs t (map view seen) }) p
    pub ends : (seen : List A) (i : ℕ) (all : List A) (j : ℕ) → i ≤ length bytes → done seen bytes i ≡ got all j → (all ≡ seen) × Spelt end bytes i j
    pub ended : (seen : List A) (i j : ℕ) → Spelt end bytes i j → q j → done seen bytes i ≡ got seen j
    pub item_stops : (b : B) (i j : ℕ) → Spelt (item b) bytes i j → p i
    pub end_stops : (i j : ℕ) → Spelt end bytes i j → q j → p i
    pub goes_on : (b : B) (i j : ℕ) → Spelt (item b) bytes i j → more bytes i ≡ true
    pub goes_off : (i j : ℕ) → Spelt end bytes i j → q j → more bytes i ≡ false
    pub full : (seen : List A) (i : ℕ) (a : A) (j : ℕ) → step true seen bytes i ≡ got a j → ⊥
    pub opened : (n : ℕ) → n < most → room limits n × room tables n
    pub shut : (seen : List A) (b : B) (i j : ℕ) → room limits most → Spelt (item b) bytes i j → (place : ℕ) × (step true seen bytes i ≡ refuse Table place) × (room tables most → ⊥)

-- what was seen, and what stands after it
pub record Seen {B : Type 0} (tables : Sizes) (bytes : List ℕ) (item : B → Language) (end : Language) (room : Sizes → ℕ → Type 0) (needs : Sizes → List B → B → Type 0) (n : ℕ) (seen : List B) (i : ℕ) (all : List B) (j : ℕ) : Type 0 where
  pub rest : List B
  pub is : all ≡ seen ++ rest
  pub spelt : Spelt (Many item end rest) bytes i j
  pub keeps : AllNeed (room limits) (needs limits) n seen rest
  pub fits : AllNeed (room tables) (needs tables) n seen rest

module _ {tables : Sizes} {bytes : List ℕ} {A B : Type 0} {more : List ℕ → ℕ → Bool} {step : Bool → List A → Reader A} {done : List A → Reader (List A)} {view : A → B} {item : B → Language} {end : Language} {room : Sizes → ℕ → Type 0} {needs : Sizes → List B → B → Type 0} {p q : ℕ → Type 0} {most : ℕ} (r : Repeats tables bytes more step done view item end room needs p q most) where
  abbrev All : Sizes → ℕ → List B → List B → Type 0
  All t = AllNeed (room t) (needs t)

  abbrev Found : ℕ → List B → ℕ → List B → ℕ → Type 0
  Found = Seen tables bytes item end room needs

  closed : (n : ℕ) (seen : List A) (i : ℕ) (all : List A) (j : ℕ) → i ≤ length bytes → done seen bytes i ≡ got all j → Found n (map view seen) i (map view all) j
  closed n seen i all j l e =
      let d = r.ends seen i all j l e in
      record { rest = []; is = ap (map view) d.0 ∙ sym (append-nil (map view seen)); spelt = d.1; keeps = tt; fits = tt }

  one_more : (n : ℕ) (seen : List A) (a : A) (i k j : ℕ) (all : List B) → n < most → Stands tables bytes (record { spells = item; needs = λ t. needs t (map view seen) }) i (view a) k → Found (n + 1) (map view (seen ++ a ∷ [])) k all j → Found n (map view seen) i all j
  one_more n seen a i k j all h s t =
      let e = map_push view seen a in
      let o = r.opened n h in
      record {
        rest = view a ∷ t.rest;
        is = t.is ∙ ap (λ s. s ++ t.rest) e ∙ append_assoc (map view seen) (view a ∷ []) t.rest;
        spelt = joins s.spelt t.spelt;
        keeps = (o.0, s.keeps, subst (λ s. All limits (n + 1) s t.rest) e t.keeps);
        fits = (o.1, s.fits, subst (λ s. All tables (n + 1) s t.rest) e t.fits);
      }

  pub many_sound : (left n : ℕ) (seen : List A) (i : ℕ) (all : List A) (j : ℕ) → left + n ≡ most → i ≤ length bytes → repeated more step done left seen bytes i ≡ got all j → Found n (map view seen) i (map view all) j
  many_sound zero n seen i all j count l e =
      ⊎_elim
      (λ t. let u = then_got (step true seen bytes i) (λ _ j. got seen j) t.1 in absurd (r.full seen i u.0 u.1 u.2))
      (λ t. closed n seen i all j l t.1)
      (either_got (more bytes i) _ _ e)
  many_sound (suc left) n seen i all j count l e =
      ⊎_elim
      (λ t.
      let u = then_got (step false seen bytes i) (λ a j. repeated more step done left (seen ++ a ∷ []) bytes j) t.1 in
      let s = (r.items seen).sound i u.0 u.1 l u.2 in
      one_more n seen u.0 i u.1 j (map view all) (omega arith) s (many_sound left (n + 1) (seen ++ u.0 ∷ []) u.1 all j (omega arith) s.spelt.within u.3))
      (λ t. closed n seen i all j l t.1)
      (either_got (more bytes i) _ _ e)

  -- what is told of things that stand after those that are seen
  abbrev FindsMany : ℕ → List A → Answer (List A) → List B → ℕ → Type 0
  FindsMany n seen o bs j = Finds tables bytes (map view) (All tables n (map view seen) bs) o (map view seen ++ bs) j

  none_more : (left n : ℕ) (seen : List A) (i j : ℕ) → Spelt end bytes i j → q j → FindsMany n seen (repeated more step done left seen bytes i) [] j
  none_more zero n seen i j s stop = found seen (cond-false _ _ _ (r.goes_off i j s stop) ∙ r.ended seen i j s stop) (sym (append-nil (map view seen)))
  none_more (suc left) n seen i j s stop = found seen (cond-false _ _ _ (r.goes_off i j s stop) ∙ r.ended seen i j s stop) (sym (append-nil (map view seen)))

  -- the item before things that stand ends where they begin
  pub many_stops : (bs : List B) (i j : ℕ) → Spelt (Many item end bs) bytes i j → q j → p i
  many_stops [] i j s stop = r.end_stops i j s stop
  many_stops (b ∷ bs) i j s stop = let c = parts s in r.item_stops b i c.0 c.1

  pub many_complete : (left n : ℕ) (seen : List A) (i : ℕ) (bs : List B) (j : ℕ) → left + n ≡ most → Spelt (Many item end bs) bytes i j → All limits n (map view seen) bs → q j → FindsMany n seen (repeated more step done left seen bytes i) bs j
  many_complete left n seen i [] j count s need stop = none_more left n seen i j s stop
  many_complete zero n seen i (b ∷ bs) j count s need stop =
      let c = parts s in
      let e : n ≡ most = omega arith in
      let f = r.shut seen b i c.0 (subst (room limits) e need.0) c.1 in
      short f.0 (cond-true _ _ _ (r.goes_on b i c.0 c.1) ∙ ap (λ o. and_then o (λ _ j. got seen j)) f.1) (λ m. f.2 (subst (room tables) e m.0))
  many_complete (suc left) n seen i (b ∷ bs) j count s need stop =
      let c = parts s in
      let told = map view seen in
      let after_one = finds_then (map view) (All tables n told (b ∷ bs)) (told ++ b ∷ bs) j (λ a j. repeated more step done left (seen ++ a ∷ []) bytes j)
      ((r.items seen).complete i b c.0 c.1 need.1 (many_stops bs c.0 j c.2 stop)) (λ m. m.1)
      (λ a _ is.
      let e : map view (seen ++ a ∷ []) ≡ told ++ b ∷ [] = map_push view seen a ∙ ap (λ x. told ++ x ∷ []) is in
      let h = many_complete left (n + 1) (seen ++ a ∷ []) c.0 bs j (omega arith) c.2 (subst (λ s. All limits (n + 1) s bs) (sym e) need.2) stop in
      finds_as (All tables n told (b ∷ bs)) h (λ m. subst (λ s. All tables (n + 1) s bs) (sym e) m.2) (ap (λ s. s ++ bs) e ∙ append_assoc told (b ∷ []) bs)) in
      subst (λ o. FindsMany n seen o (b ∷ bs) j) (sym (cond-true _ _ _ (r.goes_on b i c.0 c.1))) after_one

  pub many_agrees : Agrees tables bytes (repeated more step done most []) (map view) (record { spells = Many item end; needs = λ t. All t 0 [] }) q
  many_agrees = record {
    sound = λ i all j l e.
        let s = many_sound most 0 [] i all j (omega arith) l e in
        record {
          spelt = subst (λ bs. Spelt (Many item end bs) bytes i j) (sym s.is) s.spelt;
          keeps = subst (All limits 0 []) (sym s.is) s.keeps;
          fits = subst (All tables 0 []) (sym s.is) s.fits;
        };
    complete = λ i bs j s need stop. many_complete most 0 [] i bs j (omega arith) s need stop;
  }
