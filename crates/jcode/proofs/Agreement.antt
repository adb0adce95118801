-- A reader agrees with a production of the notation, and so do readers one after another.
use Rattle.std.proofs.Common.{◌≡◌, ℕ, ◌≤◌, Bool, false, List, length, sym, refl, ap, ◌∙◌, subst, subst₂, le_trans}
use Rattle.jcode.specs.declared.refusal.Refusal.{Refusal}
use Rattle.jcode.specs.declared.refusal.Refusal.TheVariants.{Table}
use Rattle.jcode.specs.Language.{Language, ◌⊙◌, Spelt}
use Rattle.jcode.specs.Spelling.{Sizes, limits}
use Rattle.jcode.specs.Pieces.{Answer, got, Reader, refuse, and_then, ◌▷◌, ◌◁◌, ◌⊗◌, ◌giving◌}
use Rattle.jcode.proofs.Outcomes.{refused_got, got_what, got_next, then_got, then_step}
use Rattle.jcode.proofs.Places.{byte, joins, parts, spelt_as}

-- what spells a thing, and what it needs of tables of these sizes
pub record Production (B : Type 0) : Type 1 where
  pub spells : B → Language
  pub needs : Sizes → B → Type 0

abbrev pub plain : {B : Type 0} → (B → Language) → Production B
plain L = record { spells = L; needs = λ t b. Unit {0} }

abbrev pub mark : Language → Production (Unit {0})
mark L = plain (λ _. L)

-- one language ahead of a production, or after it
abbrev pub ahead : {B : Type 0} → Language → Production B → Production B
ahead L P = record { spells = λ b. L ⊙ P.spells b; needs = P.needs }

abbrev pub behind : {B : Type 0} → Production B → Language → Production B
behind P L = record { spells = λ b. P.spells b ⊙ L; needs = P.needs }

-- two productions, the second by the thing of the first
abbrev pub both : {B D : Type 0} → Production B → (B → Production D) → Production (B × D)
both P Q = record { spells = λ p. P.spells p.0 ⊙ (Q p.0).spells p.1; needs = λ t p. P.needs t p.0 × (Q p.0).needs t p.1 }

-- what a function makes of the things of a production, with needs of their own
abbrev pub image : {B D : Type 0} → (B → D) → Production B → (Sizes → D → Type 0) → Production D
image {B} f P N = record { spells = λ d w. (b : B) × (f b ≡ d) × P.spells b w; needs = N }

-- what it needs more, which no table bears on
abbrev pub kept : {B : Type 0} → (B → Type 0) → Production B → Production B
kept T P = record { spells = P.spells; needs = λ t b. T b × P.needs t b }

-- no byte of the class stands at a place
abbrev pub Stops : (ℕ → Bool) → List ℕ → ℕ → Type 0
Stops p bytes i = p (byte bytes i) ≡ false

-- whatever stands there
abbrev pub Anywhere : ℕ → Type 0
Anywhere i = Unit {0}

module _ (tables : Sizes) (bytes : List ℕ) where
  -- what is told of a thing that stands: it is found, or the tables are too short for it
  pub data Finds {A B : Type 0} (view : A → B) (fits : Type 0) (o : Answer A) (b : B) (j : ℕ) : Type 0 where
    found : (a : A) → o ≡ got a j → view a ≡ b → Finds view fits o b j
    short : (place : ℕ) → o ≡ refuse Table place → (fits → ⊥) → Finds view fits o b j

  -- a thing stands at a place, keeps the limits and fits the tables
  pub record Stands {B : Type 0} (P : Production B) (i : ℕ) (b : B) (j : ℕ) : Type 0 where
    pub spelt : Spelt (P.spells b) bytes i j
    pub keeps : P.needs limits b
    pub fits : P.needs tables b

  -- what is read stands there, and what stands there and keeps the limits is found, where it ends there
  pub record Agrees {A B : Type 0} (r : Reader A) (view : A → B) (P : Production B) (stop : ℕ → Type 0) : Type 0 where
    pub sound : (i : ℕ) (a : A) (j : ℕ) → i ≤ length bytes → r bytes i ≡ got a j → Stands P i (view a) j
    pub complete : (i : ℕ) (b : B) (j : ℕ) → Spelt (P.spells b) bytes i j → P.needs limits b → stop j → Finds view (P.needs tables b) (r bytes i) b j

  -- where what follows ends, what stands before it ends where that begins
  abbrev pub Apart : {B : Type 0} → (ℕ → Type 0) → Production B → (ℕ → Type 0) → Type 0
  Apart {B} p Q q = (b : B) (i j : ℕ) → Spelt (Q.spells b) bytes i j → q j → p i

module _ {tables : Sizes} {bytes : List ℕ} where
  pub stands_as : {A B : Type 0} (view : A → B) {P : Production B} {i j k : ℕ} {a c : A} → got a j ≡ got c k → Stands tables bytes P i (view a) j → Stands tables bytes P i (view c) k
  stands_as view {P = P} {i = i} e t = subst₂ (λ a j. Stands tables bytes P i (view a) j) (got_what e) (got_next e) t

  pub finds_then : {A B C D : Type 0} {view : A → B} {fits : Type 0} {o : Answer A} {b : B} {j : ℕ} (view′ : C → D) (fits′ : Type 0) (d : D) (k : ℕ) (f : A → ℕ → Answer C) → Finds tables bytes view fits o b j → (fits′ → fits) → ((a : A) → o ≡ got a j → view a ≡ b → Finds tables bytes view′ fits′ (f a j) d k) → Finds tables bytes view′ fits′ (and_then o f) d k
  finds_then view′ fits′ d k f (found a e is) part next = subst (λ o. Finds tables bytes view′ fits′ o d k) (sym (then_step f e)) (next a e is)
  finds_then view′ fits′ d k f (short place e lacks) part next = short place (ap (λ o. and_then o f) e) (λ n. lacks (part n))

  pub finds_as : {A B : Type 0} {view : A → B} {fits : Type 0} {o : Answer A} {b c : B} {j : ℕ} (fits′ : Type 0) → Finds tables bytes view fits o b j → (fits′ → fits) → b ≡ c → Finds tables bytes view fits′ o c j
  finds_as fits′ (found a e is) part eq = found a e (is ∙ eq)
  finds_as fits′ (short place e lacks) part eq = short place e (λ m. lacks (part m))

  -- what fits any tables is found
  pub surely : {A B : Type 0} {view : A → B} {o : Answer A} {b : B} {j : ℕ} → Finds tables bytes view (Unit {0}) o b j → (a : A) × (o ≡ got a j) × (view a ≡ b)
  surely (found a e is) = (a, e, is)
  surely (short place e lacks) = absurd (lacks tt)

  pub after_agrees : {A B : Type 0} {r₁ : Reader (Unit {0})} {L : Language} {p : ℕ → Type 0} {r₂ : Reader A} {view : A → B} {Q : Production B} {q : ℕ → Type 0} → Agrees tables bytes r₁ (λ u. u) (mark L) p → Agrees tables bytes r₂ view Q q → Apart tables bytes p Q q → Agrees tables bytes (r₁ ▷ r₂) view (ahead L Q) q
  after_agrees {r₁ = r₁} {L = L} {r₂ = r₂} {view = view} {Q = Q} one two apart = record {
    sound = λ i a j l e.
        let t = then_got (r₁ bytes i) (λ _ i. r₂ bytes i) e in
        let s₁ = one.sound i t.0 t.1 l t.2 in
        let s₂ = two.sound t.1 a j s₁.spelt.within t.3 in
        record { spelt = joins s₁.spelt s₂.spelt; keeps = s₂.keeps; fits = s₂.fits };
    complete = λ i b j s n stop.
        let c = parts s in
        finds_then view (Q.needs tables b) b j (λ _ i. r₂ bytes i) (one.complete i tt c.0 c.1 tt (apart b c.0 j c.2 stop)) (λ _. tt) (λ _ _ _. two.complete c.0 b j c.2 n stop);
  }

  pub before_agrees : {A B : Type 0} {r₁ : Reader A} {view : A → B} {P : Production B} {p : ℕ → Type 0} {r₂ : Reader (Unit {0})} {L : Language} {q : ℕ → Type 0} → Agrees tables bytes r₁ view P p → Agrees tables bytes r₂ (λ u. u) (mark L) q → Apart tables bytes p (mark L) q → Agrees tables bytes (r₁ ◁ r₂) view (behind P L) q
  before_agrees {r₁ = r₁} {view = view} {P = P} {r₂ = r₂} {L = L} one two apart = record {
    sound = λ i a j l e.
        let t = then_got (r₁ bytes i) (λ a i. and_then (r₂ bytes i) (λ _ j. got a j)) e in
        let u = then_got (r₂ bytes t.1) (λ _ j. got t.0 j) t.3 in
        let s₁ = one.sound i t.0 t.1 l t.2 in
        let s₂ = two.sound t.1 u.0 u.1 s₁.spelt.within u.2 in
        stands_as view u.3 (record { spelt = joins s₁.spelt s₂.spelt; keeps = s₁.keeps; fits = s₁.fits });
    complete = λ i b j s n stop.
        let c = parts s in
        finds_then view (P.needs tables b) b j (λ a i. and_then (r₂ bytes i) (λ _ j. got a j)) (one.complete i b c.0 c.1 n (apart tt c.0 j c.2 stop)) (λ m. m)
        (λ a _ is. finds_then view (P.needs tables b) b j (λ _ j. got a j) (two.complete c.0 tt j c.2 tt stop) (λ _. tt) (λ _ _ _. found a refl is));
  }

  pub pair_agrees : {A B C D : Type 0} {r₁ : Reader A} {view : A → B} {P : Production B} {p : ℕ → Type 0} {r₂ : A → Reader C} {view′ : C → D} {q : ℕ → Type 0} (Q : B → Production D) → Agrees tables bytes r₁ view P p → ((a : A) → P.needs limits (view a) → Agrees tables bytes (r₂ a) view′ (Q (view a)) q) → ((b : B) → P.needs limits b → Apart tables bytes p (Q b) q) → Agrees tables bytes (r₁ ⊗ r₂) (λ c. (view c.0, view′ c.1)) (both P Q) q
  pair_agrees {r₁ = r₁} {view = view} {P = P} {r₂ = r₂} {view′ = view′} {q = q} Q one two apart = record {
    sound = λ i c j l e.
        let t = then_got (r₁ bytes i) (λ a i. and_then (r₂ a bytes i) (λ b j. got (a, b) j)) e in
        let u = then_got (r₂ t.0 bytes t.1) (λ b j. got (t.0, b) j) t.3 in
        let s₁ = one.sound i t.0 t.1 l t.2 in
        let s₂ = (two t.0 s₁.keeps).sound t.1 u.0 u.1 s₁.spelt.within u.2 in
        stands_as (λ c. (view c.0, view′ c.1)) u.3 (record { spelt = joins s₁.spelt s₂.spelt; keeps = (s₁.keeps, s₂.keeps); fits = (s₁.fits, s₂.fits) });
    complete = λ i b j s n stop.
        let c = parts s in
        finds_then (λ c. (view c.0, view′ c.1)) ((both P Q).needs tables b) b j (λ a i. and_then (r₂ a bytes i) (λ b j. got (a, b) j)) (one.complete i b.0 c.0 c.1 n.0 (apart b.0 n.0 b.1 c.0 j c.2 stop)) (λ m. m.0)
        (λ a _ is.
        let h : Agrees tables bytes (r₂ a) view′ (Q b.0) q = subst (λ x. Agrees tables bytes (r₂ a) view′ (Q x) q) is (two a (subst (P.needs limits) (sym is) n.0)) in
        finds_then (λ c. (view c.0, view′ c.1)) ((both P Q).needs tables b) b j (λ b j. got (a, b) j) (h.complete c.0 b.1 j c.2 n.1 stop) (λ m. m.1) (λ d _ eq. found (a, d) refl (λ k. (is k, eq k))));
  }

  pub image_agrees : {A B C D : Type 0} {r : Reader A} {view : A → B} {P : Production B} {p : ℕ → Type 0} (g : A → C) (view′ : C → D) (f : B → D) (N : Sizes → D → Type 0) → Agrees tables bytes r view P p → ((a : A) → view′ (g a) ≡ f (view a)) → ((t : Sizes) (b : B) → P.needs t b → N t (f b)) → ((t : Sizes) (b : B) → N t (f b) → P.needs t b) → Agrees tables bytes (r giving g) view′ (image f P N) p
  image_agrees {r = r} {view = view} {P = P} g view′ f N one tied there back = record {
    sound = λ i c j l e.
        let t = then_got (r bytes i) (λ a i. got (g a) i) e in
        let s = one.sound i t.0 t.1 l t.2 in
        let is = tied t.0 in
        stands_as view′ t.3 (record {
          spelt = record { forward = s.spelt.forward; within = s.spelt.within; belongs = (view t.0, sym is, s.spelt.belongs) };
          keeps = subst (N limits) (sym is) (there limits (view t.0) s.keeps);
          fits = subst (N tables) (sym is) (there tables (view t.0) s.fits);
        });
    complete = λ i d j s n stop.
        let b = s.belongs in
        let h = one.complete i b.0 j (record { forward = s.forward; within = s.within; belongs = b.2 }) (back limits b.0 (subst (N limits) (sym b.1) n)) stop in
        finds_then view′ (N tables d) d j (λ a i. got (g a) i) h (λ m. back tables b.0 (subst (N tables) (sym b.1) m)) (λ a _ is. found (g a) refl (tied a ∙ ap f is ∙ b.1));
  }

  pub weaken : {A B : Type 0} {r : Reader A} {view : A → B} {P : Production B} {p : ℕ → Type 0} (q : ℕ → Type 0) → ((j : ℕ) → q j → p j) → Agrees tables bytes r view P p → Agrees tables bytes r view P q
  weaken q h one = record { sound = one.sound; complete = λ i b j s n stop. one.complete i b j s n (h j stop) }

  -- a reader that goes on only with what passes
  pub kept_agrees : {A B : Type 0} {r : Reader A} {view : A → B} {P : Production B} {p : ℕ → Type 0} (T : B → Type 0) (f : ℕ → A → ℕ → Answer A) → ((i : ℕ) (a : A) (j : ℕ) → i ≤ length bytes → r bytes i ≡ got a j → T (view a) → f i a j ≡ got a j) → ((i : ℕ) (a : A) (j : ℕ) → i ≤ length bytes → r bytes i ≡ got a j → (c : A) (k : ℕ) → f i a j ≡ got c k → (got a j ≡ got c k) × T (view a)) → Agrees tables bytes r view P p → Agrees tables bytes (λ bytes i. and_then (r bytes i) (f i)) view (kept T P) p
  kept_agrees {r = r} {view = view} {P = P} T f passes passed one = record {
    sound = λ i c k l e.
        let t = then_got (r bytes i) (f i) e in
        let s = one.sound i t.0 t.1 l t.2 in
        let h = passed i t.0 t.1 l t.2 c k t.3 in
        stands_as view h.0 (record { spelt = s.spelt; keeps = (h.1, s.keeps); fits = (h.1, s.fits) });
    complete = λ i b j s n stop.
        finds_then view ((kept T P).needs tables b) b j (f i) (one.complete i b j s n.1 stop) (λ m. m.1)
        (λ a e is. found a (passes i a j (le_trans s.forward s.within) e (subst T (sym is) n.0)) is);
  }

  -- which stands in what spells it as well
  pub spelling : {A B : Type 0} {r : Reader A} {view : A → B} {P : Production B} {p : ℕ → Type 0} (T : B → Type 0) → Agrees tables bytes r view (kept T P) p → Agrees tables bytes r view (record { spells = λ b w. T b × P.spells b w; needs = P.needs }) p
  spelling {view = view} {P = P} T one = record {
    sound = λ i a j l e.
        let s = one.sound i a j l e in
        record { spelt = record { forward = s.spelt.forward; within = s.spelt.within; belongs = (s.keeps.0, s.spelt.belongs) }; keeps = s.keeps.1; fits = s.fits.1 };
    complete = λ i b j s n stop.
        finds_as _ (one.complete i b j (record { forward = s.forward; within = s.within; belongs = s.belongs.1 }) (s.belongs.0, n) stop) (λ m. (s.belongs.0, m)) refl;
  }

  -- the same production in other words
  pub renamed : {A B : Type 0} {r : Reader A} {view : A → B} {P : Production B} {p : ℕ → Type 0} (Q : Production B) → ((b : B) (w : List ℕ) → P.spells b w → Q.spells b w) → ((b : B) (w : List ℕ) → Q.spells b w → P.spells b w) → ((t : Sizes) (b : B) → P.needs t b → Q.needs t b) → ((t : Sizes) (b : B) → Q.needs t b → P.needs t b) → Agrees tables bytes r view P p → Agrees tables bytes r view Q p
  renamed {view = view} Q there back needs_there needs_back one = record {
    sound = λ i a j l e.
        let s = one.sound i a j l e in
        record { spelt = spelt_as (there (view a)) s.spelt; keeps = needs_there limits (view a) s.keeps; fits = needs_there tables (view a) s.fits };
    complete = λ i b j s n stop. finds_as (Q.needs tables b) (one.complete i b j (spelt_as (back b) s) (needs_back limits b n) stop) (needs_back tables b) refl;
  }

  -- a reader that does the same
  pub same_agrees : {A B : Type 0} {r : Reader A} {view : A → B} {P : Production B} {p : ℕ → Type 0} (q : Reader A) → ((i : ℕ) → q bytes i ≡ r bytes i) → Agrees tables bytes r view P p → Agrees tables bytes q view P p
  same_agrees {view = view} {P = P} q same one = record {
    sound = λ i a j l e. one.sound i a j l (sym (same i) ∙ e);
    complete = λ i b j s n stop. subst (λ o. Finds tables bytes view (P.needs tables b) o b j) (sym (same i)) (one.complete i b j s n stop);
  }

  -- a reader that always refuses reads nothing
  pub nothing_agrees : {A B : Type 0} (view : A → B) (r : Refusal) (place : ℕ → ℕ) (p : ℕ → Type 0) → Agrees tables bytes (λ bytes i. refuse r (place i)) view (plain (λ b w. ⊥)) p
  nothing_agrees view r place p = record { sound = λ i a j l e. absurd (refused_got e); complete = λ i b j s n stop. absurd s.belongs }
