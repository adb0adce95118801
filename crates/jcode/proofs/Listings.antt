-- Lists of names, one name more at a time.
use Rattle.std.proofs.Common.{◌≡◌, ℕ, suc, ◌+◌, ◌-◌, ◌<◌, Bool, true, false, leb, List, [], ◌∷◌, ◌++◌, length, set, replicate, Ok, Err, sym, refl, ap, ◌∙◌, arith}
use Rattle.std.proofs.lemmas.List.{set_at, append_assoc, length_push, take_at}
use Rattle.std.proofs.lemmas.Bool.{cond-true, lt-ltb, leb-false}
use Rattle.jcode.specs.declared.cursor.Cursor.{Cursor}
use Rattle.jcode.specs.declared.refusal.ReadFault.{ReadFault}
use Rattle.jcode.specs.declared.statement.Listing.{Listing}
use Rattle.jcode.specs.Pieces.{Answer, got, refused, Reader, and_then, ◌▷◌, ◌giving◌, read_gap, read_name, Reads}
use Rattle.jcode.specs.Scopes.{Scope, listed_in, pushed}
use Rattle.jcode.specs.ReadTerms.{read_close}
use Rattle.jcode.specs.Sentences.{listing_of}
use Rattle.jcode.specs.ReadStatements.{goes_on, read_unseen, read_more}
use Rattle.jcode.proofs.Repeats.{step_refused, step_read, all_done}
use Rattle.jcode.proofs.Chains.{on, off, read_in, refused_in, reads_after}

pub listed_is : (vs : List ℕ) → listed_in (listing_of vs) ≡ vs
listed_is vs = take_at vs (replicate (8 - length vs) 0) (length vs) refl

pub pushed_is : (vs : List ℕ) (v : ℕ) → length vs < 8 → pushed (listing_of vs) v ≡ listing_of (vs ++ v ∷ [])
pushed_is vs v h =
    let e : 8 - length vs ≡ suc (8 - length (vs ++ v ∷ [])) = omega (arith, length_push vs v) in
    let variables : set (vs ++ replicate (8 - length vs) 0) (length vs) v ≡ (vs ++ v ∷ []) ++ replicate (8 - length (vs ++ v ∷ [])) 0 =
    ap (λ n. set (vs ++ replicate n 0) (length vs) v) e
    ∙ set_at vs 0 (replicate (8 - length (vs ++ v ∷ [])) 0) v (length vs) refl
    ∙ sym (append_assoc vs (v ∷ []) (replicate (8 - length (vs ++ v ∷ [])) 0)) in
    cond-true _ _ _ (lt-ltb (length vs) 8 h) ∙ (λ k. record { variables = variables k; count = sym (length_push vs v) k })

pub push_count : (l : Listing) (v : ℕ) → l.count < 8 → (pushed l v).count ≡ l.count + 1
push_count l v h = ap (λ x. x.count) (cond-true _ _ l (lt-ltb l.count 8 h))

-- a listing with its names
abbrev pub Proper : Listing → Type 0
Proper l = l ≡ listing_of (listed_in l)

pub push_listed : (l : Listing) (v : ℕ) → Proper l → l.count < 8 → listed_in (pushed l v) ≡ listed_in l ++ v ∷ []
push_listed l v e h =
    let n : length (listed_in l) ≡ l.count = sym (ap (λ x. x.count) e) in
    ap (λ x. listed_in (pushed x v)) e ∙ ap listed_in (pushed_is (listed_in l) v (omega arith)) ∙ listed_is (listed_in l ++ v ∷ [])

pub push_proper : (l : Listing) (v : ℕ) → Proper l → l.count < 8 → Proper (pushed l v)
push_proper l v e h =
    let n : length (listed_in l) ≡ l.count = sym (ap (λ x. x.count) e) in
    ap (λ x. pushed x v) e ∙ pushed_is (listed_in l) v (omega arith) ∙ ap listing_of (sym (push_listed l v e h))

nothing : {A B : Type 0} {b : B} {j : ℕ} (o : Answer A) (y : ReadFault) → got b j ≡ and_then o (λ s i. refused y) → ⊥
nothing (got a i) y e = let z : ◌≡◌ {A = ℕ} 0 1 = cc in omega arith
nothing (refused f) y e = let z : ◌≡◌ {A = ℕ} 0 1 = cc in omega arith

-- a full list takes no more
pub never_full : (sc : Scope) (b : Bool) (vs : List ℕ) (c d : Cursor) (v : ℕ) → Reads (read_unseen sc b vs) c (Ok v) d → b ≡ false
unfolding read_unseen
never_full sc true vs c d v h = absurd (nothing (read_name c.bytes.now c.at) _ h.value)
never_full sc false vs c d v h = refl

pub room_left : (sc : Scope) (l : Listing) (c d : Cursor) (v : ℕ) → Reads (read_unseen sc (leb 8 l.count) (listed_in l)) c (Ok v) d → l.count < 8
room_left sc l c d v h = leb-false 8 l.count (never_full sc (leb 8 l.count) (listed_in l) c d v h)

module _ (sc : Scope) (l : Listing) (bytes : List ℕ) (whole : Answer (List ℕ)) (c : Cursor) (same : c.bytes.now ≡ bytes) (goal : read_more sc (8 - l.count) (listed_in l) bytes c.at ≡ whole) where
  abbrev step : Bool → List ℕ → Reader ℕ
  step full seen = read_gap ▷ read_unseen sc full seen

  abbrev done : List ℕ → Reader (List ℕ)
  done seen = read_close giving (λ _. seen)

  module _ (more : goes_on bytes c.at ≡ true) where
    pub gap_refused : {d : Cursor} {y : ReadFault} → Reads read_gap c (Err y) d → refused y ≡ whole
    gap_refused h = step_refused goes_on step done 8 l.count (listed_in l) bytes c.at whole goal more (off (λ _ i. read_unseen sc (leb 8 l.count) (listed_in l) bytes i) (refused_in same h))

    module _ (d e : Cursor) {u : Unit {0}} (gap : Reads read_gap c (Ok u) d) where
      pub unseen_refused : {y : ReadFault} → Reads (read_unseen sc (leb 8 l.count) (listed_in l)) d (Err y) e → refused y ≡ whole
      unseen_refused h = step_refused goes_on step done 8 l.count (listed_in l) bytes c.at whole goal more (refused_in same (reads_after gap h))

      pub unseen_read : (v : ℕ) → Proper l → l.count < 8 → Reads (read_unseen sc (leb 8 l.count) (listed_in l)) d (Ok v) e → read_more sc (8 - (pushed l v).count) (listed_in (pushed l v)) bytes e.at ≡ whole
      unseen_read v p h k =
          (λ i. read_more sc (8 - push_count l v h i) (push_listed l v p h i) bytes e.at)
          ∙ step_read goes_on step done 8 l.count (listed_in l) bytes c.at whole goal more h v e.at (read_in same (reads_after gap k))

  module _ (closes : goes_on bytes c.at ≡ false) where
    pub list_closed : {d : Cursor} {u : Unit {0}} → Reads read_close c (Ok u) d → got (listed_in l) d.at ≡ whole
    list_closed h = on (λ _ j. got (listed_in l) j) (read_in same h) refl ∙ all_done goes_on step done 8 l.count (listed_in l) bytes c.at whole goal closes

    pub list_unclosed : {d : Cursor} {y : ReadFault} → Reads read_close c (Err y) d → refused y ≡ whole
    list_unclosed h = off (λ _ j. got (listed_in l) j) (refused_in same h) ∙ all_done goes_on step done 8 l.count (listed_in l) bytes c.at whole goal closes
