-- What a call reads after others, and what it refuses.
use Rattle.std.proofs.Common.{◌≡◌, ℕ, Bool, List, IsErrAnd, Ok, Err, Result, sym, refl, ap, ◌∙◌, arith}
use Rattle.std.proofs.lemmas.Result.{err_from_is_err_and}
use Rattle.jcode.specs.declared.cursor.Cursor.{Cursor}
use Rattle.jcode.specs.declared.refusal.ReadFault.{ReadFault}
use Rattle.jcode.specs.Pieces.{Answer, got, refused, Reader, and_then, ◌▷◌, ◌◁◌, ◌⊗◌, ◌giving◌, told, Reads}
use Rattle.jcode.specs.ReadTerms.{told_with, leaves}

-- on from what was read, and no further than what was refused
pub on : {A B : Type 0} {o : Answer A} {a : A} {i : ℕ} {x : Answer B} (f : A → ℕ → Answer B) → got a i ≡ o → x ≡ f a i → x ≡ and_then o f
on f e h = h ∙ ap (λ o. and_then o f) e

pub off : {A B : Type 0} {o : Answer A} {y : ReadFault} (f : A → ℕ → Answer B) → refused y ≡ o → refused y ≡ and_then o f
off f e = ap (λ o. and_then o f) e

-- what a `?` returns
pub stopped : {A : Type 0} {y : ReadFault} (r : Result A ReadFault) (j : ℕ) → IsErrAnd r (λ z. z ≡ y) → told r j ≡ refused y
stopped r j h = let p = err_from_is_err_and r h in ap (λ q. told q j) p.1 ∙ ap refused p.2

pub stopped_with : {A X : Type 0} {y : ReadFault} (r : Result A ReadFault) (left : X) (j : ℕ) → IsErrAnd r (λ z. z ≡ y) → told_with r left j ≡ refused y
stopped_with r left j h = let p = err_from_is_err_and r h in ap (λ q. told_with q left j) p.1 ∙ ap refused p.2

pub stopped_leaves : {A X : Type 0} {y : ReadFault} (r : Result A ReadFault) (left : X) (j : ℕ) → IsErrAnd r (λ z. z ≡ y) → leaves r left j ≡ refused y
stopped_leaves r left j h = let p = err_from_is_err_and r h in ap (λ q. leaves q left j) p.1 ∙ ap refused p.2

-- what a last call leaves
pub leaves_of : {A X : Type 0} (r : Result A ReadFault) (left : X) (j : ℕ) → leaves r left j ≡ and_then (told r j) (λ _ k. got left k)
leaves_of (Ok a) left j = refl
leaves_of (Err y) left j = refl

-- what was read, where what became of it is told
module _ {A B : Type 0} (f : A → B) {b : B} {j : ℕ} where
  pub made_of : (o : Answer A) → got b j ≡ and_then o (λ a i. got (f a) i) → (a : A) × (got a j ≡ o) × (b ≡ f a)
  made_of (got a i) e = (a, (let h : j ≡ i = cc in ap (got a) h), cc)
  made_of (refused y) e = let z : ◌≡◌ {A = ℕ} 0 1 = cc in absurd (omega arith)

pub refused_of : {A B : Type 0} (f : A → B) {y : ReadFault} (o : Answer A) → refused y ≡ and_then o (λ a i. got (f a) i) → refused y ≡ o
refused_of f (got a i) e = let z : ◌≡◌ {A = ℕ} 0 1 = cc in absurd (omega arith)
refused_of f (refused y) e = cc

-- a test at a cursor, in bytes that are the same
pub tested : (test : List ℕ → ℕ → Bool) (c : Cursor) {bytes : List ℕ} {b : Bool} → c.bytes.now ≡ bytes → b ≡ test c.bytes.now c.at → test bytes c.at ≡ b
tested test c same e = ap (λ bytes. test bytes c.at) (sym same) ∙ sym e

-- a reading in bytes that are the same
module _ {A : Type 0} {r : Reader A} {c d : Cursor} {bytes : List ℕ} (s : c.bytes.now ≡ bytes) where
  pub read_in : {a : A} → Reads r c (Ok a) d → got a d.at ≡ r bytes c.at
  read_in h = h.value ∙ ap (λ b. r b c.at) s

  pub refused_in : {y : ReadFault} → Reads r c (Err y) d → refused y ≡ r bytes c.at
  refused_in h = h.value ∙ ap (λ b. r b c.at) s

  pub told_in : {x : Result A ReadFault} → Reads r c x d → told x d.at ≡ r bytes c.at
  told_in h = h.value ∙ ap (λ b. r b c.at) s

-- readers one after another
pub reads_after : {A : Type 0} {r : Reader (Unit {0})} {q : Reader A} {c d e : Cursor} {u : Unit {0}} {x : Result A ReadFault} → Reads r c (Ok u) d → Reads q d x e → Reads (r ▷ q) c x e
reads_after {q = q} {d = d} h k = record { value = on _ h.value (k.value ∙ (λ t. q (h.same t) d.at)); same = k.same ∙ h.same }

pub refuses : {A B : Type 0} {r : Reader A} {c d : Cursor} {y : ReadFault} (k : A → Reader B) → Reads r c (Err y) d → Reads (λ bytes at. and_then (r bytes at) (λ a i. k a bytes i)) c (Err y) d
refuses {c = c} k h = record { value = off (λ a i. k a c.bytes.now i) h.value; same = h.same }

pub reads_before : {A : Type 0} {r : Reader A} {q : Reader (Unit {0})} {c d e : Cursor} {a : A} {u : Unit {0}} → Reads r c (Ok a) d → Reads q d (Ok u) e → Reads (r ◁ q) c (Ok a) e
reads_before {q = q} {c = c} {d = d} {a = a} h k = record {
  value = on (λ a i. and_then (q c.bytes.now i) (λ _ j. got a j)) h.value (on (λ _ j. got a j) (read_in h.same k) refl);
  same = k.same ∙ h.same;
}

pub refuses_before : {A : Type 0} {r : Reader A} {q : Reader (Unit {0})} {c d e : Cursor} {a : A} {y : ReadFault} → Reads r c (Ok a) d → Reads q d (Err y) e → Reads (r ◁ q) c (Err y) e
refuses_before {q = q} {c = c} {d = d} {a = a} h k = record {
  value = on (λ a i. and_then (q c.bytes.now i) (λ _ j. got a j)) h.value (off (λ _ j. got a j) (refused_in h.same k));
  same = k.same ∙ h.same;
}

pub reads_pair : {A B : Type 0} {r : Reader A} {c d e : Cursor} {a : A} {b : B} (q : A → Reader B) → Reads r c (Ok a) d → Reads (q a) d (Ok b) e → Reads (r ⊗ q) c (Ok (a, b)) e
reads_pair {c = c} {a = a} q h k = record {
  value = on (λ a i. and_then (q a c.bytes.now i) (λ b j. got (a, b) j)) h.value (on (λ b j. got (a, b) j) (read_in h.same k) refl);
  same = k.same ∙ h.same;
}

pub refuses_pair : {A B : Type 0} {r : Reader A} {c d e : Cursor} {a : A} {y : ReadFault} (q : A → Reader B) → Reads r c (Ok a) d → Reads (q a) d (Err y) e → Reads (r ⊗ q) c (Err y) e
refuses_pair {c = c} {a = a} q h k = record {
  value = on (λ a i. and_then (q a c.bytes.now i) (λ b j. got (a, b) j)) h.value (off (λ b j. got (a, b) j) (refused_in h.same k));
  same = k.same ∙ h.same;
}

pub reads_giving : {A B : Type 0} {r : Reader A} {c d : Cursor} {a : A} (f : A → B) → Reads r c (Ok a) d → Reads (r giving f) c (Ok (f a)) d
reads_giving f h = record { value = on (λ a i. got (f a) i) h.value refl; same = h.same }

pub assoc : {A B C : Type 0} (o : Answer A) (f : A → ℕ → Answer B) (g : B → ℕ → Answer C) → and_then o (λ a i. and_then (f a i) g) ≡ and_then (and_then o f) g
assoc (got a i) f g = refl
assoc (refused y) f g = refl
