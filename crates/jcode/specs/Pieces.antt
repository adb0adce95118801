-- The pieces of the notation: what is read at a place of the bytes and the next place, or the refusal and its place.
use Rattle.std.specs.Prelude.{◌≡◌, ℕ, zero, suc, ◌+◌, ◌-◌, ◌*◌, Bool, true, false, cond, not, ◌&&◌, List, [], ◌∷◌, ◌++◌, take, drop, length, ℤ, pos, neg_ℤ, Some, None, Ok, Err, Option, Result, codes, ◌==◌, nat_eq, nat_le, nat_lt, slice_get, unsigned_abs, unwrap_or, fold}
use Rattle.std.specs.Bool.{then_some}
use Rattle.std.specs.Option.{option_eq}
use Rattle.terms.specs.Numbers.{greatest as span_greatest}
use Rattle.terms.specs.Words.{same_word}
use Rattle.jcode.specs.declared.cursor.Cursor.{Cursor}
use Rattle.jcode.specs.declared.refusal.ReadFault.{ReadFault}
use Rattle.jcode.specs.declared.refusal.Refusal.{Refusal}
use Rattle.jcode.specs.declared.refusal.Refusal.TheVariants.{Missing, Number, Limit}
use Rattle.jcode.specs.declared.span.Span.{Span}
use Rattle.jcode.specs.Bytes.{separator, letter, digit, name_byte, stands, passes, run_at, text_run, slice}

pub data Answer (A : Type 0) : Type 0 where
  got : A → ℕ → Answer A
  refused : ReadFault → Answer A

-- a reader says what it reads from a place of the bytes on
abbrev pub Reader : Type 0 → Type 0
Reader A = List ℕ → ℕ → Answer A

abbrev pub refuse : {A : Type 0} → Refusal → ℕ → Answer A
refuse r place = refused (record { refusal = r; place = place })

abbrev pub and_then : {A B : Type 0} → Answer A → (A → ℕ → Answer B) → Answer B
and_then (got a j) f = f a j
and_then (refused e) f = refused e

infixr 30 ◌▷◌
infixl 31 ◌◁◌
infixr 30 ◌⊗◌
infixl 35 ◌giving◌
-- one reader after another, of which the second is told, the first, or both, where the second may hang on the first
abbrev pub ◌▷◌ : {A : Type 0} → Reader (Unit {0}) → Reader A → Reader A
◌▷◌ r₁ r₂ bytes at = and_then (r₁ bytes at) (λ _ i. r₂ bytes i)

abbrev pub ◌◁◌ : {A : Type 0} → Reader A → Reader (Unit {0}) → Reader A
◌◁◌ r₁ r₂ bytes at = and_then (r₁ bytes at) (λ a i. and_then (r₂ bytes i) (λ _ j. got a j))

abbrev pub ◌⊗◌ : {A B : Type 0} → Reader A → (A → Reader B) → Reader (A × B)
◌⊗◌ r₁ r₂ bytes at = and_then (r₁ bytes at) (λ a i. and_then (r₂ a bytes i) (λ b j. got (a, b) j))

-- what is read, as something else
abbrev pub ◌giving◌ : {A B : Type 0} → Reader A → (A → B) → Reader B
◌giving◌ r f bytes at = and_then (r bytes at) (λ a i. got (f a) i)

-- one thing after another, so many at the most, while there is more; `step` is told whether no more may come, and what came before
abbrev pub repeated : {A : Type 0} → (List ℕ → ℕ → Bool) → (Bool → List A → Reader A) → (List A → Reader (List A)) → ℕ → List A → Reader (List A)
repeated more step done zero seen bytes at =
    cond (more bytes at) (and_then (step true seen bytes at) (λ _ j. got seen j)) (done seen bytes at)
repeated more step done (suc left) seen bytes at =
    cond (more bytes at)
    (and_then (step false seen bytes at) (λ a j. repeated more step done left (seen ++ a ∷ []) bytes j))
    (done seen bytes at)

-- whether these bytes stand at a place
abbrev pub starts_with : List ℕ → List ℕ → ℕ → Bool
starts_with w bytes at = same_word (take (length w) (drop at bytes)) w

-- bytes that are one piece, as `(` and `(/`
abbrev pub read_mark : List ℕ → Reader (Unit {0})
read_mark w bytes at = cond (starts_with w bytes at) (got tt (at + length w)) (refuse Missing at)

-- how many separators stand at a place, if the last of them is this one
abbrev pub ends_in : ℕ → List ℕ → Bool
ends_in b s = option_eq nat_eq (slice_get s (length s - 1)) (Some b)

abbrev pub white : ℕ → List ℕ → ℕ → Option ℕ
white last bytes at = then_some (ends_in last (slice bytes (run_at separator bytes at))) (run_at separator bytes at).length

abbrev pub passed : ℕ → Option ℕ → Answer (Unit {0})
passed at None = refuse Missing at
passed at (Some n) = got tt (at + n)

abbrev pub read_white : ℕ → Reader (Unit {0})
read_white last bytes at = passed at (white last bytes at)

abbrev pub read_gap : Reader (Unit {0})
read_gap = read_white 32

abbrev pub read_end : Reader (Unit {0})
read_end = read_white 10

-- the place after a gap, if one stands at a place
abbrev pub past_gap : List ℕ → ℕ → ℕ
past_gap bytes at = at + unwrap_or (white 32 bytes at) 0

abbrev pub read_may_gap : Reader (Unit {0})
read_may_gap bytes at = got tt (past_gap bytes at)

-- a letter and all that may follow it in a name
abbrev pub read_word : Reader Span
read_word bytes at =
    cond (passes letter bytes at) (got (run_at name_byte bytes at) (at + (run_at name_byte bytes at).length)) (refuse Missing at)

abbrev pub short : Span → ℕ → Answer Span
short s j = cond (nat_lt 32 s.length) (refuse Limit s.start) (got s j)

abbrev pub read_name : Reader Span
read_name bytes at = and_then (read_word bytes at) short

abbrev pub read_keyword : List ℕ → Reader (Unit {0})
read_keyword k bytes at = and_then (read_word bytes at) (λ s j. cond (same_word (slice bytes s) k) (got tt j) (refuse Missing at))

-- the number that digits write, after digits that write n
abbrev pub value_after : ℕ → List ℕ → ℕ
value_after n s = fold (λ v b. v * 10 + (b - 48)) n s

-- the number that digits write, if it lies from low to high and no zero stands in front
abbrev pub is_proper : ℕ → ℕ → List ℕ → ℕ → Bool
is_proper low high s n = not (nat_lt 1 (length s) && option_eq nat_eq (slice_get s 0) (Some 48)) && (nat_le low n && nat_le n high)

abbrev pub proper : List ℕ → ℕ → ℕ → Option ℕ
proper s low high = then_some (is_proper low high s (value_after 0 s)) (value_after 0 s)

abbrev pub numbered : ℕ → ℕ → Option ℕ → Answer ℕ
numbered place next None = refuse Number place
numbered place next (Some n) = got n next

-- digits that write a number from low to high; a fault is laid at the number's own place
abbrev pub read_decimal : ℕ → ℕ → ℕ → Reader ℕ
read_decimal place low high bytes at =
    cond ((run_at digit bytes at).length == 0)
    (refuse Missing place)
    (numbered place (at + (run_at digit bytes at).length) (proper (slice bytes (run_at digit bytes at)) low high))

-- the span's greatest magnitude
abbrev pub greatest : ℕ
greatest = unsigned_abs span_greatest

abbrev pub read_number : Reader ℤ
read_number bytes at =
    cond (stands 45 bytes at)
    ((read_decimal at 1 greatest giving (λ n. neg_ℤ (pos n))) bytes (at + 1))
    ((read_decimal at 0 greatest giving pos) bytes at)

abbrev pub read_label : Reader ℕ
read_label bytes at = read_decimal at 1 9999 bytes at

abbrev pub read_inner : Reader Span
read_inner bytes at =
    cond (nat_lt 80 (text_run bytes at).length) (refuse Limit at) (got (text_run bytes at) (at + (text_run bytes at).length))

abbrev pub read_text : Reader Span
read_text = read_mark (codes "(/") ▷ (read_inner ◁ read_mark (codes "/)"))

abbrev pub told : {A : Type 0} → Result A ReadFault → ℕ → Answer A
told (Ok a) j = got a j
told (Err f) j = refused f

-- a call on a cursor does what a reader says: it tells what was read and moves on, or it refuses
pub record Reads {A : Type 0} (reader : Reader A) (before : Cursor) (result : Result A ReadFault) (after : Cursor) : Type 0 where
  pub value : told result after.at ≡ reader before.bytes.now before.at
  pub same : after.bytes.now ≡ before.bytes.now
