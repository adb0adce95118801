-- Languages, which say what bytes spell, and those of the notation's pieces.
use Rattle.std.specs.Prelude.{◌≡◌, ℕ, ◌-◌, ◌≤◌, ◌≤ℤ◌, true, false, ◌⊎◌, List, [], ◌∷◌, ◌++◌, length, take, drop, ℤ, pos, negsuc, codes, decimal}
use Rattle.std.specs.Fmt.{signed_decimal}
use Rattle.std.specs.List.{list_all}
use Rattle.terms.specs.Words.{same_word}
use Rattle.jcode.specs.Bytes.{separator, text_byte, is_word}

-- whether bytes belong
abbrev pub Language : Type 1
Language = List ℕ → Type 0

infixr 40 ◌⊙◌
-- a part in the one, then a part in the other
abbrev pub ◌⊙◌ : Language → Language → Language
◌⊙◌ P Q w = (u : List ℕ) × (v : List ℕ) × P u × Q v × (w ≡ u ++ v)

-- one thing after another, and what ends them
abbrev pub Many : {B : Type 0} → (B → Language) → Language → List B → Language
Many item end [] = end
Many item end (b ∷ bs) = item b ⊙ Many item end bs

-- these bytes and no others
abbrev pub Just : List ℕ → Language
Just v w = w ≡ v

-- separators, of which this is the last
abbrev pub White : ℕ → Language
White last w = (v : List ℕ) × (list_all separator v ≡ true) × (w ≡ v ++ last ∷ [])

abbrev pub Gap : Language
Gap = White 32

abbrev pub End : Language
End = White 10

abbrev pub MayGap : Language
MayGap w = (w ≡ []) ⊎ Gap w

-- a letter, and up to 31 bytes more that a name may have
abbrev pub IsName : List ℕ → Type 0
IsName n = (is_word n ≡ true) × (length n ≤ 32)

abbrev pub Name : List ℕ → Language
Name n w = IsName n × (w ≡ n)

-- a number of the span, written in decimal
abbrev pub Number : ℤ → Language
Number z w = (negsuc 1999999999 ≤ℤ z) × (z ≤ℤ pos 2000000000) × (w ≡ signed_decimal z)

abbrev pub Label : ℕ → Language
Label n w = (1 ≤ n) × (n ≤ 9999) × (w ≡ decimal n)

-- no `/)` stands in it
abbrev pub Unclosed : List ℕ → Type 0
Unclosed [] = Unit {0}
Unclosed (b ∷ s) = (same_word (take 2 (b ∷ s)) (codes "/)") ≡ false) × Unclosed s

-- up to 80 bytes that a text may have
abbrev pub IsText : List ℕ → Type 0
IsText t = (list_all text_byte t ≡ true) × Unclosed t × (length t ≤ 80)

abbrev pub Text : List ℕ → Language
Text t = Just (codes "(/") ⊙ (λ w. IsText t × (w ≡ t)) ⊙ Just (codes "/)")

-- the bytes from a place up to another
abbrev pub between : List ℕ → ℕ → ℕ → List ℕ
between bytes i j = take (j - i) (drop i bytes)

-- they belong to the language
pub record Spelt (P : Language) (bytes : List ℕ) (i j : ℕ) : Type 0 where
  pub forward : i ≤ j
  pub within : j ≤ length bytes
  pub belongs : P (between bytes i j)
