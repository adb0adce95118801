-- Pieces that keep the rules of reading: some bytes spell them.
use Rattle.std.proofs.Common.{◌≡◌, ℕ, ◌≤◌, true, leb, List, [], ◌∷◌, ◌++◌, length, ℤ, refl, inl, arith}
use Rattle.std.specs.Prelude.{codes, decimal, int_le, ◌≤ℤ◌}
use Rattle.std.specs.Fmt.{signed_decimal}
use Rattle.std.proofs.lemmas.Bool.{and_parts, leb-true}
use Rattle.std.proofs.lemmas.Int.{ints}
use Rattle.std.proofs.lemmas.List.{length-take}
use Rattle.terms.specs.Numbers.{least, greatest, in_span}
use Rattle.jcode.specs.declared.span.Span.{Span}
use Rattle.jcode.specs.Bytes.{slice, is_word, is_text as plain}
use Rattle.jcode.specs.Language.{Language, ◌⊙◌, Just, Gap, MayGap, End, IsName, Number, Label, Text}
use Rattle.jcode.specs.Spelling.{Close}
use Rattle.jcode.proofs.Texts.{plain_text}
use Rattle.checking.specs.Pieces.{fits, is_name, is_text, is_label}

-- some bytes belong
abbrev pub Spelled : Language → Type 0
Spelled P = (w : List ℕ) × P w

infixr 40 ◌&◌
-- one part, then the other
pub ◌&◌ : {P Q : Language} → Spelled P → Spelled Q → Spelled (P ⊙ Q)
◌&◌ p q = (p.0 ++ q.0, (p.0, q.0, p.1, q.1, refl))

pub these : (v : List ℕ) → Spelled (Just v)
these v = (v, refl)

-- a space where a gap must stand, and none where one may
pub gap : Spelled Gap
gap = (32 ∷ [], ([], refl, refl))

pub no_gap : Spelled MayGap
no_gap = ([], inl refl)

pub line_end : Spelled End
line_end = (10 ∷ [], ([], refl, refl))

pub close : Spelled Close
close = no_gap & these (codes ")")

pub at_most : (a b : ℤ) → int_le a b ≡ true → a ≤ℤ b
at_most a b e = grind (arith, ints)

pub number : (z : ℤ) → in_span z ≡ true → Spelled (Number z)
number z e = let h = and_parts (int_le least z) (int_le z greatest) e in (signed_decimal z, (at_most least z h.0, at_most z greatest h.1, refl))

pub label : (l : ℕ) → is_label l ≡ true → Spelled (Label l)
label l e = let h = and_parts (leb 1 l) (leb l 9999) e in (decimal l, (leb-true 1 l h.0, leb-true l 9999 h.1, refl))

module _ (bytes : List ℕ) (s : Span) where
  short : (most : ℕ) → leb s.length most ≡ true → length (slice bytes s) ≤ most
  short most e = simp length-take (let few = leb-true s.length most e in omega arith)

  pub name : is_name bytes s ≡ true → IsName (slice bytes s)
  name e = let h = and_parts (leb s.length 32) (is_word (slice bytes s)) (and_parts (fits bytes s) _ e).1 in (h.1, short 32 h.0)

  pub text : is_text bytes s ≡ true → Spelled (Text (slice bytes s))
  text e =
      let h = and_parts (leb s.length 80) (plain (slice bytes s)) (and_parts (fits bytes s) _ e).1 in
      let p = plain_text (slice bytes s) h.1 in
      these (codes "(/") & (slice bytes s, ((p.0, p.1, short 80 h.0), refl)) & these (codes "/)")
