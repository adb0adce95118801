-- Classes of bytes, the longest front of a list whose bytes are all of one class, and parts of a list.
use Rattle.std.specs.Prelude.{ℕ, ◌-◌, Bool, false, not, ◌&&◌, ◌||◌, List, length, take, drop, codes, ◌==◌, nat_eq, nat_le, Some, slice_get, take_while}
use Rattle.std.specs.List.{list_all, range_with_len}
use Rattle.std.specs.Option.{option_eq, option_map_or}
use Rattle.terms.specs.Words.{same_word}
use Rattle.jcode.specs.declared.class.Class.{Class}
use Rattle.jcode.specs.declared.class.Class.TheVariants.{Separator, Letter, Digit, Name, Text}
use Rattle.jcode.specs.declared.span.Span.{Span}

abbrev within : ℕ → ℕ → ℕ → Bool
within a z b = nat_le a b && nat_le b z

-- space, tab, newline
abbrev pub separator : ℕ → Bool
separator b = b == 32 || (b == 9 || b == 10)

abbrev pub letter : ℕ → Bool
letter b = within 97 122 b || within 65 90 b

abbrev pub digit : ℕ → Bool
digit b = within 48 57 b

-- letters, digits, `.`, `_` and `~`
abbrev pub name_byte : ℕ → Bool
name_byte b = letter b || (digit b || (b == 46 || (b == 95 || b == 126)))

abbrev pub text_byte : ℕ → Bool
text_byte b = within 32 126 b

abbrev pub in_class : Class → ℕ → Bool
in_class Separator = separator
in_class Letter = letter
in_class Digit = digit
in_class Name = name_byte
in_class Text = text_byte

-- the bytes of a span
abbrev pub slice : List ℕ → Span → List ℕ
slice bytes s = take s.length (drop s.start bytes)

-- whether this is the byte at a place, and whether the byte there is of a class
abbrev pub stands : ℕ → List ℕ → ℕ → Bool
stands b bytes at = option_eq nat_eq (slice_get bytes at) (Some b)

abbrev pub passes : (ℕ → Bool) → List ℕ → ℕ → Bool
passes p bytes at = option_map_or p (slice_get bytes at) false

-- so many bytes from a place on
abbrev pub from : ℕ → ℕ → Span
from at n = record { start = at; length = n }

-- the longest run of a class at a place
abbrev pub run_at : (ℕ → Bool) → List ℕ → ℕ → Span
run_at p bytes at = from at (length (take_while p (drop at bytes)))

-- a text goes on at a place: a byte of a text stands there, and no `/)`
abbrev pub text_at : List ℕ → ℕ → Bool
text_at bytes i = passes text_byte bytes i && not (same_word (take 2 (drop i bytes)) (codes "/)"))

-- the bytes of a text at a place, up to the first `/)`
abbrev pub text_run : List ℕ → ℕ → Span
text_run bytes at = from at (length (take_while (text_at bytes) (range_with_len at (length bytes - at))))

-- a letter, and nothing after it that no name may have
abbrev pub is_word : List ℕ → Bool
is_word s = passes letter s 0 && list_all name_byte s

-- bytes that may all stand in a text, with no `/)` among them
abbrev pub is_text : List ℕ → Bool
is_text s = (text_run s 0).length == length s
