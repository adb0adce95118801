-- Rows read as numbers, each in the low end of a mark.
use Rattle.std.specs.Prelude.{◌≡◌, ℕ, ◌+◌, ◌<◌, ◌≤◌, true, List, length, map, drop, ℤ, pos, slice_index_or}
use Rattle.terms.specs.declared.row.Row.{Row}
use Rattle.terms.specs.declared.row.Row.TheVariants.{Constant, Mention, Operator as Applied}
use Rattle.terms.specs.Operators.{arity}
use Rattle.terms.specs.Numbers.{in_span}
use Rattle.terms.specs.Terms.{onto, numbered}
use Rattle.reckoning.specs.declared.mark.Mark.{Mark}

abbrev pub lows : List Mark → List ℤ
lows ms = map (λ m. m.low) ms

-- the numbers of a stack once a row is read onto it
abbrev pub after_row : (ℕ → ℤ) → Row ℕ → List Mark → List ℤ
after_row env row stack = onto (numbered env) row (lows stack)

-- what the row comes to
abbrev pub newest : (ℕ → ℤ) → Row ℕ → List Mark → ℤ
newest env row stack = slice_index_or (after_row env row stack) 0 (pos 0)

-- how many numbers a row takes from the stack
abbrev pub takes : Row ℕ → ℕ
takes (Constant z) = 0
takes (Mention i) = 0
takes (Applied o) = arity o

-- a call reads a row onto the stack from `top` on, if what the row comes to lies in the span
pub record Read (env : ℕ → ℤ) (row : Row ℕ) (before : List Mark) (top next : ℕ) (after : List Mark) : Type 0 where
  pub near : top ≤ next + 1
  pub inside : next < length before
  pub folded : in_span (newest env row (drop top before)) ≡ true → lows (drop next after) ≡ after_row env row (drop top before)
