-- What a term can mention: the names that are declared, and in NEW the variables that it lists.
use Rattle.std.specs.Prelude.{ℕ, ◌+◌, Bool, false, cond, List, map, take, Option, Some, nat_eq, nat_lt, position, slice_set}
use Rattle.std.specs.Bool.{then_some}
use Rattle.std.specs.List.{list_any}
use Rattle.std.specs.Option.{option_and_then, option_map, option_map_or}
use Rattle.terms.specs.Words.{same_word}
use Rattle.jcode.specs.declared.scope.Scope.{Scope as CodeScope}
use Rattle.jcode.specs.declared.statement.Listing.{Listing}
use Rattle.jcode.specs.declared.variable.Variable.{Variable}
use Rattle.jcode.specs.Bytes.{slice}

pub record Scope : Type 0 where
  pub names : List (List ℕ)
  -- none outside of NEW
  pub listed : Option (List ℕ)

-- in a NEW that lists these
abbrev pub listing : Scope → List ℕ → Scope
listing sc vs = record { names = sc.names; listed = Some vs }

abbrev pub member : ℕ → List ℕ → Bool
member v xs = list_any (λ x. nat_eq x v) xs

-- whether a variable is one that NEW lists; outside of NEW none is
abbrev pub renews : Scope → ℕ → Bool
renews sc v = option_map_or (member v) sc.listed false

-- the number of the first name that is this one
abbrev pub index_of : List ℕ → List (List ℕ) → Option ℕ
index_of w names = position (same_word w) names

-- the number of the variable of this name, if NEW lists it
abbrev pub renewed : Scope → List ℕ → Option ℕ
renewed sc w = option_and_then (λ v. then_some (renews sc v) v) (index_of w sc.names)

-- the name of a variable, in the bytes
abbrev pub name_in : List ℕ → Variable → List ℕ
name_in bytes v = slice bytes v.name

abbrev pub listed_in : Listing → List ℕ
listed_in l = take l.count l.variables

-- one variable more, where there is room
abbrev pub pushed : Listing → ℕ → Listing
pushed l v = cond (nat_lt l.count 8) (record { variables = slice_set l.variables l.count v; count = l.count + 1 }) l

abbrev pub scope_of : CodeScope → Scope
scope_of s = record { names = map (name_in s.bytes.now) s.variables.now; listed = option_map listed_in s.listing }
