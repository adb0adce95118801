-- A search through a table of words.
use Rattle.std.proofs.Common.{◌≡◌, Bool, true, false, cond, Some, Option, refl}
use Rattle.std.specs.Option.{option_map}

-- what is made of the first of two
pub option_map_cond : {A B : Type 0} (f : A → B) (t : Bool) (x : A) (o : Option A) → option_map f (cond t (Some x) o) ≡ cond t (Some (f x)) (option_map f o)
option_map_cond f true x o = refl
option_map_cond f false x o = refl
