-- A search for a name through a list of what has names.
use Rattle.std.proofs.Common.{◌≡◌, suc, ◌+◌, Bool, cond, List, [], ◌∷◌, map, length, refl, ap}
use Rattle.std.specs.Prelude.{position}
use Rattle.std.specs.List.{prefix_len}

module _ {X Y : Type 0} (p : Y → Bool) (f : X → Y) where
  pub prefix_len-map : (xs : List X) → prefix_len p (map f xs) ≡ prefix_len (λ x. p (f x)) xs
  prefix_len-map [] = refl
  prefix_len-map (x ∷ xs) = ap (λ n. cond (p (f x)) (1 + n) 0) (prefix_len-map xs)

pub length_map : {X Y : Type 0} (f : X → Y) (xs : List X) → length (map f xs) ≡ length xs
length_map f [] = refl
length_map f (x ∷ xs) = ap suc (length_map f xs)

pub position_map : {X Y : Type 0} (p : Y → Bool) (f : X → Y) (xs : List X) → position p (map f xs) ≡ position (λ x. p (f x)) xs
position_map p f xs = simp (prefix_len-map, length_map)
