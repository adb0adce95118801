-- Elements of which no two are alike.
use Rattle.std.specs.Prelude.{Bool, true, not, ◌&&◌, List, [], ◌∷◌}
use Rattle.std.specs.List.{list_any}

abbrev pub apart : {X : Type 0} → (X → X → Bool) → List X → Bool
apart alike [] = true
apart alike (x ∷ xs) = not (list_any (alike x) xs) && apart alike xs
