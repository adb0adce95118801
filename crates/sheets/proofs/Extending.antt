-- Records written on a page one after another.
use Rattle.std.proofs.Common.{◌≡◌, ℕ, ◌+◌, ◌<◌, List, [], ◌∷◌, ◌++◌, map, length, take, get_or, sym, ap, ◌∙◌, subst, length-append, arith}
use Rattle.std.proofs.lemmas.List.{map_more}
use Rattle.jcode.specs.Tables.{put}
use Rattle.jcode.proofs.Stores.{put_append}
use Rattle.sheets.specs.Writings.{Page, Extends}

module _ {X : Type 0} (a b c : Page X) (xs ys : List X) where
  pub extended : Extends a xs b → Extends b ys c → Extends a (xs ++ ys) c
  extended p q = record {
    records = q.records ∙ (λ i. put (p.records i) (p.count i) ys) ∙ sym (put_append a.records a.count xs ys);
    count = let e = length-append xs ys in omega (arith, p.count, q.count, e);
  }

pub not_extended : {X : Type 0} (a : Page X) → Extends a [] a
not_extended a = record { records = λ i. a.records; count = omega arith }

-- what is made of each element of a list
pub one_more : {A X : Type 0} (a b c : Page X) (f : A → X) (xs : List A) (i : ℕ) (d : A) (x : X) → i < length xs → x ≡ f (get_or xs i d) → Extends a (map f (take i xs)) b → Extends b (x ∷ []) c → Extends a (map f (take (i + 1) xs)) c
one_more a b c f xs i d x h is p q = subst (λ ys. Extends a ys c) (ap (λ y. map f (take i xs) ++ y ∷ []) is ∙ sym (map_more f xs i d h)) (extended a b c (map f (take i xs)) (x ∷ []) p q)
