-- Tables that are filled from their front, one record more at a time.
use Rattle.std.proofs.Common.{◌≡◌, ℕ, ◌+◌, ◌<◌, ◌≤◌, List, [], ◌∷◌, ◌++◌, length, take, drop, set, sym, refl, ap, ◌∙◌, arith}
use Rattle.std.proofs.lemmas.List.{take_more_set, length-take, take_at, set_at, append_assoc, length_push}
use Rattle.jcode.specs.declared.table.Table.{Table}
use Rattle.jcode.specs.Tables.{put}
use Rattle.jcode.specs.ReadUnits.{over}
use Rattle.jcode.proofs.Stores.{put_append}

module _ {X : Type 0} (table filled : List X) (count : ℕ) (x : X) (room : count < length filled) where
  pub seen_more : take (count + 1) (set filled count x) ≡ take count filled ++ x ∷ []
  seen_more = take_more_set filled count x room

  pub filled_more : filled ≡ put table 0 (take count filled) → set filled count x ≡ put table 0 (take (count + 1) (set filled count x))
  filled_more e =
      let n : count ≡ 0 + length (take count filled) = omega (arith, length-take count filled) in
      (λ k. set (e k) (n k) x) ∙ sym (put_append table 0 (take count filled) (x ∷ [])) ∙ ap (put table 0) (sym seen_more)

-- a table with one record more
module _ {X : Type 0} (table : List X) (t t' : Table X) (x : X) (room : t.count < length t.records.now) (pushed : t'.records.now ≡ set t.records.now t.count x) (one : t'.count ≡ t.count + 1) where
  pub seen_push : take t'.count t'.records.now ≡ take t.count t.records.now ++ x ∷ []
  seen_push = (λ k. take (one k) (pushed k)) ∙ seen_more table t.records.now t.count x room

  pub filled_push : t.records.now ≡ put table 0 (take t.count t.records.now) → t'.records.now ≡ put table 0 (take t'.count t'.records.now)
  filled_push e = pushed ∙ filled_more table t.records.now t.count x room e ∙ sym (λ k. put table 0 (take (one k) (pushed k)))

-- records put at the front leave the old rest
put_after : {X : Type 0} (front rest ys : List X) → length ys ≤ length rest → put (front ++ rest) (length front) ys ≡ front ++ over ys rest
put_after front rest [] h = refl
put_after front [] (y ∷ ys) h = absurd (omega arith)
put_after front (r ∷ rest) (y ∷ ys) h =
    let n : length front + 1 ≡ length (front ++ y ∷ []) = sym (length_push front y) in
    (λ k. put ((set_at front r rest y (length front) refl ∙ sym (append_assoc front (y ∷ []) rest)) k) (n k) ys)
    ∙ put_after (front ++ y ∷ []) rest ys (omega arith)
    ∙ append_assoc front (y ∷ []) (over ys rest)

pub put_front : {X : Type 0} (table ys : List X) → length ys ≤ length table → put table 0 ys ≡ over ys table
put_front table ys h = put_after [] table ys h

-- and stand at the front
pub take_over : {X : Type 0} (table ys : List X) → take (length ys) (over ys table) ≡ ys
take_over table ys = take_at ys (drop (length ys) table) (length ys) refl
