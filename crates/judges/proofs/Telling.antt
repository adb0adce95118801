-- What the trier tells, by what its tries came to.
use Rattle.std.proofs.Common.{◌≡◌, true, ◌&&◌, List, [], ◌∷◌, length, map, replicate, ℤ, pos, Some, None, Option, refl, sym, ap, ◌∙◌, subst, arith}
use Rattle.std.specs.Prelude.{nat_le, int_le}
use Rattle.std.specs.List.{list_all}
use Rattle.std.proofs.lemmas.Int.{ints}
use Rattle.std.proofs.lemmas.Bool.{and_parts, and_from, cond-true}
use Rattle.sheets.specs.declared.cell.Cell.{Cell}
use Rattle.sheets.specs.declared.judge.Answer.TheVariants.{Pass, Fail}
use Rattle.sheets.specs.Sheets.{Condition, is_bound, is_bounded}
use Rattle.sheets.specs.Valuations.{Within, allows}
use Rattle.sheets.specs.Judges.{Told}
use Rattle.judges.specs.Tries.{ranges, ways, tries_from, first, proposed, trier}

-- the lows of cells are within their bounds
pub within_lows : (cs : List Cell) → list_all is_bounded cs ≡ true → Within cs (map (λ c. c.low) cs)
within_lows [] h = refl
within_lows (c ∷ cs) h =
    let t = and_parts (is_bounded c) (list_all is_bounded cs) h in
    let up : int_le c.low c.high ≡ true = (and_parts (is_bound c.kind c.low && is_bound c.kind c.high) (int_le c.low c.high) t.0).1 in
    let least : allows c c.low ≡ true = grind (arith, ints, up) in
    and_from (allows c c.low) _ least (within_lows cs t.1)

module _ (s : Condition) (few : nat_le (ways (ranges s.parts 0 s.cells)) 65536 ≡ true) where
  tried : (o : Option (List ℤ)) → first s (tries_from s s.cells []) ≡ o → trier s ≡ proposed o
  tried o e = cond-true _ _ _ few ∙ ap proposed e

  pub told_found : (w : List ℤ) → length w ≡ length s.cells → first s (tries_from s s.cells []) ≡ Some w → Told (length s.cells) (trier s) Fail w
  told_found w long e = subst (λ o. Told (length s.cells) o Fail w) (sym (tried (Some w) e)) (refl, refl, long)

  pub told_none : (zeros : List ℤ) → zeros ≡ replicate (length s.cells) (pos 0) → first s (tries_from s s.cells []) ≡ None → Told (length s.cells) (trier s) Pass zeros
  told_none zeros is e = subst (λ o. Told (length s.cells) o Pass zeros) (sym (tried None e)) (refl, is)
