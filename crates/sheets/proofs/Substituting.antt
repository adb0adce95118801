-- Terms with other mentions in them.
use Rattle.std.proofs.Common.{◌≡◌, ℕ, ◌<◌, true, ◌&&◌, List, [], ◌∷◌, get_or, Some, None, Option, refl, ap, ap₂}
use Rattle.std.proofs.lemmas.Bool.{and_parts, ltb-true}
use Rattle.std.specs.List.{list_all}
use Rattle.std.specs.Option.{unwrap_or}
use Rattle.terms.specs.declared.kind.Kind.{Kind}
use Rattle.terms.specs.declared.row.Row.{Row}
use Rattle.terms.specs.declared.row.Row.TheVariants.{Constant, Mention, Operator as Applied}
use Rattle.terms.specs.Terms.{Algebra, onto, fold, map_mentions}
use Rattle.reckoning.specs.declared.mark.Mark.{Mark}
use Rattle.reckoning.specs.Evaluation.{Mentions, marks_by, mark_of}
use Rattle.reckoning.specs.Kinds.{kinds, kind_of}
use Rattle.reckoning.specs.Ranges.{is_range, ranges}
use Rattle.reckoning.specs.Spanning.{ranged_rows}
use Rattle.reckoning.proofs.Mentioning.{mentions_tail, mentions_all}
use Rattle.jcode.specs.ReadTerms.{UnitRow}
use Rattle.checking.specs.Nesting.{raised, nesting, single, writes_term}
use Rattle.checking.specs.Pieces.{row_known}

-- an algebra that makes this of mentions
abbrev pub mentioning : {M N X : Type 0} → Algebra N X → (M → X) → Algebra M X
mentioning g found = record { constant = g.constant; mention = found; operator = g.operator; absent = g.absent }

-- what rows come to hangs on what is made of their mentions alone
pub fold_mapped : {M N X : Type 0} (g : Algebra N X) (found : M → X) (f : M → N) (rs : List (Row M)) → Mentions (λ m. g.mention (f m) ≡ found m) rs → fold g (map_mentions f rs) ≡ fold (mentioning g found) rs
fold_mapped g found f [] h = refl
fold_mapped g found f (Constant z ∷ rs) h = ap (λ st. g.constant z ∷ st) (fold_mapped g found f rs h)
fold_mapped g found f (Mention m ∷ rs) h = λ i. h.0 i ∷ fold_mapped g found f rs h.1 i
fold_mapped g found f (Applied o ∷ rs) h = ap (onto g (Applied o)) (fold_mapped g found f rs h)

pub mentions_weaker : {M : Type 0} (P Q : M → Type 0) → ((m : M) → P m → Q m) → (rs : List (Row M)) → Mentions P rs → Mentions Q rs
mentions_weaker P Q f [] h = tt
mentions_weaker P Q f (Constant z ∷ rs) h = mentions_weaker P Q f rs h
mentions_weaker P Q f (Mention m ∷ rs) h = (f m h.0, mentions_weaker P Q f rs h.1)
mentions_weaker P Q f (Applied o ∷ rs) h = mentions_weaker P Q f rs h

-- a known row mentions a declared variable
pub mentions_declared : (count : ℕ) (listed : List ℕ) (e : List UnitRow) → list_all (row_known count listed) e ≡ true → Mentions (λ m. m.variable < count) e
mentions_declared count listed [] h = tt
mentions_declared count listed (Constant z ∷ e) h = mentions_declared count listed e (and_parts _ _ h).1
mentions_declared count listed (Mention m ∷ e) h = let p = and_parts _ _ h in (ltb-true _ _ (and_parts _ _ p.0).0, mentions_declared count listed e p.1)
mentions_declared count listed (Applied o ∷ e) h = mentions_declared count listed e h

-- ---- so nesting stays, and kinds and range marks are those of what mentions become
pub writes_over : {M N : Type 0} (limit : ℕ) (f : M → N) (e : List (Row M)) → writes_term limit (map_mentions f e) ≡ writes_term limit e
writes_over limit f e = ap single (fold_mapped (nesting limit) (λ m. raised limit (Some 0)) f e (mentions_all (λ m. raised limit (Some 0) ≡ raised limit (Some 0)) (λ m. refl) e))

pub kind_over : {M N : Type 0} (at : N → Option Kind) (found : M → Option Kind) (f : M → N) (e : List (Row M)) → Mentions (λ m. at (f m) ≡ found m) e → kind_of at (map_mentions f e) ≡ kind_of found e
kind_over at found f e h = ap (λ st. get_or st 0 None) (fold_mapped (kinds at) found f e h)

mark_over : {M N : Type 0} (at : N → Option Mark) (found : M → Option Mark) (f : M → N) (e : List (Row M)) → Mentions (λ m. at (f m) ≡ found m) e → mark_of ranges at (map_mentions f e) ≡ mark_of ranges found e
mark_over at found f e h = ap (λ st. get_or st 0 ranges.anything) (fold_mapped (marks_by ranges at) (λ m. unwrap_or (found m) ranges.anything) f e
    (mentions_weaker (λ m. at (f m) ≡ found m) (λ m. unwrap_or (at (f m)) ranges.anything ≡ unwrap_or (found m) ranges.anything) (λ m is. ap (λ o. unwrap_or o ranges.anything) is) e h))

pub ranged_over : {M N : Type 0} (at : N → Option Mark) (found : M → Option Mark) (f : M → N) (e : List (Row M)) → Mentions (λ m. at (f m) ≡ found m) e → ranged_rows at (map_mentions f e) ≡ ranged_rows found e
ranged_over at found f [] h = refl
ranged_over at found f (r ∷ e) h = ap₂ (λ mark rest. is_range mark && rest) (mark_over at found f (r ∷ e) h) (ranged_over at found f e (mentions_tail (λ m. at (f m) ≡ found m) r e h))
