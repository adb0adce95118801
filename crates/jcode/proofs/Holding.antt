-- What the tables hold of a unit that was read.
use Rattle.std.proofs.Common.{◌≡◌, ℕ, ◌+◌, List, [], ◌∷◌, ◌++◌, map, length, take, drop, sym, refl, ap, ◌∙◌, arith, append_assoc}
use Rattle.std.proofs.lemmas.List.{take_at, drop_at, length-append}
use Rattle.jcode.specs.declared.span.Span.{Span}
use Rattle.jcode.specs.Sentences.{Sentence, Hang, Break, Require, Proclaim, New, Assign, Split, When, Branch, Join, rows_of, term_at, laid, rows_all}
use Rattle.jcode.specs.ReadUnits.{Located, Tables, laid_all, written, outline}
use Rattle.jcode.specs.Units.{unit_in, term_in, sentence_in}
use Rattle.jcode.specs.Notation.{unit_told}
use Rattle.jcode.specs.Rows.{UnitRow}
use Rattle.jcode.proofs.Fillings.{take_over}
use Rattle.jcode.proofs.Listings.{listed_is}
use Rattle.jcode.proofs.Statements.{length_laid}

module _ (rows : List UnitRow) where
  term_held : (used : ℕ) (before e after : List UnitRow) → length before ≡ used → rows ≡ before ++ (e ++ after) → term_in rows (term_at used e) ≡ e
  term_held used before e after n is = ap (λ r. take (length e) (drop used r)) is ∙ ap (take (length e)) (drop_at before (e ++ after) used n) ∙ take_at e after (length e) refl

  sentence_held : (used : ℕ) (s : Sentence Span) (before after : List UnitRow) → length before ≡ used → rows ≡ before ++ (rows_of s ++ after) → sentence_in rows (laid used s) ≡ s
  sentence_held used Hang before after n is = refl
  sentence_held used (Break t) before after n is = refl
  sentence_held used (Require e t) before after n is = ap (λ e. Require e t) (term_held used before e after n is)
  sentence_held used (Proclaim e) before after n is = ap Proclaim (term_held used before e after n is)
  sentence_held used (New vs e t) before after n is = λ k. New (listed_is vs k) (term_held used before e after n is k) t
  sentence_held used (Assign v e f) before after n is =
      let first = term_held used before e (f ++ after) n (is ∙ ap (λ r. before ++ r) (append_assoc e f after)) in
      let second = term_held (used + length e) (before ++ e) f after (omega (arith, length-append before e)) (is ∙ ap (λ r. before ++ r) (append_assoc e f after) ∙ sym (append_assoc before e (f ++ after))) in
      λ k. Assign v (first k) (second k)
  sentence_held used (Split l) before after n is = refl
  sentence_held used (When e l) before after n is = ap (λ e. When e l) (term_held used before e after n is)
  sentence_held used (Branch t l) before after n is = refl
  sentence_held used (Join l) before after n is = refl

  pub all_held : (used : ℕ) (ss : List (Sentence Span)) (before : List UnitRow) → length before ≡ used → rows ≡ before ++ rows_all ss → map (sentence_in rows) (laid_all used ss) ≡ ss
  all_held used [] before n is = refl
  all_held used (s ∷ ss) before n is =
      let rest = all_held (used + length (rows_of s)) ss (before ++ rows_of s) (omega (arith, length-append before (rows_of s))) (is ∙ sym (append_assoc before (rows_of s) (rows_all ss))) in
      λ k. sentence_held used s before (rows_all ss) n is k ∷ rest k

-- the unit that is told is the one that was read
pub held_whole : (bytes : List ℕ) (t : Tables) (u : Located) (j : ℕ) → unit_told bytes (outline u j) (written u t) ≡ unit_in bytes u
held_whole bytes t u j =
    let ss = u.sentences in
    let rows = take_over t.rows (rows_all ss) in
    let statements = ap (λ n. take n (written u t).statements) (sym (length_laid 0 ss)) ∙ take_over t.statements (laid_all 0 ss) in
    ap (unit_in bytes) ((λ k. record { name = u.name; variables = take_over t.variables u.variables k; sentences = map (sentence_in (rows k)) (statements k) })
    ∙ ap (λ ss. record { name = u.name; variables = u.variables; sentences = ss }) (all_held (rows_all ss) 0 ss [] refl refl))
