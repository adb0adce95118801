-- Statements that keep the rules of reading.
use Rattle.std.specs.Prelude.{ℕ, Bool, true, ◌&&◌, List, [], nat_lt}
use Rattle.jcode.specs.declared.span.Span.{Span}
use Rattle.jcode.specs.Sentences.{Sentence, Hang, Break, Require, Proclaim, New, Assign, Split, When, Branch, Join}
use Rattle.checking.specs.Pieces.{is_text, is_label, is_term, is_list}

-- its texts, labels, lists and terms keep their rules, where the unit has so many variables
abbrev pub keeps : List ℕ → ℕ → Sentence Span → Bool
keeps bytes count Hang = true
keeps bytes count (Break t) = is_text bytes t
keeps bytes count (Require e t) = is_term count [] e && is_text bytes t
keeps bytes count (Proclaim e) = is_term count [] e
keeps bytes count (New vs e t) = is_list count vs && (is_term count vs e && is_text bytes t)
keeps bytes count (Assign v e f) = nat_lt v count && (is_term count [] e && is_term count [] f)
keeps bytes count (Split l) = is_label l
keeps bytes count (When e l) = is_term count [] e && is_label l
keeps bytes count (Branch t l) = is_text bytes t && is_label l
keeps bytes count (Join l) = is_label l
