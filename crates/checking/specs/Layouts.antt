-- How the terms of statements stand in the row table: one after another, each where the last one ends.
use Rattle.std.specs.Prelude.{ℕ, ◌+◌, Bool, false, cond, ◌&&◌, List, [], ◌∷◌, length, drop, Some, None, Option, ◌==◌, nat_eq, nat_le}
use Rattle.jcode.specs.declared.statement.Listing.{Listing}
use Rattle.jcode.specs.declared.statement.Statement.{Statement}
use Rattle.jcode.specs.declared.statement.Statement.TheVariants as stands
use Rattle.jcode.specs.declared.statement.Term.{Term}
use Rattle.std.specs.List.{list_all}

-- the place after a term that stands at a place of a table with so many rows
abbrev pub after_term : ℕ → ℕ → Term → Option ℕ
after_term total used e = cond (e.first == used && nat_le (used + e.rows) total) (Some (used + e.rows)) None

abbrev pub after_both : ℕ → Option ℕ → Term → Option ℕ
after_both total None f = None
after_both total (Some next) f = after_term total next f

-- of 8 numbers, those past the count are 0
abbrev pub padded : Listing → Bool
padded l = nat_le l.count 8 && (length l.variables == 8 && list_all (λ v. nat_eq v 0) (drop l.count l.variables))

abbrev pub after_statement : ℕ → ℕ → Statement → Option ℕ
after_statement total used stands.Hang = Some used
after_statement total used (stands.Break t) = Some used
after_statement total used (stands.Require e t) = after_term total used e
after_statement total used (stands.Proclaim e) = after_term total used e
after_statement total used (stands.New vs e t) = cond (padded vs) (after_term total used e) None
after_statement total used (stands.Assign v e f) = after_both total (after_term total used e) f
after_statement total used (stands.Split l) = Some used
after_statement total used (stands.When e l) = after_term total used e
after_statement total used (stands.Branch t l) = Some used
after_statement total used (stands.Join l) = Some used

abbrev pub fills_from : ℕ → Option ℕ → List Statement → Bool
fills_from total None ss = false
fills_from total (Some used) [] = used == total
fills_from total (Some used) (s ∷ ss) = fills_from total (after_statement total used s) ss
