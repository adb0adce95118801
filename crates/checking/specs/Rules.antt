-- What the check asks of each statement's terms.
use Rattle.std.specs.Prelude.{◌≡◌, ℕ, Bool, true, false, ◌&&◌, List, Some, None, Option, slice_index_or}
use Rattle.std.specs.List.{slice_get}
use Rattle.terms.specs.declared.kind.Kind.{Kind}
use Rattle.terms.specs.declared.kind.Kind.TheVariants.{Truth}
use Rattle.jcode.specs.declared.variable.Domain.{Domain}
use Rattle.jcode.specs.ReadTerms.{UnitRow}
use Rattle.jcode.specs.Sentences.{Sentence, Hang, Break, Require, Proclaim, New, Assign, Split, When, Branch, Join}
use Rattle.reckoning.specs.Kinds.{is_kind, kind_of}
use Rattle.reckoning.specs.Spanning.{ranged_rows}
use Rattle.checking.specs.Types.{domain_kind, mention_kind, mention_bounds}

-- a term is a truth, where variables have these types
abbrev pub is_truth : List Domain → List UnitRow → Bool
is_truth ds e = is_kind (kind_of (mention_kind ds) e) Truth

abbrev pub of_domain : Option Domain → Option Kind → Bool
of_domain None k = false
of_domain (Some d) k = is_kind k (domain_kind d)

-- a term has the kind of a variable
abbrev pub is_like : List Domain → ℕ → List UnitRow → Bool
is_like ds v e = of_domain (slice_get ds v) (kind_of (mention_kind ds) e)

-- conditions and shadows are truths, and a new value has its variable's kind
abbrev pub kinds_kept : {T : Type 0} → List Domain → Sentence T → Bool
kinds_kept ds Hang = true
kinds_kept ds (Break t) = true
kinds_kept ds (Require e t) = is_truth ds e
kinds_kept ds (Proclaim e) = is_truth ds e
kinds_kept ds (New vs e t) = is_truth ds e
kinds_kept ds (Assign v e f) = is_truth ds e && is_like ds v f
kinds_kept ds (Split l) = true
kinds_kept ds (When e l) = is_truth ds e
kinds_kept ds (Branch t l) = true
kinds_kept ds (Join l) = true

-- no row of a term has the range mark 'any', with every variable at its type's bounds
abbrev pub stays_in : List Domain → List UnitRow → Bool
stays_in ds e = ranged_rows (mention_bounds ds) e

abbrev pub span_kept : {T : Type 0} → List Domain → Sentence T → Bool
span_kept ds Hang = true
span_kept ds (Break t) = true
span_kept ds (Require e t) = stays_in ds e
span_kept ds (Proclaim e) = stays_in ds e
span_kept ds (New vs e t) = stays_in ds e
span_kept ds (Assign v e f) = stays_in ds e && stays_in ds f
span_kept ds (Split l) = true
span_kept ds (When e l) = stays_in ds e
span_kept ds (Branch t l) = true
span_kept ds (Join l) = true

-- the statement at a place fails a test; past the last one there is none to fail
abbrev pub Failing : {T : Type 0} → (Sentence T → Bool) → List (Sentence T) → ℕ → Type 0
Failing test ss i = test (slice_index_or ss i Hang) ≡ false
