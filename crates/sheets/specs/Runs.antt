-- Runs: what a unit may do, and where it fails. A store has entry 2i for the value and entry 2i + 1 for the shadow of variable i.
use Rattle.std.specs.Prelude.{◌≡◌, ℕ, ◌+◌, ◌*◌, Bool, true, false, ◌&&◌, List, [], ◌∷◌, ◌++◌, map, ℤ, pos, slice_index_or, slice_set}
use Rattle.std.specs.List.{flat_map}
use Rattle.terms.specs.Terms.{value}
use Rattle.flow.specs.declared.step.Step.TheVariants as step
use Rattle.flow.specs.Steps.{at, Next}
use Rattle.jcode.specs.declared.mention.Aspect.{Aspect}
use Rattle.jcode.specs.declared.mention.Aspect.TheVariants.{Value, Shadow}
use Rattle.jcode.specs.declared.mention.Mention.{Mention}
use Rattle.jcode.specs.declared.mention.Stage.{Stage}
use Rattle.jcode.specs.declared.mention.Stage.TheVariants.{Current, New as Given}
use Rattle.jcode.specs.declared.variable.Domain.{Domain}
use Rattle.jcode.specs.declared.variable.Domain.TheVariants.{Integer, Boolean}
use Rattle.jcode.specs.ReadTerms.{UnitRow}
use Rattle.jcode.specs.Sentences.{Sentence, Hang, Break, Require, Proclaim, New, Assign, Split, When, Branch, Join}
use Rattle.jcode.specs.Units.{JUnit}
use Rattle.reckoning.specs.Ranges.{within}
use Rattle.checking.specs.Breaks.{steps_of}
use Rattle.checking.specs.Types.{domains, domain_bounds}

-- the statement at a place; past the last one there is nothing to do
abbrev pub sentence : JUnit → ℕ → Sentence (List ℕ)
sentence u i = slice_index_or u.statements i Hang

-- as many numbers as types, each of its type
abbrev pub are_of : List Domain → List ℤ → Bool
are_of [] [] = true
are_of [] (n ∷ ns) = false
are_of (d ∷ ds) [] = false
are_of (d ∷ ds) (n ∷ ns) = within (domain_bounds d) n && are_of ds ns

-- the types of values and shadows, where variables have these types
abbrev pub with_shadows : List Domain → List Domain
with_shadows ds = flat_map (λ d. d ∷ Boolean ∷ []) ds

-- and of some of the variables
abbrev pub types_at : JUnit → List ℕ → List Domain
types_at u vs = with_shadows (map (λ v. slice_index_or (domains u) v Integer) vs)

-- a store has each value in its variable's type, and each shadow is 0 or 1
abbrev pub Fitting : JUnit → List ℤ → Type 0
Fitting u s = are_of (with_shadows (domains u)) s ≡ true

-- what is laid out as a store is, with two put in for each listed variable: its value's and its shadow's
abbrev pub stored : {X : Type 0} → List ℕ → List X → List X → List X
stored [] given s = s
stored (v ∷ vs) [] s = s
stored (v ∷ vs) (x ∷ []) s = s
stored (v ∷ vs) (x ∷ d ∷ given) s = stored vs given (slice_set (slice_set s (2 * v) x) (2 * v + 1) d)

abbrev pub entry_of : Aspect → ℕ → ℕ
entry_of Value v = 2 * v
entry_of Shadow v = 2 * v + 1

abbrev pub staged : {X : Type 0} → Stage → X → X → X
staged Current before after = before
staged Given before after = after

-- what a mention reads: `new!` from what is laid out as the store after a statement, all else from the one before
abbrev pub read : {X : Type 0} → X → List X → List X → Mention → X
read absent before after m = slice_index_or (staged m.stage before after) (entry_of m.aspect m.variable) absent

-- the number of a term that reads two stores, and of one that reads one
abbrev pub number_in : List ℤ → List ℤ → List UnitRow → ℤ
number_in before after e = value (read (pos 0) before after) e

abbrev pub Holds : List ℤ → List UnitRow → Type 0
Holds s e = number_in s s e ≡ pos 1

-- the variables to which a statement gives a new value and a new shadow
abbrev pub listed : {T : Type 0} → Sentence T → List ℕ
listed Hang = []
listed (Break t) = []
listed (Require e t) = []
listed (Proclaim e) = []
listed (New vs e t) = vs
listed (Assign v e f) = v ∷ []
listed (Split l) = []
listed (When e l) = []
listed (Branch t l) = []
listed (Join l) = []

-- what a statement asks of the store s and of the numbers that it gives, for a run to go past it
abbrev pub Demands : {T : Type 0} → Sentence T → List ℤ → List ℤ → Type 0
Demands Hang s given = Unit {0}
Demands (Break t) s given = Unit {0}
Demands (Require e t) s given = Holds s e
Demands (Proclaim e) s given = Holds s e
Demands (New vs e t) s given = number_in s (stored vs given s) e ≡ pos 1
Demands (Assign v e f) s given = given ≡ number_in s s f ∷ number_in s s e ∷ []
Demands (Split l) s given = Unit {0}
Demands (When e l) s given = Unit {0}
Demands (Branch t l) s given = Unit {0}
Demands (Join l) s given = Unit {0}

-- and what it asks for a run to come to it: a WHEN is chosen only where it is true
abbrev pub Admits : {T : Type 0} → Sentence T → List ℤ → Type 0
Admits Hang s = Unit {0}
Admits (Break t) s = Unit {0}
Admits (Require e t) s = Unit {0}
Admits (Proclaim e) s = Unit {0}
Admits (New vs e t) s = Unit {0}
Admits (Assign v e f) s = Unit {0}
Admits (Split l) s = Unit {0}
Admits (When e l) s = Holds s e
Admits (Branch t l) s = Unit {0}
Admits (Join l) s = Unit {0}

-- past a statement that gives these numbers, each in its type, the store s becomes t
pub record Acts {T : Type 0} (u : JUnit) (st : Sentence T) (given s t : List ℤ) : Type 0 where
  pub typed : are_of (types_at u (listed st)) given ≡ true
  pub demanded : Demands st s given
  pub after : t ≡ stored (listed st) given s

-- from the statement at i to the one at j the store s becomes t
pub record Goes (u : JUnit) (i j : ℕ) (given s t : List ℤ) : Type 0 where
  pub acts : Acts u (sentence u i) given s t
  pub next : Next (steps_of u) i j
  pub admitted : Admits (sentence u j) t

-- a run comes to the statement at i with the store s: it starts at any BREAK, and goes by successors
pub data Reaches (u : JUnit) : ℕ → List ℤ → Type 0 where
  starts : {i : ℕ} {s : List ℤ} → at (steps_of u) i ≡ step.Break → Fitting u s → Reaches u i s
  goes : {i j : ℕ} {s t : List ℤ} (given : List ℤ) → Reaches u i s → Goes u i j given s t → Reaches u j t

-- a REQUIRE that is false
abbrev pub FailsAt : {T : Type 0} → Sentence T → List ℤ → Type 0
FailsAt Hang s = ⊥
FailsAt (Break t) s = ⊥
FailsAt (Require e t) s = number_in s s e ≡ pos 0
FailsAt (Proclaim e) s = ⊥
FailsAt (New vs e t) s = ⊥
FailsAt (Assign v e f) s = ⊥
FailsAt (Split l) s = ⊥
FailsAt (When e l) s = ⊥
FailsAt (Branch t l) s = ⊥
FailsAt (Join l) s = ⊥

-- some run fails
abbrev pub Fails : JUnit → Type 0
Fails u = (i : ℕ) × (s : List ℤ) × Reaches u i s × FailsAt (sentence u i) s

-- the run from the store s along exactly these places: it comes to the later ones with the stores `through` in turn, and its statements give the numbers `given` in turn
abbrev pub RunsThrough : JUnit → List ℕ → List ℤ → List (List ℤ) → List ℤ → Type 0
RunsThrough u [] s through given = ⊥
RunsThrough u (i ∷ []) s [] given = given ≡ []
RunsThrough u (i ∷ []) s (t ∷ through) given = ⊥
RunsThrough u (i ∷ j ∷ p) s [] given = ⊥
RunsThrough u (i ∷ j ∷ p) s (t ∷ through) given =
    (now : List ℤ) × (later : List ℤ) × (given ≡ now ++ later) × Goes u i j now s t × RunsThrough u (j ∷ p) t through later

-- the last of a list, and x where there is none
abbrev pub last : {X : Type 0} → X → List X → X
last x [] = x
last x (y ∷ ys) = last y ys

-- and comes to the last place with the store t
abbrev pub ComesAlong : JUnit → List ℕ → List ℤ → List ℤ → List ℤ → Type 0
ComesAlong u p s given t = (through : List (List ℤ)) × RunsThrough u p s through given × (last s through ≡ t)

-- and fails there
abbrev pub FailsThrough : JUnit → List ℕ → List ℤ → List (List ℤ) → List ℤ → Type 0
FailsThrough u p s through given = RunsThrough u p s through given × FailsAt (sentence u (last 0 p)) (last s through)

abbrev pub FailsAlong : JUnit → List ℕ → List ℤ → List ℤ → Type 0
FailsAlong u p s given = (through : List (List ℤ)) × FailsThrough u p s through given
