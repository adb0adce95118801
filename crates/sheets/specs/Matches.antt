-- How the sheets of a unit's paths match the runs of the unit.
use Rattle.std.specs.Prelude.{◌≡◌, ◌↔◌, ℕ, ◌+◌, ◌*◌, Bool, true, false, ◌&&◌, List, [], ◌∷◌, ◌++◌, length, take, drop, ℤ, pos, nat_eq, nat_lt, slice_index_or}
use Rattle.std.specs.List.{flat_map, list_all, list_any}
use Rattle.flow.specs.Paths.{Path}
use Rattle.jcode.specs.ReadTerms.{UnitRow}
use Rattle.jcode.specs.Sentences.{Sentence, Hang, Break, Require, Proclaim, New, Assign, Split, When, Branch, Join}
use Rattle.jcode.specs.Units.{JUnit}
use Rattle.checking.specs.Breaks.{steps_of}
use Rattle.checking.specs.Pieces.{is_domain, is_term, is_list}
use Rattle.checking.specs.Rules.{kinds_kept, span_kept}
use Rattle.checking.specs.Types.{domains}
use Rattle.sheets.specs.Runs.{sentence, Fitting, number_in, Holds, listed, Acts, Reaches, FailsAt, Fails, RunsThrough, last, ComesAlong, FailsThrough, FailsAlong}
use Rattle.sheets.specs.PathSheets.{sheet_of}
use Rattle.sheets.specs.Sheets.{Keeps}
use Rattle.sheets.specs.Valuations.{Within, GoalIs, Falsifies}

-- a statement's terms are complete and mention what is declared and given, and its list names declared variables
abbrev pub terms_kept : {T : Type 0} → ℕ → Sentence T → Bool
terms_kept count Hang = true
terms_kept count (Break t) = true
terms_kept count (Require e t) = is_term count [] e
terms_kept count (Proclaim e) = is_term count [] e
terms_kept count (New vs e t) = is_list count vs && is_term count vs e
terms_kept count (Assign v e f) = nat_lt v count && (is_term count [] e && is_term count [] f)
terms_kept count (Split l) = true
terms_kept count (When e l) = is_term count [] e
terms_kept count (Branch t l) = true
terms_kept count (Join l) = true

-- what a check sees to, of types and terms
pub record Sensible (u : JUnit) : Type 0 where
  pub types : list_all is_domain (domains u) ≡ true
  pub terms : (i : ℕ) → terms_kept (length u.variables) (sentence u i) ≡ true
  pub kinds : (i : ℕ) → kinds_kept (domains u) (sentence u i) ≡ true
  pub spans : (i : ℕ) → span_kept (domains u) (sentence u i) ≡ true

-- a variable's value and shadow in a store
abbrev pub value_in : List ℤ → ℕ → ℤ
value_in s v = slice_index_or s (2 * v) (pos 0)

abbrev pub shadow_in : List ℤ → ℕ → ℤ
shadow_in s v = slice_index_or s (2 * v + 1) (pos 0)

-- what a statement asks of the store before it and the one after: the term of a NEW is true, where `new!` reads the one after, and the variable of an ASSIGN has the two stated values
abbrev pub Asks : {T : Type 0} → Sentence T → List ℤ → List ℤ → Type 0
Asks Hang s t = Unit {0}
Asks (Break x) s t = Unit {0}
Asks (Require e x) s t = Holds s e
Asks (Proclaim e) s t = Holds s e
Asks (New vs e x) s t = number_in s t e ≡ pos 1
Asks (Assign v e f) s t = (value_in t v ≡ number_in s s f) × (shadow_in t v ≡ number_in s s e)
Asks (Split l) s t = Unit {0}
Asks (When e l) s t = Unit {0}
Asks (Branch x l) s t = Unit {0}
Asks (Join l) s t = Unit {0}

-- past a statement a run has any fitting store that is as asked and keeps all variables but the listed ones, and what the statement gives are their values and shadows, in list order
pub record Passes {T : Type 0} (u : JUnit) (st : Sentence T) (given s t : List ℤ) : Type 0 where
  pub fitting : Fitting u t
  pub asked : Asks st s t
  pub kept : (v : ℕ) → list_any (nat_eq v) (listed st) ≡ false → (value_in t v ≡ value_in s v) × (shadow_in t v ≡ shadow_in s v)
  pub gives : given ≡ flat_map (λ v. value_in t v ∷ shadow_in t v ∷ []) (listed st)

-- the run that a valuation of a path's sheet spells out: its start is the first cells, and its statements give the added cells
abbrev pub start_in : JUnit → List ℤ → List ℤ
start_in u v = take (2 * length u.variables) v

abbrev pub given_in : JUnit → List ℤ → List ℤ
given_in u v = drop (2 * length u.variables) v

-- a REQUIRE whose term has this number in a store
abbrev pub Requires : {T : Type 0} → ℤ → Sentence T → List ℤ → Type 0
Requires {T} n st s = (e : List UnitRow) × (x : T) × (st ≡ Require e x) × (number_in s s e ≡ n)

-- the run from a start along a path comes to its REQUIRE, whose term has this number there
abbrev pub RequiresAlong : ℤ → JUnit → List ℕ → List ℤ → List ℤ → Type 0
RequiresAlong n u p start given = (through : List (List ℤ)) × RunsThrough u p start through given × Requires n (sentence u (last 0 p)) (last start through)

-- the run from a start along a path through these stores is what a valuation spells out
abbrev pub Spells : JUnit → List ℕ → List ℤ → List ℤ → List (List ℤ) → Type 0
Spells u p v start through = (start_in u v ≡ start) × RunsThrough u p start through (given_in u v)

-- a path's sheet says of the path neither more nor less than the runs along it do
pub record Matches (u : JUnit) : Type 0 where
  -- what a run does at a statement, said by the stores before and after it
  pub acts : (i : ℕ) (given s t : List ℤ) → Fitting u s → Acts u (sentence u i) given s t ↔ Passes u (sentence u i) given s t
  -- all its parts but the goal are true in a valuation exactly if the run that this spells out starts fittingly and comes to the path's REQUIRE, and the goal has the number that the REQUIRE's term has there
  pub comes : (n : ℤ) (p : List ℕ) → Path (steps_of u) p → (v : List ℤ) → (Within (sheet_of u p).cells v × GoalIs n v (sheet_of u p).parts) ↔ (Fitting u (start_in u v) × RequiresAlong n u p (start_in u v) (given_in u v))
  -- so a valuation falsifies it exactly if that run fails at the path's REQUIRE
  pub both_ways : (p : List ℕ) → Path (steps_of u) p → (v : List ℤ) → Falsifies (sheet_of u p) v ↔ (Fitting u (start_in u v) × FailsAlong u p (start_in u v) (given_in u v))
  -- it spells out one run: along a path, start and given numbers fix every store
  pub one_run : (p : List ℕ) (start given : List ℤ) (through others : List (List ℤ)) → RunsThrough u p start through given → RunsThrough u p start others given → through ≡ others
  -- and each run along the path that starts fittingly and fails at its REQUIRE is spelled out by exactly one valuation that falsifies the sheet
  pub one_to_one : (p : List ℕ) → Path (steps_of u) p → (start given : List ℤ) (through : List (List ℤ)) → Fitting u start → FailsThrough u p start through given
      → (v : List ℤ) → (Falsifies (sheet_of u p) v × Spells u p v start through) ↔ (v ≡ start ++ given)
  -- a run along a path is a run, and comes to where the path ends
  pub along_comes : (p : List ℕ) → Path (steps_of u) p → (start given s : List ℤ) → Fitting u start → ComesAlong u p start given s → Reaches u (last 0 p) s
  pub along_is_run : (p : List ℕ) → Path (steps_of u) p → (start given : List ℤ) → Fitting u start → FailsAlong u p start given → Fails u
  -- where a run fails, the sheet of some path that ends there is falsified, and the run that is spelled out comes there with the same store
  pub on_a_sheet : (i : ℕ) (s : List ℤ) → Reaches u i s → FailsAt (sentence u i) s
      → (p : List ℕ) × (v : List ℤ) × Path (steps_of u) p × (last 0 p ≡ i) × Falsifies (sheet_of u p) v × ComesAlong u p (start_in u v) (given_in u v) s
  -- so if no valuation falsifies the sheet of a path, no run fails
  pub no_hidden_run : ((p : List ℕ) → Path (steps_of u) p → (v : List ℤ) → Falsifies (sheet_of u p) v → ⊥) → Fails u → ⊥

-- the sheet of every path of a unit keeps the rules of sheets
abbrev pub SheetsKeep : JUnit → Type 0
SheetsKeep u = (p : List ℕ) → Path (steps_of u) p → Keeps (sheet_of u p)
