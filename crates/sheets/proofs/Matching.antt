-- The valuations that falsify a path's sheet are its failing runs.
use Rattle.std.proofs.Common.{◌≡◌, ◌↔◌, ℕ, ◌*◌, ◌<◌, ◌≤◌, true, List, [], ◌∷◌, ◌++◌, map, length, take, drop, ℤ, pos, None, refl, sym, ap, ap₂, ◌∙◌, subst, arith, length-append}
use Rattle.std.proofs.Math.ListN.{get_or-map}
use Rattle.std.proofs.lemmas.List.{length-map, drop_at, take_at, take-append-drop, length-take-le}
use Rattle.flow.specs.Steps.{at, is_break, is_require}
use Rattle.flow.specs.declared.step.Step.TheVariants as step
use Rattle.flow.specs.Paths.{required, Way, Path}
use Rattle.flow.proofs.Leading.{never}
use Rattle.jcode.specs.ReadTerms.{UnitRow}
use Rattle.jcode.specs.Sentences.{Sentence, Hang, Require, When}
use Rattle.jcode.specs.Units.{JUnit}
use Rattle.checking.specs.Breaks.{step_of, steps_of}
use Rattle.checking.specs.Types.{domains}
use Rattle.sheets.specs.Runs.{sentence, are_of, with_shadows, types_at, Fitting, stored, listed, Admits, Demands, number_in, Goes, FailsAt, last, FailsAlong}
use Rattle.sheets.specs.PathSheets.{Progress, cell_of, cells_from, parts_of, cells_of, onward, parts_along, cells_along, started, sheet_of}
use Rattle.sheets.specs.Sheets.{CellTerm}
use Rattle.sheets.specs.Valuations.{cell_in, is_within, Within, GoalIs, Falsifies}
use Rattle.sheets.specs.Matches.{Sensible, terms_kept, start_in, given_in, Requires, RequiresAlong}
use Rattle.sheets.proofs.Storing.{length-stored, map-stored, length-cells_from, looked, looked_next, left_over}
use Rattle.sheets.proofs.Typing.{length-within, within_append, within_cut, within_split, within_typed, within_cells_of, length-are_of, length-with_shadows, length-types_at, length-domains, length-fitting}
use Rattle.sheets.proofs.Parts.{AllTrue, parts_say, number_over}

-- ---- statements and steps
pub step_here : (u : JUnit) (i : ℕ) → at (steps_of u) i ≡ step_of (sentence u i)
step_here u i = get_or-map step_of u.statements i Hang

-- ---- parts that come before others
before_goal : (n : ℤ) (v : List ℤ) (es : List CellTerm) (f : CellTerm) (fs : List CellTerm) → GoalIs n v (es ++ f ∷ fs) ↔ (AllTrue v es × GoalIs n v (f ∷ fs))
before_goal n v [] f fs = (λ h. (tt, h), λ h. h.1)
before_goal n v (e ∷ []) f fs = (λ h. ((h.0, tt), h.1), λ h. (h.0.0, h.1))
before_goal n v (e ∷ g ∷ es) f fs =
    let r = before_goal n v (g ∷ es) f fs in
    (λ h. let t = r.0 h.1 in ((h.0, t.0), t.1), λ h. (h.0.0, r.1 (h.0.1, h.1)))

before_parts : (n : ℤ) (v : List ℤ) (es fs : List CellTerm) → 0 < length fs → GoalIs n v (es ++ fs) ↔ (AllTrue v es × GoalIs n v fs)
before_parts n v es [] h = absurd (omega arith)
before_parts n v es (f ∷ fs) h = before_goal n v es f fs

-- the term that a REQUIRE has
there : {T : Type 0} (n : ℤ) (s : List ℤ) (c e : List UnitRow) (t x : T) → Require c t ≡ Require e x → number_in s s e ≡ n → number_in s s c ≡ n
there n s c e t x same k = let term : c ≡ e = cc in ap (number_in s s) term ∙ k

fails_requires : {T : Type 0} (st : Sentence T) (s : List ℤ) → FailsAt st s ↔ Requires (pos 0) st s
fails_requires (Require c t) s = (λ f. (c, t, refl, f), λ r. there (pos 0) s c r.0 t r.1 r.2 r.3)
fails_requires st s = (λ f. absurd f, λ r. let e = r.2 in cc)

-- a REQUIRE gives a part, so a path's sheet has a goal
a_part : {T : Type 0} (w : Progress) (st : Sentence T) → is_require (step_of st) ≡ true → 0 < length (parts_of w st)
a_part w (Require c t) e = omega arith
a_part w st e = never e

pub require_at : (u : JUnit) (i : ℕ) → required (steps_of u) i ≡ true → is_require (step_of (sentence u i)) ≡ true
require_at u i e = sym (ap is_require (step_here u i)) ∙ e

pub some_part : (u : JUnit) (w : Progress) (i : ℕ) (rest : List ℕ) → Way (required (steps_of u)) (steps_of u) i rest → 0 < length (parts_along u w (i ∷ rest))
some_part u w i [] h = let l = a_part w (sentence u i) (require_at u i h) in omega (arith, length-append (parts_of w (sentence u i)) [])
some_part u w i (j ∷ rest) h =
    let later = some_part u (onward w (sentence u i)) j rest h.2 in
    omega (arith, length-append (parts_of w (sentence u i)) (parts_along u (onward w (sentence u i)) (j ∷ rest)))

-- ---- runs along a path, place by place
required_here : (n : ℤ) (u : JUnit) (i : ℕ) (s given : List ℤ) → RequiresAlong n u (i ∷ []) s given ↔ ((given ≡ []) × Requires n (sentence u i) s)
required_here n u i s given = (ended, λ r. ([], r.0, r.1))
  where
    ended : RequiresAlong n u (i ∷ []) s given → (given ≡ []) × Requires n (sentence u i) s
    ended ([], run, r) = (run, r)
    ended (t ∷ through, run, r) = absurd run

abbrev RequiresOn : ℤ → JUnit → ℕ → ℕ → List ℕ → List ℤ → List ℤ → Type 0
RequiresOn n u i j p s given = (now : List ℤ) × (later : List ℤ) × (t : List ℤ) × (given ≡ now ++ later) × Goes u i j now s t × RequiresAlong n u (j ∷ p) t later

required_on : (n : ℤ) (u : JUnit) (i j : ℕ) (p : List ℕ) (s given : List ℤ) → RequiresAlong n u (i ∷ j ∷ p) s given ↔ RequiresOn n u i j p s given
required_on n u i j p s given = (first, λ g. (g.2 ∷ g.5.0, (g.0, g.1, g.3, g.4, g.5.1), g.5.2))
  where
    first : RequiresAlong n u (i ∷ j ∷ p) s given → RequiresOn n u i j p s given
    first ([], run, r) = absurd run
    first (t ∷ through, run, r) = (run.0, run.1, t, run.2, run.3, (through, run.4, r))

none_within : (v : List ℤ) → is_within [] v ≡ true → v ≡ []
none_within [] h = refl
none_within (x ∷ v) h = never h

module _ (n : ℤ) (u : JUnit) (sensible : Sensible u) (v : List ℤ) where
  abbrev count : ℕ
  count = length u.variables

  -- what a sheet asks of the numbers `given` past the cells so far
  abbrev Asks : Progress → List ℕ → List ℤ → Type 0
  Asks w p given = (is_within (cells_along u w p) given ≡ true) × GoalIs n v (parts_along u w p)

  abbrev store : Progress → List ℤ
  store w = looked v (pos 0) w.current

  -- the last REQUIRE of a path is the goal
  at_goal : {T : Type 0} (w : Progress) (st : Sentence T) (given : List ℤ) → length w.current ≡ 2 * count → terms_kept count st ≡ true → is_require (step_of st) ≡ true
      → ((is_within (cells_of u w st ++ []) given ≡ true) × GoalIs n v (parts_of w st ++ [])) ↔ (Admits st (store w) × ((given ≡ []) × Requires n st (store w)))
  at_goal w (Require c t) given l h e =
      let q = number_over v count [] w.current w.current c l l h in
      (λ a. (tt, (none_within given a.0, (c, t, refl, sym q ∙ a.1))), λ f. (ap (is_within []) f.1.0, let r = f.1.1 in q ∙ there n (store w) c r.0 t r.1 r.2 r.3))
  at_goal w st given l h e = never e

  -- past a statement that gives the numbers `now`
  module _ (w : Progress) (i : ℕ) (now later : List ℤ) (rest : drop w.cells v ≡ now ++ later) (typed : are_of (types_at u (listed (sentence u i))) now ≡ true) where
    abbrev vs : List ℕ
    vs = listed (sentence u i)

    as_many : length now ≡ 2 * length vs
    as_many = length-are_of (types_at u vs) now typed ∙ length-types_at u vs

    own : looked v (pos 0) (cells_from w.cells vs) ≡ now
    own = looked_next v (pos 0) w.cells vs now later rest as_many

    store_after : store (onward w (sentence u i)) ≡ stored vs now (store w)
    store_after = map-stored (cell_in v) vs (cells_from w.cells vs) w.current ∙ ap (λ xs. stored vs xs (store w)) own

    rest_after : drop (onward w (sentence u i)).cells v ≡ later
    rest_after = left_over v (pos 0) w.cells vs now later rest as_many

  length_after : (w : Progress) (i : ℕ) → length w.current ≡ 2 * count → length (onward w (sentence u i)).current ≡ 2 * count
  length_after w i l = length-stored (listed (sentence u i)) (cells_from w.cells (listed (sentence u i))) w.current ∙ l

  -- v has the numbers of all cells: the current ones hold the store, and `given` are those past the cells so far
  along : (i : ℕ) (rest : List ℕ) (w : Progress) (given : List ℤ) → Way (required (steps_of u)) (steps_of u) i rest → length w.current ≡ 2 * count → drop w.cells v ≡ given
      → Asks w (i ∷ rest) given ↔ (Admits (sentence u i) (store w) × RequiresAlong n u (i ∷ rest) (store w) given)
  along i [] w given way l d =
      let goal = at_goal w (sentence u i) given l (sensible.terms i) (require_at u i way) in
      let here = required_here n u i (store w) given in
      (λ a. let r = goal.0 a in (r.0, here.1 r.1), λ f. goal.1 (f.0, here.0 f.1))
  along i (j ∷ rest) w given way l d =
      let st = sentence u i in
      let next = onward w st in
      let says = parts_say v count w st l (sensible.terms i) in
      let join = before_parts n v (parts_of w st) (parts_along u next (j ∷ rest)) (some_part u next j rest way.2) in
      let onward = required_on n u i j rest (store w) given in (
        λ a.
            let c = within_cut (cells_of u w st) (cells_along u next (j ∷ rest)) given a.0 in
            let typed = sym (within_cells_of u w st c.0) ∙ c.3 in
            let e = d ∙ c.2 in
            let t = join.0 a.1 in
            let here = says.0 t.0 in
            let f = (along j rest next c.1 way.2 (length_after w i l) (rest_after w i c.0 c.1 e typed)).0 (c.4, t.1) in (
              here.0,
              onward.1 (
                c.0,
                c.1,
                store next,
                c.2,
                record {
                  acts = record { typed = typed; demanded = subst (Demands st (store w)) (own w i c.0 c.1 e typed) here.1; after = store_after w i c.0 c.1 e typed };
                  next = way.0;
                  admitted = f.0;
                },
                f.1,
              ),
            ),
        λ f.
            let on = onward.0 f.1 in
            let now = on.0 in
            let later = on.1 in
            let g = on.4 in
            let typed = g.acts.typed in
            let e = d ∙ on.3 in
            let same : on.2 ≡ store next = g.acts.after ∙ sym (store_after w i now later e typed) in
            let a = (along j rest next later way.2 (length_after w i l) (rest_after w i now later e typed)).1 (subst (Admits (sentence u j)) same g.admitted, subst (λ s. RequiresAlong n u (j ∷ rest) s later) same on.5) in
            let here = says.1 (f.0, subst (Demands st (store w)) (sym (own w i now later e typed)) g.acts.demanded) in (
              ap (is_within (cells_of u w st ++ cells_along u next (j ∷ rest))) on.3 ∙ within_append (cells_of u w st) (cells_along u next (j ∷ rest)) now later (within_cells_of u w st now ∙ typed) a.0,
              join.1 (here, a.1),
            ),
      )

-- as many start cells as there are numbers in a store
pub length-start : (u : JUnit) → length (map (cell_of None) (with_shadows (domains u))) ≡ 2 * length u.variables
length-start u = length-map (with_shadows (domains u)) (cell_of None) ∙ length-with_shadows (domains u) ∙ ap (λ n. 2 * n) (length-domains u)

-- a run starts at a BREAK, which any run may come to
admits_break : {T : Type 0} (st : Sentence T) (s : List ℤ) → step_of st ≡ step.Break → Admits st s
admits_break (When c l) s e = never (ap is_break e)
admits_break st s e = tt

abbrev GivesGoal : ℤ → JUnit → List ℕ → List ℤ → Type 0
GivesGoal n u p v = Within (sheet_of u p).cells v × GoalIs n v (sheet_of u p).parts

starts_and_requires : (n : ℤ) (u : JUnit) → Sensible u → (p : List ℕ) → Path (steps_of u) p → (start given : List ℤ) → length start ≡ 2 * length u.variables
    → GivesGoal n u p (start ++ given) ↔ (Fitting u start × RequiresAlong n u p start given)
starts_and_requires n u sensible [] path start given l = absurd path
starts_and_requires n u sensible (i ∷ rest) path start given l =
    let first = map (cell_of None) (with_shadows (domains u)) in
    let more = cells_along u (started u) (i ∷ rest) in
    let held : looked (start ++ given) (pos 0) (cells_from 0 u.variables) ≡ start = looked_next (start ++ given) (pos 0) 0 u.variables start given refl l in
    let r = along n u sensible (start ++ given) i rest (started u) given path.1 (length-cells_from 0 u.variables) (drop_at start given (2 * length u.variables) l) in
    let admitted : Admits (sentence u i) start = admits_break (sentence u i) start (sym (step_here u i) ∙ path.0) in (
      λ f.
          let w = within_split first more start given (l ∙ sym (length-start u)) f.0 in
          (sym (within_typed (with_shadows (domains u)) start) ∙ w.0, subst (λ s. RequiresAlong n u (i ∷ rest) s given) held (r.0 (w.1, f.1)).1),
      λ f.
          let a = r.1 (subst (λ s. Admits (sentence u i) s × RequiresAlong n u (i ∷ rest) s given) (sym held) (admitted, f.1)) in
          (within_append first more start given (within_typed (with_shadows (domains u)) start ∙ f.0) a.0, a.1),
    )

spelled_out : (u : JUnit) (p : List ℕ) (v : List ℤ) → Within (sheet_of u p).cells v → (start : List ℤ) × (given : List ℤ) × (v ≡ start ++ given) × (length start ≡ 2 * length u.variables)
spelled_out u p v w =
    let first = map (cell_of None) (with_shadows (domains u)) in
    let c = within_cut first (cells_along u (started u) p) v w in
    (c.0, c.1, c.2, length-within first c.0 c.3 ∙ length-start u)

pub comes : (n : ℤ) (u : JUnit) → Sensible u → (p : List ℕ) → Path (steps_of u) p → (v : List ℤ) → GivesGoal n u p v ↔ (Fitting u (start_in u v) × RequiresAlong n u p (start_in u v) (given_in u v))
comes n u sensible p path v =
    let whole = take-append-drop (2 * length u.variables) v in (
      λ f.
          let s = spelled_out u p v f.0 in
          let enough : 2 * length u.variables ≤ length v = omega (arith, s.3, ap length s.2, length-append s.0 s.1) in
          (starts_and_requires n u sensible p path (start_in u v) (given_in u v) (length-take-le (2 * length u.variables) v enough)).0 (subst (GivesGoal n u p) (sym whole) f),
      λ r. subst (GivesGoal n u p) whole ((starts_and_requires n u sensible p path (start_in u v) (given_in u v) (length-fitting u (start_in u v) r.0)).1 r),
    )

-- ---- and where the number is 0, the sheet is falsified, and the run fails
failing : (u : JUnit) (p : List ℕ) (s given : List ℤ) → FailsAlong u p s given ↔ RequiresAlong (pos 0) u p s given
failing u p s given = (
  λ f. (f.0, f.1.0, (fails_requires (sentence u (last 0 p)) (last s f.0)).0 f.1.1),
  λ r. (r.0, (r.1, (fails_requires (sentence u (last 0 p)) (last s r.0)).1 r.2)),
)

pub both_ways : (u : JUnit) → Sensible u → (p : List ℕ) → Path (steps_of u) p → (v : List ℤ) → Falsifies (sheet_of u p) v ↔ (Fitting u (start_in u v) × FailsAlong u p (start_in u v) (given_in u v))
both_ways u sensible p path v =
    let c = comes (pos 0) u sensible p path v in
    let f = failing u p (start_in u v) (given_in u v) in
    (λ a. let r = c.0 a in (r.0, f.1 r.1), λ r. c.1 (r.0, f.0 r.1))

pub starts_and_gives : (u : JUnit) → Sensible u → (p : List ℕ) → Path (steps_of u) p → (start given : List ℤ) → Fitting u start → FailsAlong u p start given → Falsifies (sheet_of u p) (start ++ given)
starts_and_gives u sensible p path start given fit f =
    (starts_and_requires (pos 0) u sensible p path start given (length-fitting u start fit)).1 (fit, (failing u p start given).0 f)

pub cut_in_two : (u : JUnit) (start given v : List ℤ) → Fitting u start → ((start_in u v ≡ start) × (given_in u v ≡ given)) ↔ (v ≡ start ++ given)
cut_in_two u start given v h =
    let n = 2 * length u.variables in
    let l = length-fitting u start h in (
      λ e. sym (take-append-drop n v) ∙ ap₂ ◌++◌ e.0 e.1,
      λ e. (ap (take n) e ∙ take_at start given n l, ap (drop n) e ∙ drop_at start given n l),
    )
