-- Every run that fails ends in one along a path, and those are runs.
use Rattle.std.proofs.Common.{◌≡◌, ◌↔◌, ℕ, ◌*◌, true, ◌≢◌, ◌⊎◌, List, [], ◌∷◌, ◌++◌, length, take, drop, ℤ, refl, sym, ap, ap₂, ◌∙◌, subst, inl, inr, ⊎_elim, true≢false}
use Rattle.std.proofs.lemmas.Bool.{cases_Bool}
use Rattle.std.proofs.lemmas.List.{drop_at, take_at}
use Rattle.flow.specs.declared.step.Step.{Step}
use Rattle.flow.specs.declared.step.Step.TheVariants as step
use Rattle.flow.specs.Steps.{at, is_break, is_require}
use Rattle.flow.specs.Paths.{required, Way, Path}
use Rattle.flow.proofs.Leading.{break_is}
use Rattle.jcode.specs.Sentences.{Sentence, Require}
use Rattle.jcode.specs.Units.{JUnit}
use Rattle.checking.specs.Breaks.{step_of, steps_of}
use Rattle.sheets.specs.Runs.{sentence, types_at, Fitting, stored, listed, Reaches, starts, goes, FailsAt, Fails, RunsThrough, last, ComesAlong, FailsThrough, FailsAlong}
use Rattle.sheets.specs.PathSheets.{sheet_of}
use Rattle.sheets.specs.Valuations.{Falsifies}
use Rattle.sheets.specs.Matches.{Sensible, Matches, start_in, given_in, Spells}
use Rattle.sheets.proofs.Typing.{length-are_of, length-types_at}
use Rattle.sheets.proofs.Passing.{stored_fits, acts_as}
use Rattle.sheets.proofs.Matching.{step_here, starts_and_gives, comes, both_ways, cut_in_two}

-- ---- stores go on fitting
fits : (u : JUnit) {i : ℕ} {s : List ℤ} → Reaches u i s → Fitting u s
fits u (starts is f) = f
fits u (goes {i} {j} {s} {t} given r g) = subst (Fitting u) (sym g.acts.after) (stored_fits u (listed (sentence u i)) given s g.acts.typed (fits u r))

-- ---- the last BREAK of a run
break_or_not : (s : Step) → (s ≡ step.Break) ⊎ (s ≢ step.Break)
break_or_not s = ⊎_elim (λ e. inl (break_is s e)) (λ e. inr (λ is. true≢false (sym (ap is_break is) ∙ e))) (cases_Bool (is_break s))

-- a run comes to this place with this store along some path
record ComingPath (u : JUnit) (end : ℕ) (store : List ℤ) : Type 0 where
  places : List ℕ
  start : List ℤ
  given : List ℤ
  path : Path (steps_of u) places
  ends : last 0 places ≡ end
  fitting : Fitting u start
  comes : ComesAlong u places start given store

-- a run that goes along the places to come began at a BREAK, or passed a last one
last_break : (u : JUnit) {i : ℕ} {s : List ℤ} → Reaches u i s → (rest : List ℕ) → Way (required (steps_of u)) (steps_of u) i rest → (through : List (List ℤ)) (later : List ℤ) → RunsThrough u (i ∷ rest) s through later
    → ComingPath u (last i rest) (last s through)
last_break u (starts {i} {s} is f) rest way through later run = record { places = i ∷ rest; start = s; given = later; path = (is, way); ends = refl; fitting = f; comes = (through, run, refl) }
last_break u (goes {i} {j} {s} {t} now r g) rest way through later run =
    ⊎_elim
    (λ is. record { places = j ∷ rest; start = t; given = later; path = (is, way); ends = refl; fitting = fits u (goes now r g); comes = (through, run, refl) })
    (λ none. last_break u r (j ∷ rest) (g.next, none, way) (t ∷ through) (now ++ later) (now, later, refl, g, run))
    (break_or_not (at (steps_of u) j))

fails_required : {T : Type 0} (st : Sentence T) (s : List ℤ) → FailsAt st s → is_require (step_of st) ≡ true
fails_required (Require c t) s f = refl
fails_required st s f = absurd f

-- ---- a run along a path is a run
onward_comes : (u : JUnit) (i : ℕ) (rest : List ℕ) (s : List ℤ) (through : List (List ℤ)) (given : List ℤ) → Reaches u i s → RunsThrough u (i ∷ rest) s through given → Reaches u (last i rest) (last s through)
onward_comes u i [] s [] given r run = r
onward_comes u i [] s (t ∷ through) given r run = absurd run
onward_comes u i (j ∷ rest) s [] given r run = absurd run
onward_comes u i (j ∷ rest) s (t ∷ through) given r run = onward_comes u j rest t through run.1 (goes run.0 r run.3) run.4

along_comes : (u : JUnit) (p : List ℕ) → Path (steps_of u) p → (start given s : List ℤ) → Fitting u start → ComesAlong u p start given s → Reaches u (last 0 p) s
along_comes u [] path start given s fit c = absurd path
along_comes u (i ∷ rest) path start given s fit c = subst (Reaches u (last i rest)) c.2 (onward_comes u i rest start c.0 given (starts path.0 fit) c.1)

along_is_run : (u : JUnit) (p : List ℕ) → Path (steps_of u) p → (start given : List ℤ) → Fitting u start → FailsAlong u p start given → Fails u
along_is_run u p path start given fit f = (last 0 p, last start f.0, along_comes u p path start given (last start f.0) fit (f.0, f.1.0, refl), f.1.1)

-- ---- start and given numbers fix a run, and a run fixes them
one_run : (u : JUnit) (p : List ℕ) (s r given g : List ℤ) (through others : List (List ℤ)) → s ≡ r → given ≡ g → RunsThrough u p s through given → RunsThrough u p r others g → through ≡ others
one_run u [] s r given g through others e d a b = absurd a
one_run u (i ∷ []) s r given g [] [] e d a b = refl
one_run u (i ∷ []) s r given g [] (t ∷ others) e d a b = absurd b
one_run u (i ∷ []) s r given g (t ∷ through) others e d a b = absurd a
one_run u (i ∷ j ∷ p) s r given g [] others e d a b = absurd a
one_run u (i ∷ j ∷ p) s r given g (t ∷ through) [] e d a b = absurd b
one_run u (i ∷ j ∷ p) s r given g (t ∷ through) (w ∷ others) e d a b =
    let vs = listed (sentence u i) in
    let n = 2 * length vs in
    let l = length-are_of (types_at u vs) a.0 a.3.acts.typed ∙ length-types_at u vs in
    let m = length-are_of (types_at u vs) b.0 b.3.acts.typed ∙ length-types_at u vs in
    let whole : a.0 ++ a.1 ≡ b.0 ++ b.1 = sym a.2 ∙ d ∙ b.2 in
    let now : a.0 ≡ b.0 = sym (take_at a.0 a.1 n l) ∙ ap (take n) whole ∙ take_at b.0 b.1 n m in
    let later : a.1 ≡ b.1 = sym (drop_at a.0 a.1 n l) ∙ ap (drop n) whole ∙ drop_at b.0 b.1 n m in
    let same : t ≡ w = a.3.acts.after ∙ ap₂ (stored vs) now e ∙ sym b.3.acts.after in
    let rest = one_run u (j ∷ p) t w a.1 b.1 through others same later a.4 b.4 in
    λ k. same k ∷ rest k

given_by : (u : JUnit) → Sensible u → (p : List ℕ) (s : List ℤ) (through : List (List ℤ)) (given g : List ℤ) → Fitting u s → RunsThrough u p s through given → RunsThrough u p s through g → given ≡ g
given_by u sensible [] s through given g fit a b = absurd a
given_by u sensible (i ∷ []) s [] given g fit a b = a ∙ sym b
given_by u sensible (i ∷ []) s (t ∷ through) given g fit a b = absurd a
given_by u sensible (i ∷ j ∷ p) s [] given g fit a b = absurd a
given_by u sensible (i ∷ j ∷ p) s (t ∷ through) given g fit a b =
    let one = (acts_as u sensible i a.0 s t fit).0 a.3.acts in
    let two = (acts_as u sensible i b.0 s t fit).0 b.3.acts in
    a.2 ∙ ap₂ ◌++◌ (one.gives ∙ sym two.gives) (given_by u sensible (j ∷ p) t through a.1 b.1 one.fitting a.4 b.4) ∙ sym b.2

one_to_one : (u : JUnit) → Sensible u → (p : List ℕ) → Path (steps_of u) p → (start given : List ℤ) (through : List (List ℤ)) → Fitting u start → FailsThrough u p start through given
    → (v : List ℤ) → (Falsifies (sheet_of u p) v × Spells u p v start through) ↔ (v ≡ start ++ given)
one_to_one u sensible p path start given through fit fails v =
    let cut = cut_in_two u start given v fit in (
      λ s. cut.0 (s.1.0, given_by u sensible p start through (given_in u v) given fit s.1.1 fails.0),
      λ e. (
        subst (Falsifies (sheet_of u p)) (sym e) (starts_and_gives u sensible p path start given fit (through, fails)),
        ((cut.1 e).0, subst (RunsThrough u p start through) (sym (cut.1 e).1) fails.0),
      ),
    )

-- ---- the theorem
on_a_sheet : (u : JUnit) → Sensible u → (i : ℕ) (s : List ℤ) → Reaches u i s → FailsAt (sentence u i) s
    → (p : List ℕ) × (v : List ℤ) × Path (steps_of u) p × (last 0 p ≡ i) × Falsifies (sheet_of u p) v × ComesAlong u p (start_in u v) (given_in u v) s
on_a_sheet u sensible i s r fails =
    let b = last_break u r [] (ap is_require (step_here u i) ∙ fails_required (sentence u i) s fails) [] [] refl in
    let there : FailsAt (sentence u (last 0 b.places)) s = subst (λ k. FailsAt (sentence u k) s) (sym b.ends) fails in
    let along : FailsAlong u b.places b.start b.given = (b.comes.0, (b.comes.1, subst (FailsAt (sentence u (last 0 b.places))) (sym b.comes.2) there)) in
    let cut = (cut_in_two u b.start b.given (b.start ++ b.given) b.fitting).1 refl in (
      b.places,
      b.start ++ b.given,
      b.path,
      b.ends,
      starts_and_gives u sensible b.places b.path b.start b.given b.fitting along,
      let Comes = λ (x y : List ℤ). ComesAlong u b.places x y s in subst (Comes (start_in u (b.start ++ b.given))) (sym cut.1) (subst (λ x. Comes x b.given) (sym cut.0) b.comes),
    )

pub matches : (u : JUnit) → Sensible u → Matches u
matches u sensible = record {
  acts = acts_as u sensible;
  comes = λ n. comes n u sensible;
  both_ways = both_ways u sensible;
  one_run = λ p start given through others. one_run u p start start given given through others refl refl;
  one_to_one = one_to_one u sensible;
  along_comes = along_comes u;
  along_is_run = along_is_run u;
  on_a_sheet = on_a_sheet u sensible;
  no_hidden_run = λ clear fails. let f = on_a_sheet u sensible fails.0 fails.1 fails.2 fails.3 in clear f.0 f.2 f.1 f.4;
}
