-- What is found in the tables is so of the unit that they hold, and so are the rules, one after another.
use Rattle.std.proofs.Common.{◌≡◌, ℕ, ◌<◌, Bool, true, not, List, [], ◌∷◌, map, length, get_or, Some, None, Ok, Err, Option, position, sym, refl, ap, ◌∙◌, subst, ⊎_elim, arith}
use Rattle.flow.specs.declared.flow.Flow.{Flow}
use Rattle.flow.specs.declared.step.Step.{Step}
use Rattle.flow.specs.Counts.{TooMany}
use Rattle.flow.specs.Flows.{steps_in}
use Rattle.flow.specs.Labels.{Mislabelled}
use Rattle.flow.specs.Least.{Least}
use Rattle.flow.specs.Numbers.{paths}
use Rattle.flow.specs.Orders.{Misplaced}
use Rattle.flow.specs.Steps.{OnCircle}
use Rattle.jcode.specs.declared.refusal.Refusal.TheVariants.{Order, Kind, Label, Circle, Range, Paths}
use Rattle.jcode.specs.declared.statement.Statement.TheVariants as stands
use Rattle.jcode.specs.declared.span.Span.{Span}
use Rattle.jcode.specs.declared.variable.Domain.{Domain}
use Rattle.jcode.specs.declared.variable.Variable.{Variable}
use Rattle.jcode.specs.Bytes.{slice}
use Rattle.jcode.specs.Sentences.{Sentence, Hang}
use Rattle.jcode.specs.Units.{JUnit, Declared, declared_in, retold, sentence_in, unit_of}
use Rattle.checking.specs.declared.fault.CheckFault.{CheckFault}
use Rattle.checking.specs.declared.fault.CheckFault.TheVariants.{Rule}
use Rattle.checking.specs.declared.tables.UnitTables.{UnitTables}
use Rattle.checking.specs.Breaks.{steps_of, BreaksRule, FirstBroken, Unbroken, ruled}
use Rattle.checking.specs.Held.{held}
use Rattle.checking.specs.Readable.{sentences_in, readable}
use Rattle.checking.specs.Rules.{kinds_kept, span_kept, Failing}
use Rattle.checking.specs.Steps.{record_step}
use Rattle.checking.specs.Types.{domains, domains_in}
use Rattle.checking.proofs.Flowing.{text_kinds, text_span, same_test, text_steps, record_steps}
use Rattle.checking.proofs.Reading.{readable_right}
use Rattle.checking.proofs.Ruling.{Clear, clear_tables, passes, fails, too_many, few_enough_lem}
use Rattle.checking.proofs.Searching.{least_failing}

-- a circle that was looked for in vain
no_circle : (steps : List Step) (o : Option ℕ) → Least (OnCircle steps) o → (u : Unit {0}) → Ok u ≡ ruled Circle o → (i : ℕ) → OnCircle steps i → ⊥
no_circle steps None l u is i b = l i b
no_circle steps (Some j) l u is i b = absurd (let z : ◌≡◌ {A = ℕ} 0 1 = cc in omega arith)

least_at : (P Q : ℕ → Type 0) → ((i : ℕ) → P i → Q i) → ((i : ℕ) → Q i → P i) → (o : Option ℕ) → Least P o → Least Q o
least_at P Q to from None l = λ i q. l i (from i q)
least_at P Q to from (Some i) l = (to i l.0, λ j lt q. l.1 j lt (from j q))

pub same_domains : (bytes : List ℕ) (vs : List Variable) → domains_in vs ≡ map (λ (d : Declared). d.domain) (map (declared_in bytes) vs)
same_domains bytes [] = refl
same_domains bytes (v ∷ vs) = ap (λ ds. v.domain ∷ ds) (same_domains bytes vs)

-- tables that keep the rules of reading, with what their statements are to the flow
module _ (u : UnitTables) (flow : Flow) (is : steps_in flow ≡ map record_step u.statements.now) (ready : true ≡ readable u.bytes.now u.name (held u)) where
  abbrev pub the_unit : JUnit
  the_unit = unit_of u.bytes.now u.name (held u)

  pub same_steps : steps_in flow ≡ steps_of the_unit
  same_steps = is ∙ record_steps u.rows.now u.statements.now ∙ text_steps (slice u.bytes.now) (sentences_in (held u))

  abbrev pub ClearTo : ℕ → Type 0
  ClearTo = Clear u.bytes.now u.name (held u)

  abbrev pub First : CheckFault → Type 0
  First = FirstBroken u.bytes.now u.name (held u)

  -- a rule that hangs on the flow alone
  by_flow : (P : List Step → ℕ → Type 0) (o : Option ℕ) → Least (P (steps_in flow)) o → Least (P (steps_of the_unit)) o
  by_flow P o l = subst (λ v. Least (P v) o) same_steps l

  -- a test of statements that texts do not change
  by_test :
      (p : List Domain → Sentence Span → Bool) (q : List Domain → Sentence (List ℕ) → Bool) → ((s : Sentence Span) → p (domains_in u.variables.now) s ≡ q (domains_in u.variables.now) (retold (slice u.bytes.now) s)) → p (domains_in u.variables.now) Hang ≡ true →
      (o : Option ℕ) → o ≡ position (λ s. not (p (domains_in u.variables.now) (sentence_in u.rows.now s))) u.statements.now → Least (Failing (q (domains the_unit)) the_unit.statements) o
  by_test p q same hang o e =
      let at : (i : ℕ) → p (domains_in u.variables.now) (get_or (sentences_in (held u)) i Hang) ≡ q (domains the_unit) (get_or the_unit.statements i Hang) =
      same_test (slice u.bytes.now) (p (domains_in u.variables.now)) (q (domains the_unit)) (λ s. same s ∙ ap (λ ds. q ds (retold (slice u.bytes.now) s)) (same_domains u.bytes.now u.variables.now)) (sentences_in (held u)) in
      let least : Least (Failing (p (domains_in u.variables.now)) (sentences_in (held u))) o =
      subst (Least (Failing (p (domains_in u.variables.now)) (sentences_in (held u)))) (sym e) (least_failing (p (domains_in u.variables.now)) (sentence_in u.rows.now) u.statements.now stands.Hang hang) in
      least_at (Failing (p (domains_in u.variables.now)) (sentences_in (held u))) (Failing (q (domains the_unit)) the_unit.statements) (λ i h. sym (at i) ∙ h) (λ i h. at i ∙ h) o least

  least_kind : (o : Option ℕ) → o ≡ position (λ s. not (kinds_kept (domains_in u.variables.now) (sentence_in u.rows.now s))) u.statements.now → Least (BreaksRule the_unit Kind) o
  least_kind = by_test kinds_kept kinds_kept (text_kinds (slice u.bytes.now) (domains_in u.variables.now)) refl

  least_range : (o : Option ℕ) → o ≡ position (λ s. not (span_kept (domains_in u.variables.now) (sentence_in u.rows.now s))) u.statements.now → Least (BreaksRule the_unit Range) o
  least_range = by_test span_kept span_kept (text_span (slice u.bytes.now) (domains_in u.variables.now)) refl

  -- each rule in its order: kept, and no rule up to it is broken; or broken, and it is the first
  clear_reading : ClearTo 7
  clear_reading = clear_tables u.bytes.now u.name (held u) (readable_right u.bytes.now u.name (held u) (sym ready))

  module _ (o : Option ℕ) where
    pub order_kept : (x : Unit {0}) → Least (Misplaced (steps_in flow)) o → Ok x ≡ ruled Order o → ClearTo 8
    order_kept x l = passes u.bytes.now u.name (held u) Order o x (λ e. omega arith) (by_flow Misplaced o l) clear_reading

    pub order_first : (f : CheckFault) → Least (Misplaced (steps_in flow)) o → Err f ≡ ruled Order o → First f
    order_first f l = fails u.bytes.now u.name (held u) Order o f (λ e. omega arith) (by_flow Misplaced o l) clear_reading

    pub kind_kept : (x : Unit {0}) → ClearTo 8 → o ≡ position (λ s. not (kinds_kept (domains_in u.variables.now) (sentence_in u.rows.now s))) u.statements.now → Ok x ≡ ruled Kind o → ClearTo 9
    kind_kept x clear e = passes u.bytes.now u.name (held u) Kind o x (λ e. omega arith) (least_kind o e) clear

    pub kind_first : (f : CheckFault) → ClearTo 8 → o ≡ position (λ s. not (kinds_kept (domains_in u.variables.now) (sentence_in u.rows.now s))) u.statements.now → Err f ≡ ruled Kind o → First f
    kind_first f clear e = fails u.bytes.now u.name (held u) Kind o f (λ e. omega arith) (least_kind o e) clear

    pub label_kept : (x : Unit {0}) → ClearTo 9 → Least (Mislabelled (steps_in flow)) o → Ok x ≡ ruled Label o → ClearTo 10
    label_kept x clear l = passes u.bytes.now u.name (held u) Label o x (λ e. omega arith) (by_flow Mislabelled o l) clear

    pub label_first : (f : CheckFault) → ClearTo 9 → Least (Mislabelled (steps_in flow)) o → Err f ≡ ruled Label o → First f
    label_first f clear l = fails u.bytes.now u.name (held u) Label o f (λ e. omega arith) (by_flow Mislabelled o l) clear

    pub circle_kept : (x : Unit {0}) → ClearTo 10 → Least (OnCircle (steps_in flow)) o → Ok x ≡ ruled Circle o → ClearTo 11
    circle_kept x clear l = passes u.bytes.now u.name (held u) Circle o x (λ e. omega arith) (by_flow OnCircle o l) clear

    pub circle_first : (f : CheckFault) → ClearTo 10 → Least (OnCircle (steps_in flow)) o → Err f ≡ ruled Circle o → First f
    circle_first f clear l = fails u.bytes.now u.name (held u) Circle o f (λ e. omega arith) (by_flow OnCircle o l) clear

    pub range_kept : (x : Unit {0}) → ClearTo 11 → o ≡ position (λ s. not (span_kept (domains_in u.variables.now) (sentence_in u.rows.now s))) u.statements.now → Ok x ≡ ruled Range o → ClearTo 12
    range_kept x clear e = passes u.bytes.now u.name (held u) Range o x (λ e. omega arith) (least_range o e) clear

    pub range_first : (f : CheckFault) → ClearTo 11 → o ≡ position (λ s. not (span_kept (domains_in u.variables.now) (sentence_in u.rows.now s))) u.statements.now → Err f ≡ ruled Range o → First f
    range_first f clear e = fails u.bytes.now u.name (held u) Range o f (λ e. omega arith) (least_range o e) clear

    -- with no circle, what is too much is too many paths
    pub paths_first : (x : Unit {0}) → ClearTo 12 → Least (OnCircle (steps_in flow)) o → Ok x ≡ ruled Circle o → TooMany (steps_in flow) → First (Rule Paths 0)
    paths_first x clear l kept many =
        ⊎_elim (λ p. absurd (no_circle (steps_in flow) o l x kept p.0 p.1)) (λ lt. too_many u.bytes.now u.name (held u) clear (refl, subst (λ v. 65536 < length (paths v)) same_steps lt)) many

  pub paths_kept : ClearTo 12 → (n : ℕ) → n ≡ length (paths (steps_in flow)) → n < 65537 → Unbroken u.bytes.now u.name (held u)
  paths_kept clear n e few = few_enough_lem u.bytes.now u.name (held u) clear (λ j p. omega (arith, p.1, few, e ∙ ap (λ v. length (paths v)) same_steps))
