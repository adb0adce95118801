-- The worked examples of sheets and runs.
use Rattle.std.proofs.Common.{◌≡◌, ℕ, zero, suc, ◌<◌, true, not, ◌&&◌, List, [], ◌∷◌, get_or, ℤ, pos, refl, sym, ap, ◌∙◌, arith}
use Rattle.std.proofs.lemmas.Bool.{and_parts, eqb-true}
use Rattle.std.proofs.lemmas.Int.{ints}
use Rattle.std.specs.List.{list_all}
use Rattle.std.specs.Prelude.{int_le, int_lt}
use Rattle.flow.specs.declared.step.Step.{Step}
use Rattle.terms.specs.Numbers.{truth}
use Rattle.flow.specs.Paths.{Path}
use Rattle.flow.specs.Steps.{at, is_break}
use Rattle.flow.specs.declared.step.Step.TheVariants as step
use Rattle.flow.proofs.Leading.{never}
use Rattle.jcode.specs.ReadStatements.{read_unseen, read_names, read_listing, read_single, read_again, read_repeated, read_text_end}
use Rattle.jcode.specs.ReadTerms.{read_begin, read_close}
use Rattle.jcode.specs.ReadUnits.{read_unit, read_high, read_bounds, read_domain, read_colon, read_class, read_closing, read_declared, read_fresh, read_entry, read_sentence, read_finish, read_heading}
use Rattle.jcode.specs.Sentences.{Hang}
use Rattle.jcode.specs.Units.{JUnit}
use Rattle.checking.specs.Breaks.{steps_of}
use Rattle.checking.specs.Rules.{kinds_kept, span_kept}
use Rattle.checking.specs.Types.{domains}
use Rattle.sheets.specs.Runs.{sentence, are_of, types_at, Reaches, starts, goes, Goes, FailsAt, Fails}
use Rattle.sheets.specs.PathSheets.{sheet_of}
use Rattle.sheets.specs.Valuations.{Falsifies}
use Rattle.sheets.specs.Matches.{terms_kept, Sensible}
use Rattle.sheets.specs.PathExamples.{limit, limit_text, room, room_for, order, order_text, Tells, second, second_sheet, past, unchosen, Examples}
use Rattle.sheets.proofs.Parts.{equals}
use Rattle.sheets.proofs.Fitting.{all_at}
use Rattle.sheets.proofs.Running.{matches}

one_is_not_zero : pos 1 ≡ pos 0 → ⊥
one_is_not_zero e = absurd (omega (arith, ints, e))

-- 7 is below 8
six_never : (v : List ℤ) → Falsifies second_sheet (pos 6 ∷ v) → ⊥
six_never v f =
    let seven : get_or v 1 (pos 0) ≡ pos 7 = equals (get_or v 1 (pos 0)) (pos 7) f.1.1.1.0 in
    one_is_not_zero (ap (λ n. truth (int_lt n (pos 8))) (sym seven) ∙ f.1.1.1.1.1)

first_never : (v : List ℤ) → Falsifies (sheet_of limit (0 ∷ 1 ∷ [])) v → ⊥
first_never [] f = never f.0
first_never (x ∷ v) f = one_is_not_zero (ap truth (sym (and_parts (int_le (pos 0) x) _ (and_parts (int_le (pos 0) x && int_le x (pos 9)) _ f.0).0).0) ∙ f.1)

limit_sensible : Sensible limit
limit_sensible = record {
  types = refl;
  terms = λ i. all_at (terms_kept 1) limit.statements i Hang refl refl;
  kinds = λ i. all_at (kinds_kept (domains limit)) limit.statements i Hang refl refl;
  spans = λ i. all_at (span_kept (domains limit)) limit.statements i Hang refl refl;
}

second_path : Path (steps_of limit) second
second_path = (refl, ((omega arith, refl), (λ e. never (ap is_break e)), ((omega arith, refl), (λ e. never (ap is_break e)), ((omega arith, refl), (λ e. never (ap is_break e)), ((omega arith, refl), (λ e. never (ap is_break e)), refl)))))

limit_fails : Fails limit
limit_fails =
    let m = matches limit limit_sensible in
    let run = (m.both_ways second second_path (pos 7 ∷ pos 0 ∷ pos 8 ∷ pos 1 ∷ [])).0 (refl, (refl, (refl, (refl, (refl, refl))))) in
    m.along_is_run second second_path (pos 7 ∷ pos 0 ∷ []) (pos 8 ∷ pos 1 ∷ []) run.0 run.1

-- ---- runs that get no further than the second statement
first_only : (rest : List Step) → list_all (λ s. not (is_break s)) rest ≡ true → (i : ℕ) → at (step.Break ∷ rest) i ≡ step.Break → i < 2
first_only rest h zero e = omega arith
first_only rest h (suc i) e = never (sym (ap (λ s. not (is_break s)) e) ∙ all_at (λ s. not (is_break s)) rest i step.Hang refl h)

module _ (u : JUnit) (first : (i : ℕ) → at (steps_of u) i ≡ step.Break → i < 2) (on : (j : ℕ) (given s t : List ℤ) → Goes u 0 j given s t → j < 2) (no_further : (j : ℕ) (given s t : List ℤ) → Goes u 1 j given s t → ⊥)
    (fine : (s : List ℤ) → FailsAt (sentence u 0) s → ⊥) (fine_too : (s : List ℤ) → FailsAt (sentence u 1) s → ⊥) where
  early : {i : ℕ} {s : List ℤ} → Reaches u i s → i < 2
  early (starts {i} is f) = first i is
  early (goes {i} {j} {s} {t} given r g) = further i (early r) g
    where
      further : (i : ℕ) → i < 2 → Goes u i j given s t → j < 2
      further zero h g = on j given s t g
      further (suc zero) h g = absurd (no_further j given s t g)
      further (suc (suc i)) h g = absurd (omega arith)

  none_fails : Fails u → ⊥
  none_fails (i, s, r, f) = at_each i (early r) f
    where
      at_each : (i : ℕ) → i < 2 → FailsAt (sentence u i) s → ⊥
      at_each zero h f = fine s f
      at_each (suc zero) h f = fine_too s f
      at_each (suc (suc i)) h f = absurd (omega arith)

assign_ends : Fails past → ⊥
assign_ends = none_fails past (first_only (step.Plain ∷ step.Require ∷ step.Hang ∷ []) refl) (λ j given s t g. omega (arith, eqb-true j 1 g.next.1))
    (λ j given s t g. never (sym (ap (are_of (types_at past (0 ∷ []))) g.acts.demanded) ∙ g.acts.typed)) (λ s f. f) (λ s f. f)

no_when : (j : ℕ) (given s t : List ℤ) → Goes unchosen 1 j given s t → ⊥
no_when zero given s t g = never g.next.1
no_when (suc zero) given s t g = never g.next.1
no_when (suc (suc zero)) given s t g = one_is_not_zero (sym g.admitted)
no_when (suc (suc (suc zero))) given s t g = never g.next.1
no_when (suc (suc (suc (suc zero)))) given s t g = never g.next.1
no_when (suc (suc (suc (suc (suc zero))))) given s t g = one_is_not_zero (sym g.admitted)
no_when (suc (suc (suc (suc (suc (suc zero)))))) given s t g = never g.next.1
no_when (suc (suc (suc (suc (suc (suc (suc j))))))) given s t g = never g.next.1

split_ends : Fails unchosen → ⊥
split_ends = none_fails unchosen (first_only (step.Split 1 ∷ step.When 1 ∷ step.Require ∷ step.Hang ∷ step.When 1 ∷ step.Hang ∷ []) refl) (λ j given s t g. omega (arith, eqb-true j 1 g.next.1))
    no_when (λ s f. f) (λ s f. f)

-- reading it by computation
limit_is_read : Tells limit_text (read_unit room limit_text 0) limit
unfolding read_single read_again read_repeated read_text_end read_begin read_close read_high read_bounds read_domain read_colon read_class read_closing read_declared read_fresh read_entry read_sentence read_finish read_heading
limit_is_read = (refl, refl)

order_is_read : Tells order_text (read_unit (room_for 2 4 12) order_text 0) order
unfolding read_unseen read_names read_listing read_single read_again read_repeated read_text_end read_begin read_close read_high read_bounds read_domain read_colon read_class read_closing read_declared read_fresh read_entry read_sentence read_finish read_heading
order_is_read = (refl, refl)

pub examples : Examples
examples = record {
  limit_is_read = limit_is_read;
  limit_has = refl;
  second_has = refl;
  second_stands = refl;
  seven_falsifies = (refl, (refl, (refl, (refl, (refl, refl)))));
  six_never = six_never;
  first_never = first_never;
  limit_fails = limit_fails;
  raised_has = refl;
  raised_is = refl;
  raised_falsified = (refl, (refl, (refl, refl)));
  order_is_read = order_is_read;
  order_has = refl;
  order_is = refl;
  order_falsified = (refl, (refl, refl));
  proclaim_helps_not = (3, pos 0 ∷ pos 0 ∷ [], goes [] (starts {i = 2} refl refl) (record { acts = record { typed = refl; demanded = tt; after = refl }; next = (omega arith, refl); admitted = tt }), refl);
  no_path_on = λ h. h.1.2.1 refl;
  assign_ends = assign_ends;
  split_ends = split_ends;
}
