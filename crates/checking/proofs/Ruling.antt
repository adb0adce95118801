-- The rules one after another: what is clear so far, and what is broken first.
use Rattle.std.proofs.Common.{◌≡◌, ℕ, ◌+◌, ◌<◌, ◌≤◌, cond, eqb, List, IsErrAnd, Some, None, Ok, Err, Option, Result, sym, refl, ap, ◌∙◌, subst, inl, inr, ⊎_elim, arith}
use Rattle.std.proofs.lemmas.Result.{err_from_is_err_and}
use Rattle.std.proofs.lemmas.Bool.{cases_lt}
use Rattle.flow.specs.Least.{Least}
use Rattle.jcode.specs.declared.refusal.Refusal.{Refusal}
use Rattle.jcode.specs.declared.refusal.Refusal.TheVariants.{Missing, Number, Limit, Table, Name, Tables as BadTables, Order, Kind, Label, Circle, Range, Paths, Condition, SlipOut, Slip, Buffer, Valuation}
use Rattle.jcode.specs.declared.span.Span.{Span}
use Rattle.jcode.specs.ReadUnits.{Tables}
use Rattle.jcode.specs.Refusals.{number_of}
use Rattle.jcode.specs.Units.{unit_of}
use Rattle.checking.specs.declared.fault.CheckFault.{CheckFault}
use Rattle.checking.specs.declared.fault.CheckFault.TheVariants.{Rule}
use Rattle.checking.specs.Breaks.{BreaksRule, Breaks, FirstBroken, Unbroken, Checks, ruled}
use Rattle.checking.specs.Readable.{Readable}

-- a refusal by its number
abbrev named : ℕ → Refusal
named n =
    cond (eqb n 1) Missing (cond (eqb n 2) Number (cond (eqb n 3) Limit (cond (eqb n 4) Table (cond (eqb n 5) Name (cond (eqb n 6) BadTables (cond (eqb n 7) Order (cond (eqb n 8) Kind (cond (eqb n 9) Label (cond (eqb n 10) Circle (cond (eqb n 11) Range (cond (eqb n 12) Paths (cond (eqb n 13) Condition (cond (eqb n 14) SlipOut (cond (eqb n 15) Slip (cond (eqb n 16) Buffer Valuation)))))))))))))))

named_again : (r : Refusal) → named (number_of r) ≡ r
named_again Missing = refl
named_again Number = refl
named_again Limit = refl
named_again Table = refl
named_again Name = refl
named_again BadTables = refl
named_again Order = refl
named_again Kind = refl
named_again Label = refl
named_again Circle = refl
named_again Range = refl
named_again Paths = refl
named_again Condition = refl
named_again SlipOut = refl
named_again Slip = refl
named_again Buffer = refl
named_again Valuation = refl

same_number_lem : (q r : Refusal) → number_of q ≡ number_of r → q ≡ r
same_number_lem q r e = sym (named_again q) ∙ ap named e ∙ named_again r

module _ (bytes : List ℕ) (name : Span) (t : Tables) where
  -- no rule with a lower number is broken
  abbrev pub Clear : ℕ → Type 0
  Clear n = (q : Refusal) (j : ℕ) → number_of q < n → Breaks bytes name t q j → ⊥

  only_rule : (r : Refusal) (i : ℕ) → (number_of r ≡ 6 → ⊥) → Breaks bytes name t r i → BreaksRule (unit_of bytes name t) r i
  only_rule r i other b = ⊎_elim (λ p. absurd (other (ap number_of p.0))) (λ b. b) b

  lower : (q : Refusal) (j : ℕ) → number_of q < 6 → Breaks bytes name t q j → ⊥
  lower Missing j lt b = only_rule Missing j (λ e. omega arith) b
  lower Number j lt b = only_rule Number j (λ e. omega arith) b
  lower Limit j lt b = only_rule Limit j (λ e. omega arith) b
  lower Table j lt b = only_rule Table j (λ e. omega arith) b
  lower Name j lt b = only_rule Name j (λ e. omega arith) b
  lower BadTables j lt b = omega arith
  lower Order j lt b = omega arith
  lower Kind j lt b = omega arith
  lower Label j lt b = omega arith
  lower Circle j lt b = omega arith
  lower Range j lt b = omega arith
  lower Paths j lt b = omega arith
  lower Condition j lt b = omega arith
  lower SlipOut j lt b = omega arith
  lower Slip j lt b = omega arith
  lower Buffer j lt b = omega arith
  lower Valuation j lt b = omega arith

  pub no_tables : (Readable bytes name t → ⊥) → FirstBroken bytes name t (Rule BadTables 0)
  no_tables bad = (inl (refl, refl, bad), λ q j e b. ⊎_elim (λ (lt : number_of q < 6). lower q j lt b) (λ p. absurd (omega (arith, p.1))) e)

  pub clear_tables : Readable bytes name t → Clear 7
  clear_tables ok q j lt b =
      ⊎_elim
      (λ (less : number_of q < 6). lower q j less b)
      (λ (more : 6 ≤ number_of q).
      let is : q ≡ BadTables = same_number_lem q BadTables (omega arith) in
      ⊎_elim (λ p. p.2 ok) (λ b. subst (λ r. BreaksRule (unit_of bytes name t) r j) is b) b)
      (cases_lt (number_of q) 6)

  clear_more : (r : Refusal) → (number_of r ≡ 6 → ⊥) → ((j : ℕ) → BreaksRule (unit_of bytes name t) r j → ⊥) → Clear (number_of r) → Clear (number_of r + 1)
  clear_more r other none clear q j lt b =
      ⊎_elim
      (λ less. clear q j less b)
      (λ (more : number_of r ≤ number_of q). none j (only_rule r j other (subst (λ x. Breaks bytes name t x j) (same_number_lem q r (omega arith)) b)))
      (cases_lt (number_of q) (number_of r))

  broken_first : (r : Refusal) (i : ℕ) → (number_of r ≡ 6 → ⊥) → BreaksRule (unit_of bytes name t) r i → ((j : ℕ) → j < i → BreaksRule (unit_of bytes name t) r j → ⊥) → Clear (number_of r) → FirstBroken bytes name t (Rule r i)
  broken_first r i other b none clear =
      (inr b, λ q j e c. ⊎_elim (λ less. clear q j less c) (λ p. none j p.1 (only_rule r j other (subst (λ x. Breaks bytes name t x j) (same_number_lem q r p.0) c))) e)

  -- a rule that is looked up, and passes or not
  pub passes : (r : Refusal) (o : Option ℕ) (u : Unit {0}) → (number_of r ≡ 6 → ⊥) → Least (BreaksRule (unit_of bytes name t) r) o → Clear (number_of r) → Ok u ≡ ruled r o → Clear (number_of r + 1)
  passes r None u other least clear is = clear_more r other least clear
  passes r (Some i) u other least clear is = absurd (let z : ◌≡◌ {A = ℕ} 0 1 = cc in omega arith)

  pub fails : (r : Refusal) (o : Option ℕ) (f : CheckFault) → (number_of r ≡ 6 → ⊥) → Least (BreaksRule (unit_of bytes name t) r) o → Clear (number_of r) → Err f ≡ ruled r o → FirstBroken bytes name t f
  fails r None f other least clear is = absurd (let z : ◌≡◌ {A = ℕ} 0 1 = cc in omega arith)
  fails r (Some i) f other least clear is =
      let e : Rule r i ≡ f = cc in
      subst (FirstBroken bytes name t) e (broken_first r i other least.0 least.1 clear)

  -- the exit of a `?`
  pub exits : {A : Type 0} (r : Result A CheckFault) (f : CheckFault) → IsErrAnd r (λ y. y ≡ f) → FirstBroken bytes name t f → Checks bytes name t r
  exits r f e first = let p = err_from_is_err_and r e in subst (Checks bytes name t) (sym (p.1 ∙ ap Err p.2)) first

  pub all_clear : Clear 13 → Unbroken bytes name t
  all_clear clear Missing j b = clear Missing j (omega arith) b
  all_clear clear Number j b = clear Number j (omega arith) b
  all_clear clear Limit j b = clear Limit j (omega arith) b
  all_clear clear Table j b = clear Table j (omega arith) b
  all_clear clear Name j b = clear Name j (omega arith) b
  all_clear clear BadTables j b = clear BadTables j (omega arith) b
  all_clear clear Order j b = clear Order j (omega arith) b
  all_clear clear Kind j b = clear Kind j (omega arith) b
  all_clear clear Label j b = clear Label j (omega arith) b
  all_clear clear Circle j b = clear Circle j (omega arith) b
  all_clear clear Range j b = clear Range j (omega arith) b
  all_clear clear Paths j b = clear Paths j (omega arith) b
  all_clear clear Condition j b = only_rule Condition j (λ e. omega arith) b
  all_clear clear SlipOut j b = only_rule SlipOut j (λ e. omega arith) b
  all_clear clear Slip j b = only_rule Slip j (λ e. omega arith) b
  all_clear clear Buffer j b = only_rule Buffer j (λ e. omega arith) b
  all_clear clear Valuation j b = only_rule Valuation j (λ e. omega arith) b

  pub too_many : Clear 12 → BreaksRule (unit_of bytes name t) Paths 0 → FirstBroken bytes name t (Rule Paths 0)
  too_many clear b = broken_first Paths 0 (λ e. omega arith) b (λ j lt c. omega arith) clear

  pub few_enough_lem : Clear 12 → ((j : ℕ) → BreaksRule (unit_of bytes name t) Paths j → ⊥) → Unbroken bytes name t
  few_enough_lem clear none = all_clear (clear_more Paths (λ e. omega arith) none clear)
