use Rattle.std.proofs.Common.{◌≡◌, ℕ, true, map, length, IfOk, MatchOption, Some, None, Ok, Option, sym, ap, ◌∙◌, subst, arith, rules}
use Rattle.std.specs.Option.{ok_or}
use Rattle.flow.specs.declared.flow.Flow.{Flow}
use Rattle.flow.specs.declared.paths.Paths.{Paths}
use Rattle.flow.specs.Counts.{TooMany}
use Rattle.flow.specs.Flows.{steps_in}
use Rattle.flow.specs.Least.{Least}
use Rattle.flow.specs.Numbers.{paths}
use Rattle.flow.specs.Steps.{OnCircle}
use Rattle.jcode.specs.declared.refusal.Refusal.TheVariants.{Circle, Paths as TooManyPaths}
use Rattle.std.proofs.lemmas.Bool.{both_ways}
use Rattle.jcode.specs.Units.{sentence_in, unit_of}
use Rattle.checking.specs.declared.fault.CheckFault.TheVariants.{Rule}
use Rattle.checking.specs.declared.tables.UnitTables.{UnitTables}
use Rattle.checking.specs.Breaks.{steps_of, Checks, ruled}
use Rattle.checking.specs.Held.{held}
use Rattle.checking.specs.Readable.{readable}
use Rattle.checking.specs.Rules.{kinds_kept, span_kept}
use Rattle.checking.specs.Steps.{record_step}
use Rattle.checking.specs.Types.{domains_in}
use Rattle.checking.proofs.Reading.{readable_right, readable_whole}
use Rattle.checking.proofs.Ruling.{Clear, no_tables, exits}
use Rattle.checking.proofs.Telling.{order_kept, order_first, kind_kept, kind_first, label_kept, label_first, circle_kept, circle_first, range_kept, range_first, paths_kept, paths_first, same_steps}
use Rattle.checking.proofs.tables.UnitTables.keep_rules.Goals as goal

-- the paths, or that they are too many
told : (u : UnitTables) (flow : Flow) (is : steps_in flow ≡ map record_step u.statements.now) (ready : true ≡ readable u.bytes.now u.name (held u)) (circle : Option ℕ) (x : Unit {0}) → Clear u.bytes.now u.name (held u) 12 → Least (OnCircle (steps_in flow)) circle → Ok x ≡ ruled Circle circle → (o : Option Paths) → MatchOption o (TooMany (steps_in flow)) (λ p. steps_in p.flow ≡ steps_in flow) → Checks u.bytes.now u.name (held u) (ok_or o (Rule TooManyPaths 0)) × IfOk (ok_or o (Rule TooManyPaths 0)) (λ p. steps_in p.flow ≡ steps_of (unit_of u.bytes.now u.name (held u)))
told u flow is ready circle x clear least kept None many = (paths_first u flow is ready circle x clear least kept many, tt)
told u flow is ready circle x clear least kept (Some p) same = (paths_kept u flow is ready clear p.total (p.whole ∙ ap (λ v. length (paths v)) same) (omega (arith, p.few)), same ∙ same_steps u flow is ready)

pub returns-then-not-are_readable-clause-checks : goal.returns-then-not-are_readable-clause-checks
returns-then-not-are_readable-clause-checks c =
    let u = c.args.self.now in
    no_tables u.bytes.now u.name (held u) (λ r. both_ways _ (sym c.if-not-are_readable.ensures) (readable_whole u.bytes.now u.name (held u) r))

pub terms-terms-requires : goal.terms-terms-requires
terms-terms-requires c =
    let u = c.args.self.now in
    (readable_right u.bytes.now u.name (held u) (sym c.if-not-are_readable.ensures)).few_rows

pub flow-flow-requires : goal.flow-flow-requires
flow-flow-requires c =
    let u = c.args.self.now in
    (readable_right u.bytes.now u.name (held u) (sym c.if-not-are_readable.ensures)).few_statements

pub returns-in_err-rule-clause-checks : goal.returns-in_err-rule-clause-checks
returns-in_err-rule-clause-checks c =
    let u = c.args.self.now in
    let is = c.flow-flow.ensures in
    let ready = c.if-not-are_readable.ensures in
    exits u.bytes.now u.name (held u) c.from_residual.result c.in_err-rule.field-0.0 c.from_residual.ensures.1 (order_first u c.flow-flow.result is ready c.misplaced.result c.in_err-rule.field-0.0 c.misplaced.ensures c.in_err-rule.ensures)

pub returns-in_err-rule-2-clause-checks : goal.returns-in_err-rule-2-clause-checks
returns-in_err-rule-2-clause-checks c =
    let u = c.args.self.now in
    let is = c.flow-flow.ensures in
    let ready = c.if-not-are_readable.ensures in
    let k8 = order_kept u c.flow-flow.result is ready c.misplaced.result c.in_ok-rule.field-0 c.misplaced.ensures c.in_ok-rule.ensures in
    let kinds = c.lowest_failing-wrong_kind.ensures (λ s. kinds_kept (domains_in u.variables.now) (sentence_in u.rows.now s)) (λ s r b t says. search rules) in
    exits u.bytes.now u.name (held u) c.from_residual-in_err-rule-2.result c.in_err-rule-2.field-0.0 c.from_residual-in_err-rule-2.ensures.1 (kind_first u c.flow-flow.result is ready c.lowest_failing-wrong_kind.result c.in_err-rule-2.field-0.0 k8 kinds c.in_err-rule-2.ensures)

pub returns-in_err-rule-3-clause-checks : goal.returns-in_err-rule-3-clause-checks
returns-in_err-rule-3-clause-checks c =
    let u = c.args.self.now in
    let is = c.flow-flow.ensures in
    let ready = c.if-not-are_readable.ensures in
    let k8 = order_kept u c.flow-flow.result is ready c.misplaced.result c.in_ok-rule.field-0 c.misplaced.ensures c.in_ok-rule.ensures in
    let kinds = c.lowest_failing-wrong_kind.ensures (λ s. kinds_kept (domains_in u.variables.now) (sentence_in u.rows.now s)) (λ s r b t says. search rules) in
    let k9 = kind_kept u c.flow-flow.result is ready c.lowest_failing-wrong_kind.result c.in_ok-rule-2.field-0 k8 kinds c.in_ok-rule-2.ensures in
    exits u.bytes.now u.name (held u) c.from_residual-in_err-rule-3.result c.in_err-rule-3.field-0.0 c.from_residual-in_err-rule-3.ensures.1 (label_first u c.flow-flow.result is ready c.mislabelled.result c.in_err-rule-3.field-0.0 k9 c.mislabelled.ensures c.in_err-rule-3.ensures)

pub returns-in_err-rule-4-clause-checks : goal.returns-in_err-rule-4-clause-checks
returns-in_err-rule-4-clause-checks c =
    let u = c.args.self.now in
    let is = c.flow-flow.ensures in
    let ready = c.if-not-are_readable.ensures in
    let k8 = order_kept u c.flow-flow.result is ready c.misplaced.result c.in_ok-rule.field-0 c.misplaced.ensures c.in_ok-rule.ensures in
    let kinds = c.lowest_failing-wrong_kind.ensures (λ s. kinds_kept (domains_in u.variables.now) (sentence_in u.rows.now s)) (λ s r b t says. search rules) in
    let k9 = kind_kept u c.flow-flow.result is ready c.lowest_failing-wrong_kind.result c.in_ok-rule-2.field-0 k8 kinds c.in_ok-rule-2.ensures in
    let k10 = label_kept u c.flow-flow.result is ready c.mislabelled.result c.in_ok-rule-3.field-0 k9 c.mislabelled.ensures c.in_ok-rule-3.ensures in
    exits u.bytes.now u.name (held u) c.from_residual-in_err-rule-4.result c.in_err-rule-4.field-0.0 c.from_residual-in_err-rule-4.ensures.1 (circle_first u c.flow-flow.result is ready c.circular.result c.in_err-rule-4.field-0.0 k10 c.circular.ensures c.in_err-rule-4.ensures)

pub returns-in_err-rule-5-clause-checks : goal.returns-in_err-rule-5-clause-checks
returns-in_err-rule-5-clause-checks c =
    let u = c.args.self.now in
    let is = c.flow-flow.ensures in
    let ready = c.if-not-are_readable.ensures in
    let k8 = order_kept u c.flow-flow.result is ready c.misplaced.result c.in_ok-rule.field-0 c.misplaced.ensures c.in_ok-rule.ensures in
    let kinds = c.lowest_failing-wrong_kind.ensures (λ s. kinds_kept (domains_in u.variables.now) (sentence_in u.rows.now s)) (λ s r b t says. search rules) in
    let k9 = kind_kept u c.flow-flow.result is ready c.lowest_failing-wrong_kind.result c.in_ok-rule-2.field-0 k8 kinds c.in_ok-rule-2.ensures in
    let k10 = label_kept u c.flow-flow.result is ready c.mislabelled.result c.in_ok-rule-3.field-0 k9 c.mislabelled.ensures c.in_ok-rule-3.ensures in
    let k11 = circle_kept u c.flow-flow.result is ready c.circular.result c.in_ok-rule-4.field-0 k10 c.circular.ensures c.in_ok-rule-4.ensures in
    let spans = c.lowest_failing-out_of_span.ensures (λ s. span_kept (domains_in u.variables.now) (sentence_in u.rows.now s)) (λ s r b t says. search rules) in
    exits u.bytes.now u.name (held u) c.from_residual-in_err-rule-5.result c.in_err-rule-5.field-0.0 c.from_residual-in_err-rule-5.ensures.1 (range_first u c.flow-flow.result is ready c.lowest_failing-out_of_span.result c.in_err-rule-5.field-0.0 k11 spans c.in_err-rule-5.ensures)

pub returns : goal.returns
returns c =
    let u = c.args.self.now in
    let is = c.flow-flow.ensures in
    let ready = c.if-not-are_readable.ensures in
    let k8 = order_kept u c.flow-flow.result is ready c.misplaced.result c.in_ok-rule.field-0 c.misplaced.ensures c.in_ok-rule.ensures in
    let kinds = c.lowest_failing-wrong_kind.ensures (λ s. kinds_kept (domains_in u.variables.now) (sentence_in u.rows.now s)) (λ s r b t says. search rules) in
    let k9 = kind_kept u c.flow-flow.result is ready c.lowest_failing-wrong_kind.result c.in_ok-rule-2.field-0 k8 kinds c.in_ok-rule-2.ensures in
    let k10 = label_kept u c.flow-flow.result is ready c.mislabelled.result c.in_ok-rule-3.field-0 k9 c.mislabelled.ensures c.in_ok-rule-3.ensures in
    let k11 = circle_kept u c.flow-flow.result is ready c.circular.result c.in_ok-rule-4.field-0 k10 c.circular.ensures c.in_ok-rule-4.ensures in
    let spans = c.lowest_failing-out_of_span.ensures (λ s. span_kept (domains_in u.variables.now) (sentence_in u.rows.now s)) (λ s r b t says. search rules) in
    let k12 = range_kept u c.flow-flow.result is ready c.lowest_failing-out_of_span.result c.in_ok-rule-5.field-0 k11 spans c.in_ok-rule-5.ensures in
    let told_all = told u c.flow-flow.result is ready c.circular.result c.in_ok-rule-4.field-0 k12 c.circular.ensures c.in_ok-rule-4.ensures c.of.result c.of.ensures in
    record { checks = subst (Checks u.bytes.now u.name (held u)) (sym c.ok_or.ensures.value) told_all.0; paths = subst (λ r. IfOk r (λ p. steps_in p.flow ≡ steps_of (unit_of u.bytes.now u.name (held u)))) (sym c.ok_or.ensures.value) told_all.1 }
