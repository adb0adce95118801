use Rattle.std.proofs.Common.{◌≡◌, Bool, ◌&&◌, not, map, length, is_none, position, rules, sym, ap, ◌∙◌}
use Rattle.std.specs.List.{list_all}
use Rattle.std.proofs.lemmas.List.Folds.{list_all-map}
use Rattle.jcode.specs.declared.statement.Statement.{Statement}
use Rattle.jcode.specs.Units.{sentence_in}
use Rattle.checking.specs.Sentences.{keeps}
use Rattle.checking.proofs.Searching.{all_if_none}
use Rattle.checking.proofs.tables.UnitTables.are_well_laid.Goals as goal

pub returns-then-are_filled : goal.returns-then-are_filled
returns-then-are_filled c =
    let u = c.args.self.now in
    let test : Statement → Bool = λ s. keeps u.bytes.now (length u.variables.now) (sentence_in u.rows.now s) in
    let lowest : c.lowest_failing.result ≡ position (λ s. not (test s)) u.statements.now = c.lowest_failing.ensures test (λ s r b t says. search rules) in
    let none : c.is_none.result ≡ is_none c.lowest_failing.result = search rules in
    let all = none ∙ ap is_none lowest ∙ all_if_none test u.statements.now ∙ sym (list_all-map (keeps u.bytes.now (length u.variables.now)) (sentence_in u.rows.now) u.statements.now) in
    all ∙ ap (λ b. b && list_all (keeps u.bytes.now (length u.variables.now)) (map (sentence_in u.rows.now) u.statements.now)) c.if-are_filled.ensures
