use Rattle.std.proofs.Common.{◌≡◌, ap, ◌∙◌, rules}
use Rattle.std.specs.Option.{option_map}
use Rattle.terms.proofs.Table.{option_map_cond}
use Rattle.terms.proofs.operator.find.Goals as goal

pub returns : goal.returns
returns c =
    let first : c.map.result ≡ option_map (λ p. p.0) c.lookup.result = search rules in
    simp option_map_cond at (first ∙ ap (option_map (λ p. p.0)) c.lookup.ensures)
