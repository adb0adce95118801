use Rattle.std.proofs.Common.{◌≡◌, ◌+◌, ◌-◌, ◌*◌, min, ◌∙◌, arith, rules}
use Rattle.std.specs.Prelude.{fold}
use Rattle.jcode.proofs.Values.{capped}
use Rattle.jcode.proofs.cursor.value_of.Goals as goal

pub returns : goal.returns
returns c =
    let e : c.fold.result ≡ fold (λ v b. min (min (v * 10) 18446744073709551615 + (b - 48)) 18446744073709551615) 0 c.args.digits.now = search rules in
    e ∙ capped 18446744073709551615 0 0 c.args.digits.now (omega arith)
