use Rattle.std.proofs.Common.{◌≡◌, ℕ, rules}
use Rattle.std.proofs.lemmas.Iterator.{first_from_Range}
use Rattle.flow.specs.declared.circle.Mark.TheVariants.{Seen}
use Rattle.flow.specs.Circles.{mark_at}
use Rattle.flow.specs.Flows.{steps_in}
use Rattle.flow.proofs.Marking.{found_pending}
use Rattle.flow.proofs.flow.Flow.pending.Goals as goal

pub returns : goal.returns
returns c =
    let is_seen = λ (j : ℕ). mark_at c.args.marks.now j ≡ Seen in
    found_pending (steps_in c.args.self.now) c.args.marks.now _ c.find.result (search rules)
    (first_from_Range _ _ _ _ is_seen (λ j. ¬ is_seen j) c.find.ensures.ran (λ x q k. search rules) (λ x q k. search rules))
