-- For callers: a slip that was taken, and comes back from a settlement, can be handed back.
use Rattle.std.proofs.Common.{◌≡◌, Some, Ok, Err, sym, refl, ap, ⊎_elim}
use Rattle.std.proofs.Math.Logic.{∥∥₁_elim}
use Rattle.checking.specs.CheckedUnits.{said}
use Rattle.sheets.specs.Settling.{Held}
use Rattle.examiner.specs.declared.examination.Examination.{Examination}
use Rattle.examiner.specs.declared.slip.Returned.{Returned}
use Rattle.examiner.specs.declared.slip.Slip.{Slip}
use Rattle.examiner.specs.Histories.{Meaning, took, settled, handed_back}
use Rattle.examiner.specs.Lives.{Leads, Goes}

pub never_owed : (a b c d : Examination) (l : Slip) (m : Meaning) (before after : Held) (r s : Returned)
    → Goes (took (Ok l)) a b → Goes (settled m l before (Err r) after) b c → Goes (handed_back r.slip (Err s)) c d → ⊥
never_owed a b c d l m before after r s take settle hand_back =
    ∥∥₁_elim a.reached (λ x y. absurd x) (λ h.
    let begun : Leads (said a.unit) a.tag h.0 a = record { of_unit = refl; of_tag = refl; comes = h.1 } in
    let x = (hand_back _ _ _ (settle _ _ _ (take _ _ _ begun))).comes.happened in
    let same : r.slip ≡ l = ⊎_elim (λ e. ap (λ (q : Returned). q.slip) e.1) (λ e. ap (λ (q : Returned). q.slip) e.2) x.1.0.0 in
    x.0.0 (ap Some (sym same)))
