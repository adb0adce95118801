-- What holds after every history: how many settlements were accepted, their numbers, and the slip that is out.
use Rattle.std.proofs.Common.{◌≡◌, ℕ, ◌<◌, ◌≤◌, Bool, true, false, List, [], ◌∷◌, length, leb, Some, None, Ok, Err, Option, refl, ap, subst, arith}
use Rattle.std.proofs.lemmas.Bool.{leb-false}
use Rattle.jcode.specs.Units.{JUnit}
use Rattle.examiner.specs.declared.slip.Slip.{Slip}
use Rattle.examiner.specs.Histories.{History, Settlement, took, settled, handed_back, told, accepted, out}
use Rattle.examiner.specs.Promises.{InOrder}
use Rattle.examiner.specs.Steps.{path_count, taken, Happened}

-- the slip that is out when so many settlements have been accepted
pub record Due (u : JUnit) (tag count : ℕ) (l : Slip) : Type 0 where
  pub tagged : l.tag ≡ tag
  pub number : l.number ≡ count
  pub left : count < path_count u

pub record Going (u : JUnit) (tag : ℕ) (ss : List Settlement) (o : Option Slip) : Type 0 where
  pub few : length ss ≤ path_count u
  pub due : (l : Slip) → o ≡ Some l → Due u tag (length ss) l
  pub in_order : InOrder ss

pub taken_ok : (b : Bool) (o : Option Slip) (next l : Slip) → Ok l ≡ taken b o next → (b ≡ false) × (l ≡ next)
taken_ok true o next l e = cc
taken_ok false (Some x) next l e = cc
taken_ok false None next l e = (refl, cc)

due_next : (u : JUnit) (tag count : ℕ) (o : Option Slip) (l : Slip) → Ok l ≡ taken (leb (path_count u) count) o (record { tag = tag; number = count }) → Due u tag count l
due_next u tag count o l e =
    let t = taken_ok _ o _ l e in
    record { tagged = ap (λ (s : Slip). s.tag) t.1; number = ap (λ (s : Slip). s.number) t.1; left = omega (arith, leb-false _ _ t.0) }

pub going : (u : JUnit) (tag : ℕ) (h : History) → Happened u tag h → Going u tag (accepted h) (out h)
going u tag [] x = record { few = omega arith; due = λ l e. cc; in_order = tt }
going u tag (took (Ok l) ∷ h) x =
    let g = going u tag h x.1 in
    record { few = g.few; due = λ m e. let same : l ≡ m = cc in subst (Due u tag (length (accepted h))) same (due_next u tag _ (out h) l x.0); in_order = g.in_order }
going u tag (took (Err f) ∷ h) x = going u tag h x.1
going u tag (settled m l before (Ok o) after ∷ h) x =
    let g = going u tag h x.1 in
    let d = g.due l x.0.1 in
    record { few = omega (arith, d.left); due = λ m e. cc; in_order = (d.number, g.in_order) }
going u tag (settled m l before (Err e) after ∷ h) x = going u tag h x.1
going u tag (handed_back l (Ok w) ∷ h) x = let g = going u tag h x.1 in record { few = g.few; due = λ m e. cc; in_order = g.in_order }
going u tag (handed_back l (Err e) ∷ h) x = going u tag h x.1
going u tag (told v ∷ h) x = going u tag h x.1
