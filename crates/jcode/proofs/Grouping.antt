-- Parts of a language grouped otherwise.
use Rattle.std.proofs.Common.{List, ◌++◌, ℕ, sym, refl, ap, ◌∙◌, append_assoc}
use Rattle.jcode.specs.Language.{Language, ◌⊙◌}

pub regroup : {P Q R : Language} (w : List ℕ) → ((P ⊙ Q) ⊙ R) w → (P ⊙ Q ⊙ R) w
regroup w h =
    let x = h.2 in
    (x.0, x.1 ++ h.1, x.2, (x.1, h.1, x.3, h.3, refl), h.4 ∙ ap (λ u. u ++ h.1) x.4 ∙ append_assoc x.0 x.1 h.1)

pub ungroup : {P Q R : Language} (w : List ℕ) → (P ⊙ Q ⊙ R) w → ((P ⊙ Q) ⊙ R) w
ungroup w h =
    let x = h.3 in
    (h.0 ++ x.0, x.1, (h.0, x.0, h.2, x.2, refl), x.3, h.4 ∙ ap (λ v. h.0 ++ v) x.4 ∙ sym (append_assoc h.0 x.0 x.1))

pub under : {P Q R : Language} → ((w : List ℕ) → Q w → R w) → (w : List ℕ) → (P ⊙ Q) w → (P ⊙ R) w
under f w h = (h.0, h.1, h.2, f h.1 h.3, h.4)

pub regroup3 : {P Q R S : Language} (w : List ℕ) → ((P ⊙ Q ⊙ R) ⊙ S) w → (P ⊙ Q ⊙ R ⊙ S) w
regroup3 w h = under regroup w (regroup w h)

pub ungroup3 : {P Q R S : Language} (w : List ℕ) → (P ⊙ Q ⊙ R ⊙ S) w → ((P ⊙ Q ⊙ R) ⊙ S) w
ungroup3 w h = ungroup w (under ungroup w h)

pub regroup4 : {P Q R S T : Language} (w : List ℕ) → ((P ⊙ Q ⊙ R ⊙ S) ⊙ T) w → (P ⊙ Q ⊙ R ⊙ S ⊙ T) w
regroup4 w h = under regroup3 w (regroup w h)

pub ungroup4 : {P Q R S T : Language} (w : List ℕ) → (P ⊙ Q ⊙ R ⊙ S ⊙ T) w → ((P ⊙ Q ⊙ R ⊙ S) ⊙ T) w
ungroup4 w h = ungroup w (under ungroup3 w h)
