-- The slip that is owed is the one that is out.
use Rattle.std.proofs.Common.{◌≡◌, ◌⊎◌, ℕ, Bool, true, false, [], ◌∷◌, ◌++◌, Some, None, Ok, Err, Option, sym, refl, ap, subst, inl, inr, ⊎_elim}
use Rattle.jcode.specs.Units.{JUnit}
use Rattle.examiner.specs.declared.slip.Slip.{Slip}
use Rattle.examiner.specs.Histories.{Event, History, took, settled, handed_back, told, out}
use Rattle.examiner.specs.Owing.{Spends, SpentIn, Owed}
use Rattle.examiner.specs.Steps.{taken, Happened}

-- a slip stays owed over what does not spend it
still_owed : (e : Event) (h : History) (l : Slip) → (Spends l e → ⊥) → Owed h l → Owed (e ∷ h) l
still_owed e h l spared o = record {
  since = e ∷ o.since;
  earlier = o.earlier;
  handed_out = ap (λ (x : History). e ∷ x) o.handed_out;
  not_spent = ⊎_elim spared o.not_spent;
}

just_taken : (e : Event) (h : History) (l : Slip) → e ≡ took (Ok l) → Owed (e ∷ h) l
just_taken e h l is = record { since = []; earlier = h; handed_out = ap (λ (x : Event). x ∷ h) is; not_spent = λ s. s }

-- what is owed was handed out just now, or was owed before and is not spent
abbrev Now : Event → History → Slip → Type 0
Now e h l = (e ≡ took (Ok l)) ⊎ ((Spends l e → ⊥) × Owed h l)

split : (e : Event) (h : History) (l : Slip) (since earlier : History) → e ∷ h ≡ since ++ (took (Ok l) ∷ earlier) → (SpentIn l since → ⊥) → Now e h l
split e h l [] earlier is none = inl cc
split e h l (f ∷ since) earlier is none =
    let same : f ≡ e = cc in
    inr (
      λ s. none (inl (subst (Spends l) (sym same) s)),
      record { since = since; earlier = earlier; handed_out = cc; not_spent = λ s. none (inr s) },
    )

now : (e : Event) (h : History) (l : Slip) → Owed (e ∷ h) l → Now e h l
now e h l o = split e h l o.since o.earlier o.handed_out o.not_spent

nothing_owed : (l : Slip) (since earlier : History) → [] ≡ since ++ (took (Ok l) ∷ earlier) → ⊥
nothing_owed l [] earlier e = cc
nothing_owed l (f ∷ since) earlier e = cc

pub is_owed : (h : History) (l : Slip) → out h ≡ Some l → Owed h l
is_owed [] l e = cc
is_owed (took (Ok k) ∷ h) l e = just_taken (took (Ok k)) h l cc
is_owed (took (Err f) ∷ h) l e = still_owed _ h l (λ s. s) (is_owed h l e)
is_owed (settled m k before (Ok o) after ∷ h) l e = cc
is_owed (settled m k before (Err r) after ∷ h) l e = still_owed _ h l (λ s. let x = s.0 in cc) (is_owed h l e)
is_owed (handed_back k (Ok w) ∷ h) l e = cc
is_owed (handed_back k (Err r) ∷ h) l e = still_owed _ h l (λ s. let x = s.0 in cc) (is_owed h l e)
is_owed (told v ∷ h) l e = still_owed _ h l (λ s. s) (is_owed h l e)

-- a take hands out a slip only if none is out
pub none_out : (b : Bool) (o : Option Slip) (next k l : Slip) → Ok k ≡ taken b o next → o ≡ Some l → ⊥
none_out true o next k l e is = cc
none_out false (Some x) next k l e is = cc
none_out false None next k l e is = cc

pub is_out : (u : JUnit) (tag : ℕ) (h : History) → Happened u tag h → (l : Slip) → Owed h l → out h ≡ Some l
is_out u tag [] x l o = absurd (nothing_owed l o.since o.earlier o.handed_out)
is_out u tag (took (Ok k) ∷ h) x l o =
    ⊎_elim (λ e. let same : k ≡ l = cc in ap Some same) (λ n. absurd (none_out _ _ _ k l x.0 (is_out u tag h x.1 l n.1))) (now _ h l o)
is_out u tag (took (Err f) ∷ h) x l o = ⊎_elim (λ e. cc) (λ n. is_out u tag h x.1 l n.1) (now _ h l o)
is_out u tag (settled m k before (Ok a) after ∷ h) x l o =
    ⊎_elim (λ e. cc) (λ n. let there = is_out u tag h x.1 l n.1 in absurd (n.0 (refl, let here = x.0.1 in cc))) (now _ h l o)
is_out u tag (settled m k before (Err r) after ∷ h) x l o = ⊎_elim (λ e. cc) (λ n. is_out u tag h x.1 l n.1) (now _ h l o)
is_out u tag (handed_back k (Ok w) ∷ h) x l o =
    ⊎_elim (λ e. cc) (λ n. let there = is_out u tag h x.1 l n.1 in absurd (n.0 (refl, let here = x.0 in cc))) (now _ h l o)
is_out u tag (handed_back k (Err r) ∷ h) x l o = ⊎_elim (λ e. cc) (λ n. is_out u tag h x.1 l n.1) (now _ h l o)
is_out u tag (told v ∷ h) x l o = ⊎_elim (λ e. cc) (λ n. is_out u tag h x.1 l n.1) (now _ h l o)
