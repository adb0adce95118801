-- Where control and a path may go.
use Rattle.std.proofs.Common.{◌≡◌, ℕ, zero, suc, ◌+◌, ◌-◌, ◌<◌, ◌≤◌, Bool, true, false, cond, ◌≢◌, List, [], ◌∷◌, length, get_or, Some, Option, sym, refl, ap, ◌∙◌, ⊎_elim, true≢false, arith}
use Rattle.std.specs.List.{AllByRecursion as All, Contains, filter, range_with_len}
use Rattle.std.proofs.lemmas.List.{get_or_past}
use Rattle.std.proofs.lemmas.Bool.{cond_both, cond-false, cases_lt, false_from_ne_true}
use Rattle.std.proofs.ByRecursion.{All-weaker, All-get_or}
use Rattle.flow.specs.declared.step.Step.{Step}
use Rattle.flow.specs.declared.step.Step.TheVariants.{Hang, Break, Require, Plain, Split, When, Branch, Join}
use Rattle.flow.specs.Steps.{at, is_break, leads, Next}
use Rattle.flow.specs.Numbers.{may, onward}
use Rattle.flow.specs.Counts.{Enclosed}

pub never : {A : Type 0} → false ≡ true → A
never e = absurd (true≢false (sym e))

pub break_is : (t : Step) → is_break t ≡ true → t ≡ Break
break_is Hang e = never e
break_is Break e = refl
break_is Require e = never e
break_is Plain e = never e
break_is (Split l) e = never e
break_is (When l) e = never e
break_is (Branch l) e = never e
break_is (Join l) e = never e

no_break : (t : Step) → t ≢ Break → is_break t ≡ false
no_break t ne = false_from_ne_true (is_break t) (λ e. ne (break_is t e))

-- ---- where a path may go
both : (b c : Bool) → cond b false c ≡ true → (b ≡ false) × (c ≡ true)
both true c e = never e
both false c e = (refl, e)

pub may_next : (u : List Step) (i j : ℕ) → j < length u → may u (Some i) j ≡ true → Next u i j × (at u j ≢ Break)
may_next u i j l e =
    let h = both (is_break (at u j)) (leads i (at u i) j (at u j)) e in
    ((l, h.1), λ is. absurd (true≢false (sym (ap is_break is) ∙ h.0)))

pub next_may : (u : List Step) (i j : ℕ) → Next u i j → at u j ≢ Break → may u (Some i) j ≡ true
next_may u i j h ne = ap (λ (b : Bool). cond b false (leads i (at u i) j (at u j))) (no_break (at u j) ne) ∙ h.1

-- ---- the places to go to
-- those among the m places from a on
abbrev pub among : List Step → Option ℕ → ℕ → ℕ → List ℕ
among u from a m = filter (may u from) (range_with_len a m)

pub among_may : (u : List Step) (from : Option ℕ) (a m : ℕ) → All (λ j. (a ≤ j) × (j < a + m) × (may u from j ≡ true)) (among u from a m)
among_may u from a zero = tt
among_may u from a (suc m) =
    let wide = All-weaker (λ j. (a + 1 ≤ j) × (j < a + 1 + m) × (may u from j ≡ true)) (λ j. (a ≤ j) × (j < a + suc m) × (may u from j ≡ true))
    (λ j h. (omega arith, omega arith, h.2)) (among u from (a + 1) m) (among_may u from (a + 1) m) in
    cond_both (may u from a) (a ∷ among u from (a + 1) m) (among u from (a + 1) m) (All (λ j. (a ≤ j) × (j < a + suc m) × (may u from j ≡ true)))
    (λ e. ((omega arith, omega arith, e), wide)) (λ e. wide)

pub onward_may : (u : List Step) (from : Option ℕ) → All (λ j. (j < length u) × (may u from j ≡ true)) (onward u from)
onward_may u from = All-weaker _ (λ j. (j < length u) × (may u from j ≡ true)) (λ j h. (omega arith, h.2)) (onward u from) (among_may u from 0 (length u))

pub onward_inside : (u : List Step) (from : Option ℕ) (i j : ℕ) → i < length (onward u from) → j ≡ get_or (onward u from) i 0 → j < length u
onward_inside u from i j h is = rw is (All-get_or (λ x. (x < length u) × (may u from x ≡ true)) (onward u from) i 0 h (onward_may u from)).0

behind : (xs : List ℕ) (y x : ℕ) → Contains xs x → Contains (y ∷ xs) x
behind xs y x h = (suc h.0, (let l = h.1 in omega arith), h.2)

among_in : (u : List Step) (from : Option ℕ) (a m j : ℕ) → a ≤ j → j < a + m → may u from j ≡ true → Contains (among u from a m) j
among_in u from a zero j h k e = absurd (omega arith)
among_in u from a (suc m) j h k e =
    ⊎_elim
    (λ later. cond_both (may u from a) (a ∷ among u from (a + 1) m) (among u from (a + 1) m) (λ js. Contains js j)
    (λ y. behind (among u from (a + 1) m) a j (among_in u from (a + 1) m j (omega arith) (omega arith) e)) (λ n. among_in u from (a + 1) m j (omega arith) (omega arith) e))
    (λ not-later. let is : j ≡ a = omega arith in
    cond_both (may u from a) (a ∷ among u from (a + 1) m) (among u from (a + 1) m) (λ js. Contains js j)
    (λ y. (0, omega arith, sym is)) (λ n. absurd (true≢false (sym e ∙ ap (may u from) is ∙ n))))
    (cases_lt a j)

pub onward_in : (u : List Step) (from : Option ℕ) (j : ℕ) → j < length u → may u from j ≡ true → Contains (onward u from) j
onward_in u from j h e = among_in u from 0 (length u) j (omega arith) (omega arith) e

-- ---- where nothing is to go to
pub among_none : (u : List Step) (from : Option ℕ) (a m : ℕ) → ((j : ℕ) → a ≤ j → j < a + m → may u from j ≡ true → ⊥) → among u from a m ≡ []
among_none u from a zero h = refl
among_none u from a (suc m) h =
    cond-false (may u from a) (a ∷ among u from (a + 1) m) (among u from (a + 1) m) (false_from_ne_true (may u from a) (h a (omega arith) (omega arith)))
    ∙ among_none u from (a + 1) m (λ j l k. h j (omega arith) (omega arith))

-- a scan may begin at b where nothing stands in the d places before
pub among_skip : (u : List Step) (from : Option ℕ) (d a b k m : ℕ) → b ≡ a + d → k ≡ d + m → ((j : ℕ) → a ≤ j → j < b → may u from j ≡ true → ⊥) → among u from a k ≡ among u from b m
among_skip u from zero a b k m eb ek h = let e : a ≡ b = omega arith in let f : k ≡ m = omega arith in cc
among_skip u from (suc d) a b k m eb ek h =
    let e : k ≡ suc (d + m) = omega arith in
    ap (among u from a) e
    ∙ cond-false (may u from a) (a ∷ among u from (a + 1) (d + m)) (among u from (a + 1) (d + m)) (false_from_ne_true (may u from a) (h a (omega arith) (omega arith)))
    ∙ among_skip u from d (a + 1) b (d + m) m (omega arith) refl (λ j l k. h j (omega arith) k)

-- and may end where nothing stands in the d places behind
among_cut : (u : List Step) (from : Option ℕ) (a m d k : ℕ) → k ≡ m + d → ((j : ℕ) → a + m ≤ j → j < a + k → may u from j ≡ true → ⊥) → among u from a k ≡ among u from a m
among_cut u from a zero d k e h = among_none u from a k (λ j l b. h j (omega arith) b)
among_cut u from a (suc m) d k e h =
    let more : k ≡ suc (m + d) = omega arith in
    ap (among u from a) more
    ∙ ap (λ (js : List ℕ). cond (may u from a) (a ∷ js) js) (among_cut u from (a + 1) m d (m + d) refl (λ j l b. h j (omega arith) (omega arith)))

-- the places that enclose all there is to find
pub enclosed : (u : List Step) (from : Option ℕ) (low high : ℕ) → Enclosed (may u from) (length u) low high → among u from low (high - low) ≡ onward u from
enclosed u from low high h =
    let l = h.0 in let m = h.1 in
    sym (
    among_skip u from low 0 low (length u) (length u - low) (omega arith) (omega arith) (λ j a b e. let k = (h.2 j (omega arith) e).0 in omega arith)
    ∙ among_cut u from low (high - low) (length u - low - (high - low)) (length u - low) (omega arith) (λ j a b e. let k = (h.2 j (omega arith) e).1 in omega arith)
    )

-- ---- what leads on is a statement
pub leads_inside : (u : List Step) (i j : ℕ) → Next u i j → i < length u
leads_inside u i j h = ⊎_elim (λ k. k) (λ k. never (ap (λ (s : Step). leads i s j (at u j)) (sym (get_or_past u i Hang k)) ∙ h.1)) (cases_lt i (length u))

pub break_inside : (u : List Step) (i : ℕ) → at u i ≡ Break → i < length u
break_inside u i e = ⊎_elim (λ k. k) (λ k. never (ap is_break (sym (get_or_past u i Hang k) ∙ e))) (cases_lt i (length u))
