-- What nests at most 32 deep, and `equal!` of a cell and such a term.
use Rattle.std.proofs.Common.{◌≡◌, ℕ, suc, ◌+◌, ◌<◌, max, Bool, true, false, cond, ltb, List, [], ◌∷◌, length, get_or, Some, None, Option, refl, ap, ap₂, ◌∙◌, arith, is_some, length-drop}
use Rattle.std.proofs.lemmas.Bool.{lt-ltb, ltb-true}
use Rattle.terms.specs.declared.operator.Operator.TheVariants.{Equal}
use Rattle.terms.specs.declared.operator.Operands.{Operands}
use Rattle.terms.specs.declared.operator.Operands.TheVariants.{None as Nothing, One, Two, Three}
use Rattle.terms.specs.declared.row.Row.{Row}
use Rattle.terms.specs.declared.row.Row.TheVariants.{Constant, Mention, Operator as Applied}
use Rattle.terms.specs.Operators.{signature_of, arity}
use Rattle.terms.specs.Terms.{Algebra, onto, fold}
use Rattle.reckoning.proofs.Relating.{related, entry}
use Rattle.flow.proofs.Leading.{never}
use Rattle.checking.specs.Nesting.{deeper, deepest, raised, nesting, single, writes_term}
use Rattle.sheets.specs.Sheets.{CellTerm}
use Rattle.sheets.specs.PathSheets.{equated}

-- ---- as many entries, whatever is made of the rows
length-fold : {M X Y : Type 0} (g : Algebra M X) (h : Algebra M Y) (rs : List (Row M)) → length (fold g rs) ≡ length (fold h rs)
length-fold g h [] = refl
length-fold g h (Constant z ∷ rs) = ap suc (length-fold g h rs)
length-fold g h (Mention m ∷ rs) = ap suc (length-fold g h rs)
length-fold g h (Applied o ∷ rs) = omega (arith, length-fold g h rs, length-drop (arity o) (fold g rs), length-drop (arity o) (fold h rs))

-- ---- under a higher limit a nesting stays
abbrev Stays : Option ℕ → Option ℕ → Type 0
Stays x y = (n : ℕ) → x ≡ Some n → y ≡ Some n

deeper_stays : (a b c d : Option ℕ) → Stays a c → Stays b d → Stays (deeper a b) (deeper c d)
deeper_stays None b c d p q n e = never (ap is_some e)
deeper_stays (Some k) None c d p q n e = never (ap is_some e)
deeper_stays (Some k) (Some l) c d p q n e = ap₂ deeper (p k refl) (q l refl) ∙ e

deepest_stays : (ops : Operands) (a b c x y z : Option ℕ) → Stays a x → Stays b y → Stays c z → Stays (deepest ops a b c) (deepest ops x y z)
deepest_stays Nothing a b c x y z p q r = λ n e. e
deepest_stays (One s) a b c x y z p q r = p
deepest_stays (Two s t) a b c x y z p q r = deeper_stays a b x y p q
deepest_stays (Three s t u) a b c x y z p q r = deeper_stays a (deeper b c) x (deeper y z) p (deeper_stays b c y z q r)

-- a nesting under 32, and the same under 33
abbrev Within : Option ℕ → Option ℕ → Type 0
Within x y = (n : ℕ) → x ≡ Some n → (y ≡ Some n) × (n < 33)

raised_within : (a b : Option ℕ) → Stays a b → Within (raised 32 a) (raised 33 b)
raised_within None b p n e = never (ap is_some e)
raised_within (Some k) b p n e = go (ltb k 32) refl e
  where
    go : (t : Bool) → ltb k 32 ≡ t → cond t (Some (k + 1)) None ≡ Some n → (raised 33 b ≡ Some n) × (n < 33)
    go true is e =
        let small : k < 32 = ltb-true k 32 is in
        let same : k + 1 ≡ n = cc in
        (ap (raised 33) (p k refl) ∙ ap (λ t. cond t (Some (k + 1)) None) (lt-ltb k 33 (omega arith)) ∙ e, omega arith)
    go false is e = never (ap is_some e)

nested : {M : Type 0} (rs : List (Row M)) (k : ℕ) → Within (entry (nesting 32) rs k) (entry (nesting 33) rs k)
nested rs k = related (nesting 32) (nesting 33) (nesting 33) (λ x y _. Within x y) (λ _. Unit {0}) (λ r rs p. tt)
    (λ n e. never (ap is_some e)) (λ z rs p. raised_within (Some 0) (Some 0) (λ n e. e)) (λ m rs p. raised_within (Some 0) (Some 0) (λ n e. e))
    (λ o rs p h. raised_within _ _ (deepest_stays (signature_of o).operands _ _ _ _ _ _ (λ n e. (h 0 n e).0) (λ n e. (h 1 n e).0) (λ n e. (h 2 n e).0))) rs tt k

single_is : (ns : List (Option ℕ)) → single ns ≡ true → (n : ℕ) × (ns ≡ Some n ∷ [])
single_is [] e = never e
single_is (None ∷ ns) e = never e
single_is (Some n ∷ []) e = (n, refl)
single_is (Some n ∷ m ∷ ns) e = never e

one_entry : {X : Type 0} (xs : List X) (d x : X) → length xs ≡ 1 → get_or xs 0 d ≡ x → xs ≡ x ∷ []
one_entry [] d x l e = absurd (omega arith)
one_entry (y ∷ []) d x l e = ap (λ z. z ∷ []) e
one_entry (y ∷ z ∷ xs) d x l e = absurd (omega arith)

whole : {M : Type 0} (e : List (Row M)) → writes_term 32 e ≡ true → (n : ℕ) × (n < 33) × (fold (nesting 33) e ≡ Some n ∷ [])
whole e h =
    let s = single_is (fold (nesting 32) e) h in
    let w = nested e 0 s.0 (ap (λ st. get_or st 0 None) s.1) in
    (s.0, w.1, one_entry (fold (nesting 33) e) None (Some s.0) (length-fold (nesting 33) (nesting 32) e ∙ ap length s.1) w.0)

-- ---- what a sheet allows
pub writes_deeper : {M : Type 0} (e : List (Row M)) → writes_term 32 e ≡ true → writes_term 33 e ≡ true
writes_deeper e h = ap single (whole e h).2

pub writes_equated : (c : ℕ) (e : CellTerm) → writes_term 32 e ≡ true → writes_term 33 (equated c e) ≡ true
writes_equated c e h =
    let w = whole e h in
    ap (λ st. single (onto {M = ℕ} (nesting 33) (Applied Equal) (Some 1 ∷ st))) w.2 ∙ ap (λ t. single (cond t (Some (max 1 w.0 + 1)) None ∷ [])) (lt-ltb (max 1 w.0) 33 (omega (arith, w.1)))
