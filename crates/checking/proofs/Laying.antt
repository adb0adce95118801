-- Terms that stand one after another and fill the row table are laid out as reading lays them out, and the other way round.
use Rattle.std.proofs.Common.{◌≡◌, ℕ, zero, suc, ◌+◌, ◌-◌, ◌≤◌, Bool, true, false, cond, ◌&&◌, eqb, leb, List, [], ◌∷◌, ◌++◌, map, length, take, drop, replicate, Some, None, Option, sym, refl, ap, ◌∙◌, ap₂, arith, length-append}
use Rattle.std.proofs.lemmas.List.{length-take, length-drop, take-append-drop, drop-drop, drop_all, drop_at, append_assoc, length-replicate}
use Rattle.std.proofs.lemmas.Bool.{and_parts, and_from, eqb-true, leb-true, eq-eqb, le-leb, cond-true}
use Rattle.jcode.specs.declared.statement.Listing.{Listing}
use Rattle.jcode.specs.declared.statement.Statement.{Statement}
use Rattle.jcode.specs.declared.statement.Statement.TheVariants as stands
use Rattle.jcode.specs.declared.statement.Term.{Term}
use Rattle.jcode.specs.ReadTerms.{UnitRow}
use Rattle.jcode.specs.ReadUnits.{laid_all, rows_all}
use Rattle.jcode.specs.Scopes.{listed_in}
use Rattle.jcode.specs.Sentences.{rows_of, listing_of, term_at, laid}
use Rattle.jcode.specs.Units.{term_in, sentence_in}
use Rattle.checking.specs.Layouts.{after_term, after_both, padded, after_statement, fills_from}
use Rattle.checking.specs.Pieces.{is_list}
use Rattle.checking.specs.Sentences.{keeps}
use Rattle.std.specs.List.{list_all}

-- a `Some` that a test gave
passed : {X : Type 0} (b : Bool) (x y : X) → cond b (Some x) None ≡ Some y → (b ≡ true) × (x ≡ y)
passed true x y e = (refl, cc)
passed false x y e = absurd (let z : ◌≡◌ {A = ℕ} 0 1 = cc in omega arith)

given : {X : Type 0} (b : Bool) (o : Option X) (y : X) → cond b o None ≡ Some y → (b ≡ true) × (o ≡ Some y)
given true o y e = (refl, e)
given false o y e = absurd (let z : ◌≡◌ {A = ℕ} 0 1 = cc in omega arith)

zeros : (xs : List ℕ) → list_all (λ v. eqb v 0) xs ≡ true → xs ≡ replicate (length xs) 0
zeros [] e = refl
zeros (x ∷ xs) e = let h = and_parts (eqb x 0) (list_all (λ v. eqb v 0) xs) e in ap₂ ◌∷◌ (eqb-true x 0 h.0) (zeros xs h.1)

-- a padded list is what its listed numbers make
listed_again : (l : Listing) → padded l ≡ true → listing_of (listed_in l) ≡ l
listed_again l e =
    let h = and_parts (leb l.count 8) _ e in
    let k = and_parts (eqb (length l.variables) 8) _ h.1 in
    let few : l.count ≤ 8 = leb-true l.count 8 h.0 in
    let eight : length l.variables ≡ 8 = eqb-true (length l.variables) 8 k.0 in
    let long : length (take l.count l.variables) ≡ l.count = simp length-take (omega arith) in
    let rest : length (drop l.count l.variables) ≡ 8 - length (take l.count l.variables) = simp length-drop (omega arith) in
    let whole : take l.count l.variables ++ replicate (8 - length (take l.count l.variables)) 0 ≡ l.variables =
    ap (λ n. take l.count l.variables ++ replicate n 0) (sym rest) ∙ ap (λ xs. take l.count l.variables ++ xs) (sym (zeros (drop l.count l.variables) k.1)) ∙ take-append-drop l.count l.variables in
    ap₂ (λ vs n. record { variables = vs; count = n }) whole long

all_zero : (n : ℕ) → list_all (λ v. eqb v 0) (replicate n 0) ≡ true
all_zero zero = refl
all_zero (suc n) = all_zero n

again_listed : (l : Listing) → l ≡ listing_of (listed_in l) → length (listed_in l) ≤ 8 → padded l ≡ true
again_listed l is few =
    let n : l.count ≡ length (listed_in l) = ap (λ k. k.count) is in
    let vs : l.variables ≡ listed_in l ++ replicate (8 - length (listed_in l)) 0 = ap (λ k. k.variables) is in
    let eight : length l.variables ≡ 8 = ap length vs ∙ simp (length-append, length-replicate) (omega arith) in
    let rest : drop l.count l.variables ≡ replicate (8 - length (listed_in l)) 0 = ap (drop l.count) vs ∙ drop_at (listed_in l) (replicate (8 - length (listed_in l)) 0) l.count (sym n) in
    and_from (leb l.count 8) _ (le-leb l.count 8 (omega arith)) (and_from (eqb (length l.variables) 8) _ (eq-eqb (length l.variables) 8 eight) (ap (list_all (λ v. eqb v 0)) rest ∙ all_zero (8 - length (listed_in l))))

module _ (rows : List UnitRow) where
  -- where a term stands at a place, what is left of the table begins with its rows
  pub record Stands (used : ℕ) (e : Term) (next : ℕ) : Type 0 where
    pub term : term_at used (term_in rows e) ≡ e
    pub moved : next ≡ used + length (term_in rows e)
    pub inside : next ≤ length rows
    pub split : drop used rows ≡ term_in rows e ++ drop next rows

  stands_term : (used next : ℕ) (e : Term) → after_term (length rows) used e ≡ Some next → Stands used e next
  stands_term used next e is =
      let p = passed (eqb e.first used && leb (used + e.rows) (length rows)) (used + e.rows) next is in
      let q = and_parts (eqb e.first used) (leb (used + e.rows) (length rows)) p.0 in
      let here : e.first ≡ used = eqb-true e.first used q.0 in
      let in-it : used + e.rows ≤ length rows = leb-true (used + e.rows) (length rows) q.1 in
      let long : length (term_in rows e) ≡ e.rows = simp (length-take, length-drop) (omega arith) in
      record {
        term = ap₂ (λ f n. record { first = f; rows = n }) (sym here) long;
        moved = omega (arith, p.1, long);
        inside = omega (arith, p.1);
        split = sym (ap (λ i. take e.rows (drop i rows) ++ drop next rows) here ∙ ap (λ n. take e.rows (drop used rows) ++ drop n rows) (sym p.1) ∙ ap (λ xs. take e.rows (drop used rows) ++ xs) (sym (drop-drop e.rows used rows)) ∙ take-append-drop e.rows (drop used rows));
      }

  -- and so for a statement's terms
  pub record Laid (used : ℕ) (s : Statement) (next : ℕ) : Type 0 where
    pub same : laid used (sentence_in rows s) ≡ s
    pub moved : next ≡ used + length (rows_of (sentence_in rows s))
    pub inside : next ≤ length rows
    pub split : drop used rows ≡ rows_of (sentence_in rows s) ++ drop next rows

  none_laid : (used next : ℕ) → used ≤ length rows → Some used ≡ Some next → (next ≡ used + 0) × (next ≤ length rows) × (drop used rows ≡ drop next rows)
  none_laid used next le is = let e : used ≡ next = cc in (omega arith, omega arith, ap (λ i. drop i rows) e)

  by_first : (used next : ℕ) (f : Term) (o : Option ℕ) → after_both (length rows) o f ≡ Some next → (mid : ℕ) × (o ≡ Some mid) × (after_term (length rows) mid f ≡ Some next)
  by_first used next f None is = absurd (let z : ◌≡◌ {A = ℕ} 0 1 = cc in omega arith)
  by_first used next f (Some mid) is = (mid, refl, is)

  laid_both : (used next v : ℕ) (e f : Term) → after_both (length rows) (after_term (length rows) used e) f ≡ Some next → Laid used (stands.Assign v e f) next
  laid_both used next v e f is =
      let b = by_first used next f (after_term (length rows) used e) is in
      let p = stands_term used b.0 e b.1 in
      let q = stands_term b.0 next f b.2 in
      record {
        same = ap₂ (stands.Assign v) p.term (ap (λ i. term_at i (term_in rows f)) (sym p.moved) ∙ q.term);
        moved = simp length-append (omega (arith, p.moved, q.moved));
        inside = q.inside;
        split = p.split ∙ ap (λ xs. term_in rows e ++ xs) q.split ∙ sym (append_assoc (term_in rows e) (term_in rows f) (drop next rows));
      }

  laid_statement : (used next : ℕ) (s : Statement) → used ≤ length rows → after_statement (length rows) used s ≡ Some next → Laid used s next
  laid_statement used next stands.Hang le is = let n = none_laid used next le is in record { same = refl; moved = n.0; inside = n.1; split = n.2 }
  laid_statement used next (stands.Break t) le is = let n = none_laid used next le is in record { same = refl; moved = n.0; inside = n.1; split = n.2 }
  laid_statement used next (stands.Require e t) le is = let p = stands_term used next e is in record { same = ap (λ x. stands.Require x t) p.term; moved = p.moved; inside = p.inside; split = p.split }
  laid_statement used next (stands.Proclaim e) le is = let p = stands_term used next e is in record { same = ap stands.Proclaim p.term; moved = p.moved; inside = p.inside; split = p.split }
  laid_statement used next (stands.New vs e t) le is =
      let g = given (padded vs) (after_term (length rows) used e) next is in
      let p = stands_term used next e g.1 in
      record { same = ap₂ (λ l x. stands.New l x t) (listed_again vs g.0) p.term; moved = p.moved; inside = p.inside; split = p.split }
  laid_statement used next (stands.Assign v e f) le is = laid_both used next v e f is
  laid_statement used next (stands.Split l) le is = let n = none_laid used next le is in record { same = refl; moved = n.0; inside = n.1; split = n.2 }
  laid_statement used next (stands.When e l) le is = let p = stands_term used next e is in record { same = ap (λ x. stands.When x l) p.term; moved = p.moved; inside = p.inside; split = p.split }
  laid_statement used next (stands.Branch t l) le is = let n = none_laid used next le is in record { same = refl; moved = n.0; inside = n.1; split = n.2 }
  laid_statement used next (stands.Join l) le is = let n = none_laid used next le is in record { same = refl; moved = n.0; inside = n.1; split = n.2 }

  abbrev LaidAll : ℕ → List Statement → Type 0
  LaidAll used ss = (ss ≡ laid_all used (map (sentence_in rows) ss)) × (drop used rows ≡ rows_all (map (sentence_in rows) ss))

  by_next : (used : ℕ) (s : Statement) (ss : List Statement) (o : Option ℕ) → used ≤ length rows → after_statement (length rows) used s ≡ o → fills_from (length rows) o ss ≡ true → ((next : ℕ) → next ≤ length rows → fills_from (length rows) (Some next) ss ≡ true → LaidAll next ss) → LaidAll used (s ∷ ss)
  by_next used s ss None le is e rest = absurd (let z : ◌≡◌ {A = ℕ} 0 1 = cc in omega arith)
  by_next used s ss (Some next) le is e rest =
      let l = laid_statement used next s le is in
      let more = rest next l.inside e in
      (ap₂ ◌∷◌ (sym l.same) (more.0 ∙ ap (λ n. laid_all n (map (sentence_in rows) ss)) l.moved), l.split ∙ ap (λ xs. rows_of (sentence_in rows s) ++ xs) more.1)

  pub laid_all_lem : (used : ℕ) (ss : List Statement) → used ≤ length rows → fills_from (length rows) (Some used) ss ≡ true → LaidAll used ss
  laid_all_lem used [] le e = (refl, drop_all used rows (let z : used ≡ length rows = eqb-true used (length rows) e in omega arith))
  laid_all_lem used (s ∷ ss) le e = by_next used s ss (after_statement (length rows) used s) le refl e (λ next in-it more. laid_all_lem next ss in-it more)

  -- a term of a laid statement stands where the rows before it end
  again_term : (used : ℕ) (e : Term) → used ≤ length rows → e ≡ term_at used (term_in rows e) → (after_term (length rows) used e ≡ Some (used + length (term_in rows e))) × (used + length (term_in rows e) ≤ length rows)
  again_term used e le is =
      let here : e.first ≡ used = ap (λ t. t.first) is in
      let long : e.rows ≡ length (term_in rows e) = ap (λ t. t.rows) is in
      let most : length (term_in rows e) ≤ length rows - e.first = simp (length-take, length-drop) (omega arith) in
      let in-it : used + e.rows ≤ length rows = omega arith in
      (cond-true (eqb e.first used && leb (used + e.rows) (length rows)) (Some (used + e.rows)) None (and_from (eqb e.first used) (leb (used + e.rows) (length rows)) (eq-eqb e.first used here) (le-leb (used + e.rows) (length rows) in-it)) ∙ ap (λ n. Some (used + n)) long, omega arith)

  abbrev Again : ℕ → Statement → Type 0
  Again used s = (after_statement (length rows) used s ≡ Some (used + length (rows_of (sentence_in rows s)))) × (used + length (rows_of (sentence_in rows s)) ≤ length rows)

  none_again : (used : ℕ) → used ≤ length rows → (Some used ≡ Some (used + 0)) × (used + 0 ≤ length rows)
  none_again used le = let e : used ≡ used + 0 = omega arith in (ap Some e, omega arith)

  both_again : (used v : ℕ) (e f : Term) → used ≤ length rows → e ≡ term_at used (term_in rows e) → f ≡ term_at (used + length (term_in rows e)) (term_in rows f) → Again used (stands.Assign v e f)
  both_again used v e f le is also =
      let p = again_term used e le is in
      let q = again_term (used + length (term_in rows e)) f p.1 also in
      let sum : used + length (term_in rows e) + length (term_in rows f) ≡ used + length (term_in rows e ++ term_in rows f) = simp length-append (omega arith) in
      (ap (λ o. after_both (length rows) o f) p.0 ∙ q.0 ∙ ap Some sum, omega (arith, q.1, sum))

  again_statement : (used : ℕ) (s : Statement) → used ≤ length rows → (bytes : List ℕ) (count : ℕ) → keeps bytes count (sentence_in rows s) ≡ true → s ≡ laid used (sentence_in rows s) → Again used s
  again_statement used stands.Hang le bytes count ok is = none_again used le
  again_statement used (stands.Break t) le bytes count ok is = none_again used le
  again_statement used (stands.Require e t) le bytes count ok is = again_term used e le (cc)
  again_statement used (stands.Proclaim e) le bytes count ok is = again_term used e le (cc)
  again_statement used (stands.New vs e t) le bytes count ok is =
      let listed : is_list count (listed_in vs) ≡ true = (and_parts (is_list count (listed_in vs)) _ ok).0 in
      let few : length (listed_in vs) ≤ 8 = leb-true (length (listed_in vs)) 8 (and_parts (leb (length (listed_in vs)) 8) _ listed).0 in
      let p = again_term used e le (cc) in
      (cond-true (padded vs) (after_term (length rows) used e) None (again_listed vs (cc) few) ∙ p.0, p.1)
  again_statement used (stands.Assign v e f) le bytes count ok is = both_again used v e f le (cc) (cc)
  again_statement used (stands.Split l) le bytes count ok is = none_again used le
  again_statement used (stands.When e l) le bytes count ok is = again_term used e le (cc)
  again_statement used (stands.Branch t l) le bytes count ok is = none_again used le
  again_statement used (stands.Join l) le bytes count ok is = none_again used le

  pub again_all : (bytes : List ℕ) (count used : ℕ) (ss : List Statement) → used ≤ length rows → list_all (keeps bytes count) (map (sentence_in rows) ss) ≡ true → LaidAll used ss → fills_from (length rows) (Some used) ss ≡ true
  again_all bytes count used [] le ok laid_out =
      let none : length rows - used ≡ 0 = sym (length-drop used rows) ∙ ap length laid_out.1 in
      eq-eqb used (length rows) (omega arith)
  again_all bytes count used (s ∷ ss) le ok laid_out =
      let k = and_parts (keeps bytes count (sentence_in rows s)) (list_all (keeps bytes count) (map (sentence_in rows) ss)) ok in
      let whole = laid_out.0 in
      let own = rows_of (sentence_in rows s) in
      let p = again_statement used s le bytes count k.0 (cc) in
      let left : drop (used + length own) rows ≡ rows_all (map (sentence_in rows) ss) = sym (drop-drop (length own) used rows) ∙ ap (drop (length own)) laid_out.1 ∙ drop_at own (rows_all (map (sentence_in rows) ss)) (length own) refl in
      let rest : ss ≡ laid_all (used + length own) (map (sentence_in rows) ss) = cc in
      ap (λ o. fills_from (length rows) o ss) p.0 ∙ again_all bytes count (used + length own) ss p.1 k.1 (rest, left)
