-- What the trier owes beyond the law: when it is sure, after how many tries, and that it proposes what comes soonest.
use Rattle.std.proofs.Common.{◌≡◌, ◌≢◌, ◌⊎◌, ◌↔◌, ℕ, zero, suc, ◌+◌, ◌*◌, ◌<◌, ◌≤◌, Bool, true, false, cond, not, ◌&&◌, List, [], ◌∷◌, ◌++◌, length, map, take, drop, get_or, ℤ, pos, ◌+ℤ◌, ◌-ℤ◌, ◌≤ℤ◌, ◌<ℤ◌, Some, None, Option, refl, sym, ap, ◌∙◌, subst, inl, inr, arith}
use Rattle.std.specs.Prelude.{nat_le, int_le, filter, unsigned_abs}
use Rattle.std.specs.List.{flat_map, slice_get, enumerate_from}
use Rattle.std.specs.Option.{option_or}
use Rattle.std.proofs.Math.Nat.{mul-le-mul_right}
use Rattle.std.proofs.lemmas.Int.{ints, by_lt_z}
use Rattle.std.proofs.lemmas.List.{length-append, length-drop, take_all, take_more, length_push, get_or_append_left, get_or_push, ext_get_or}
use Rattle.std.proofs.lemmas.Option.{slice_get_within, get_or_from_slice_get}
use Rattle.std.proofs.lemmas.Bool.{and_parts, and_from, leb-true, le-leb, true≢false}
use Rattle.terms.specs.Terms.{value}
use Rattle.reckoning.specs.Comparing.{is_most}
use Rattle.sheets.specs.declared.cell.Cell.{Cell}
use Rattle.sheets.specs.Sheets.{CellTerm, Condition, part, setting_term, is_bound, is_bounded, Keeps}
use Rattle.sheets.specs.Valuations.{cell_in, Within, GoalAloneFalse, Falsifies, allows}
use Rattle.sheets.specs.Judges.{passed, failed, unsure}
use Rattle.judges.specs.Tries.{occurs, gap, ascending, above, top, Try, next_from, tries_from, first, ranges, ways, is_refuted, proposed, trier, product, is_set, is_free, choices, Sooner, Idle, Settles}
use Rattle.judges.specs.Keeping.{at_each, same_numbers, within_length}
use Rattle.judges.specs.Trying.{never, Among, numbers, first-append, first_next, Each, each_more, comes_next, takes, tried, none_found, when_passed}
use Rattle.judges.proofs.Counting.{ways_some}

clash : {X : Type 0} → false ≡ true → X
clash e = absurd (true≢false (sym e))

ascending_within : (n m : ℤ) (k : ℕ) → Among n (ascending m k) → (m ≤ℤ n) × (int_le (m +ℤ pos k) n ≡ false)
ascending_within n m zero h = absurd h
ascending_within n m (suc k) h =
    elim h [
      | inl e ↦ (omega (arith, ints), grind (arith, ints))
      | inr t ↦ let r = ascending_within n (m +ℤ pos 1) k t in (omega (arith, ints), grind (arith, ints, r.0, r.1))
    ]

above_within : (n low high : ℤ) → low ≤ℤ high → Among n (low ∷ above low high) → (low ≤ℤ n) × (n ≤ℤ high)
above_within n low high up h =
    elim h [
      | inl e ↦ (omega (arith, ints), omega (arith, ints))
      | inr t ↦ let r = ascending_within n (low +ℤ pos 1) (gap low high) t in (omega (arith, ints, r.0), grind (arith, ints, r.1))
    ]

-- each number of a list comes sooner than those after it
abbrev Rising : List ℤ → Type 0
Rising [] = Unit {0}
Rising (n ∷ ns) = ((m : ℤ) → Among m ns → n <ℤ m) × Rising ns

rising_ascending : (n : ℤ) (k : ℕ) → Rising (ascending n k)
rising_ascending n zero = tt
rising_ascending n (suc k) = (λ m h. let r = ascending_within m (n +ℤ pos 1) k h in omega (arith, ints, r.0), rising_ascending (n +ℤ pos 1) k)

rising_numbers : (s : Condition) (o : Option ℕ) (c : Cell) (lower : List ℤ) → Rising (numbers s o c lower)
rising_numbers s None c lower = rising_ascending c.low (suc (gap c.low (top (occurs s.parts (length lower)) None c)))
rising_numbers s (Some p) c lower = go (allows c (value (cell_in lower) (setting_term (part s p))))
  where
    go : (b : Bool) → Rising (cond b (value (cell_in lower) (setting_term (part s p)) ∷ []) [])
    go true = (λ m h. absurd h, tt)
    go false = tt

-- what is found in the tries of several numbers is found in those of one, and in none that come sooner
found_in_one : (s : Condition) (f : ℤ → List Try) (ns : List ℤ) → Rising ns → (v : List ℤ) → first s (flat_map f ns) ≡ Some v
    → (n : ℤ) × Among n ns × (first s (f n) ≡ Some v) × ((m : ℤ) → Among m ns → m <ℤ n → first s (f m) ≡ None)
found_in_one s f [] up v e = never v e
found_in_one s f (m ∷ ns) up v e = go (first s (f m)) refl (sym (first-append s (f m) (flat_map f ns)) ∙ e) (found_in_one s f ns up.1 v)
  where
    Found : List ℤ → Type 0
    Found ks = (n : ℤ) × Among n ks × (first s (f n) ≡ Some v) × ((k : ℤ) → Among k ks → k <ℤ n → first s (f k) ≡ None)

    go : (o : Option (List ℤ)) → first s (f m) ≡ o → option_or o (first s (flat_map f ns)) ≡ Some v → (first s (flat_map f ns) ≡ Some v → Found ns) → Found (m ∷ ns)
    go (Some w) is e rest =
        (m, inl refl, is ∙ e, λ k h lt. elim h [ inl same ↦ absurd (omega (arith, ints)) | inr t ↦ let later = up.0 k t in absurd (omega (arith, ints)) ])
    go None is e rest = let r = rest e in (r.0, inr r.1, r.2, λ k h lt. elim h [ inl same ↦ ap (λ i. first s (f i)) (sym same) ∙ is | inr t ↦ r.3 k t lt ])

-- the last try is found if it is refuted
one_found : (s : Condition) (lower v : List ℤ) → first s (Some lower ∷ []) ≡ Some v → (lower ≡ v) × (is_refuted lower s.parts ≡ true)
one_found s lower v = go (is_refuted lower s.parts) refl
  where
    go : (b : Bool) → is_refuted lower s.parts ≡ b → cond b (Some lower) None ≡ Some v → (lower ≡ v) × (is_refuted lower s.parts ≡ true)
    go true is e = (cc, is)
    go false is e = never v e

-- a test of refutation tells that the goal alone is false
refutes : (v : List ℤ) (es : List CellTerm) → is_refuted v es ≡ true → GoalAloneFalse v es
refutes v [] e = clash e
refutes v (g ∷ []) e = same_numbers _ _ e
refutes v (g ∷ h ∷ es) e = let t = and_parts _ _ e in (same_numbers _ _ t.0, refutes v (h ∷ es) t.1)

within_push : (ds : List Cell) (w : List ℤ) (c : Cell) (n : ℤ) → Within ds w → allows c n ≡ true → Within (ds ++ c ∷ []) (w ++ n ∷ [])
within_push [] [] c n within inside = and_from _ _ inside refl
within_push [] (m ∷ w) c n within inside = clash within
within_push (d ∷ ds) [] c n within inside = clash within
within_push (d ∷ ds) (m ∷ w) c n within inside = let t = and_parts _ _ within in and_from _ _ t.0 (within_push ds w c n t.1 inside)

-- a cell is tried with numbers within its bounds
number_inside : (s : Condition) (o : Option ℕ) (c : Cell) (lower : List ℤ) (n : ℤ) → int_le c.low c.high ≡ true → Among n (numbers s o c lower) → allows c n ≡ true
number_inside s None c lower n up h = go (occurs s.parts (length lower)) h
  where
    go : (b : Bool) → Among n (c.low ∷ above c.low (cond b c.high c.low)) → allows c n ≡ true
    go true h = let r = above_within n c.low c.high (is_most _ _ up) h in grind (arith, ints, r.0, r.1)
    go false h = let r = above_within n c.low c.low (omega (arith, ints)) h in grind (arith, ints, r.0, r.1)
number_inside s (Some p) c lower n up h = go (allows c (value (cell_in lower) (setting_term (part s p)))) refl h
  where
    go : (b : Bool) → allows c (value (cell_in lower) (setting_term (part s p))) ≡ b → Among n (cond b (value (cell_in lower) (setting_term (part s p)) ∷ []) []) → allows c n ≡ true
    go true is h = elim h [ inl same ↦ ap (allows c) (sym same) ∙ is | inr none ↦ absurd none ]
    go false is h = absurd h

-- one that no part sets and no row mentions, with its low alone
number_idle : (s : Condition) (o : Option ℕ) (c : Cell) (lower : List ℤ) (n : ℤ) → o ≡ None → occurs s.parts (length lower) ≡ false → Among n (numbers s o c lower) → n ≡ c.low
number_idle s None c lower n is idle h =
    let at : Among n (c.low ∷ above c.low (cond false c.high c.low)) = subst (λ b. Among n (c.low ∷ above c.low (cond b c.high c.low))) idle h in
    let r = above_within n c.low c.low (omega (arith, ints)) at in
    omega (arith, ints, r.0, r.1)
number_idle s (Some p) c lower n is idle h = never p (sym is)

module _ (s : Condition) (keeps : Keeps s) (v : List ℤ) where
  -- a cell that no part sets and no row mentions is at its low
  abbrev AtLow : ℕ → ℤ → Type 0
  AtLow i n = (c : Cell) → slice_get s.cells i ≡ Some c → c.set_by ≡ None → occurs s.parts i ≡ false → n ≡ c.low

  -- a try that is found is a valuation that falsifies
  found_falsifies : (cs : List Cell) (lower : List ℤ) → cs ≡ drop (length lower) s.cells → length lower ≤ length s.cells → Within (take (length lower) s.cells) lower → Each AtLow lower
      → first s (tries_from s cs lower) ≡ Some v → Falsifies s v × Idle s v
  found_falsifies [] lower at le within low found =
      let one = one_found s lower v found in
      let long : length lower ≡ length s.cells = omega (arith, ap length at ∙ length-drop (length lower) s.cells) in
      let all : Within s.cells lower = subst (λ cs. Within cs lower) (take_all (length lower) s.cells (omega (arith, long))) within in
      subst (λ w. Falsifies s w × Idle s w) one.0
      ((all, refutes lower s.parts one.1), λ i c at. low i (let lt = slice_get_within s.cells i c at in omega (arith, long, lt)) c at)
  found_falsifies (c ∷ cs) lower at le within low found =
      let i = length lower in
      let next = comes_next s c cs lower at in
      let one = found_in_one s (λ m. tries_from s cs (lower ++ m ∷ [])) (numbers s c.set_by c lower) (rising_numbers s c.set_by c lower) v (sym (first_next s (tries_from s cs) c.set_by c lower) ∙ found) in
      let is : get_or s.cells i c ≡ c = get_or_from_slice_get s.cells i c c next.here in
      let up : int_le c.low c.high ≡ true = (and_parts (is_bound c.kind c.low && is_bound c.kind c.high) _ (ap is_bounded (sym is) ∙ at_each is_bounded s.cells i c keeps.bounded next.inside)).1 in
      let inside = number_inside s c.set_by c lower one.0 up one.1 in
      let more : take (length (lower ++ one.0 ∷ [])) s.cells ≡ take i s.cells ++ c ∷ [] = ap (λ j. take j s.cells) (length_push lower one.0) ∙ take_more s.cells i c next.inside ∙ ap (λ d. take i s.cells ++ d ∷ []) is in
      let low_here : AtLow i one.0 = λ d there unset idle. let same : c ≡ d = cc (next.here, there) in number_idle s c.set_by c lower one.0 (ap (λ d. d.set_by) same ∙ unset) idle one.1 ∙ ap (λ d. d.low) same in
      found_falsifies cs (lower ++ one.0 ∷ []) (next.rest one.0) (next.short one.0)
      (subst (λ cs. Within cs (lower ++ one.0 ∷ [])) (sym more) (within_push (take i s.cells) lower c one.0 within inside)) (each_more AtLow lower one.0 low low_here) one.2

  -- and it begins with the numbers of the lower cells
  begins : (cs : List Cell) (lower : List ℤ) → first s (tries_from s cs lower) ≡ Some v → Each (λ i n. n ≡ cell_in v i) lower
  begins [] lower found = λ i lt. ap (λ w. cell_in w i) (one_found s lower v found).0
  begins (c ∷ cs) lower found =
      let one = found_in_one s (λ m. tries_from s cs (lower ++ m ∷ [])) (numbers s c.set_by c lower) (rising_numbers s c.set_by c lower) v (sym (first_next s (tries_from s cs) c.set_by c lower) ∙ found) in
      λ i lt. sym (get_or_append_left lower (one.0 ∷ []) (pos 0) i lt) ∙ begins cs (lower ++ one.0 ∷ []) one.2 i (omega (arith, length_push lower one.0))

  -- no other that falsifies comes sooner
  module _ (w : List ℤ) (f : Falsifies s w) (idle : Idle s w) where
    abbrev Same : ℕ → ℤ → Type 0
    Same i n = n ≡ cell_in w i

    found_soonest : (cs : List Cell) (lower : List ℤ) → cs ≡ drop (length lower) s.cells → length lower ≤ length s.cells → Each Same lower → first s (tries_from s cs lower) ≡ Some v → (w ≡ v) ⊎ Sooner v w
    found_soonest [] lower at le same found =
        let long : length w ≡ length lower = omega (arith, ap length at ∙ length-drop (length lower) s.cells, within_length s.cells w f.0) in
        inl (ext_get_or (pos 0) w lower long (λ i lt. sym (same i (omega (arith, long)))) ∙ (one_found s lower v found).0)
    found_soonest (c ∷ cs) lower at le same found =
        let i = length lower in
        let n = cell_in w i in
        let next = comes_next s c cs lower at in
        let ns = numbers s c.set_by c lower in
        let taken = takes s keeps w f c lower next.here (λ j lt o. same j lt) c.set_by next.set in
        let is : taken.0 ≡ n = elim taken.2 [ inl is ↦ is | inr low ↦ low.2 ∙ sym (idle i c next.here low.0 low.1) ] in
        let among : Among n ns = subst (λ m. Among m ns) is taken.1 in
        let one = found_in_one s (λ m. tries_from s cs (lower ++ m ∷ [])) ns (rising_numbers s c.set_by c lower) v (sym (first_next s (tries_from s cs) c.set_by c lower) ∙ found) in
        let begun = begins cs (lower ++ one.0 ∷ []) one.2 in
        by_lt_z n one.0 (λ less. absurd (tried s keeps w f cs (lower ++ n ∷ []) (next.rest n) (next.short n) (λ j lt o. each_more Same lower n same refl j lt) (one.3 n among less)))
        (λ le. by_lt_z one.0 n
        (λ less.
        let here : one.0 ≡ cell_in v i = sym (get_or_push lower one.0 (pos 0) i refl) ∙ begun i (omega (arith, length_push lower one.0)) in
        inr (i, λ j lt. sym (begun j (omega (arith, length_push lower one.0))) ∙ get_or_append_left lower (one.0 ∷ []) (pos 0) j lt ∙ same j lt, subst (λ m. m <ℤ n) here less))
        (λ ge. let both : one.0 ≡ n = omega (arith, ints) in found_soonest cs (lower ++ one.0 ∷ []) (next.rest one.0) (next.short one.0) (each_more Same lower one.0 same both) one.2))

-- There are no more tries than ways to choose numbers.
length-ascending : (n : ℤ) (k : ℕ) → length (ascending n k) ≡ k
length-ascending n zero = refl
length-ascending n (suc k) = ap suc (length-ascending (n +ℤ pos 1) k)

parts_few : {X : Type 0} (f : ℤ → List X) (w : ℕ) → ((n : ℤ) → length (f n) ≤ w) → (ns : List ℤ) → length (flat_map f ns) ≤ length ns * w
parts_few f w each [] = omega arith
parts_few f w each (n ∷ ns) = let here = each n in let rest = parts_few f w each ns in omega (arith, length-append (f n) (flat_map f ns))

next_few : (s : Condition) (go : List ℤ → List Try) (w : ℕ) → 0 < w → (o : Option ℕ) (c : Cell) (lower : List ℤ) → ((n : ℤ) → length (go (lower ++ n ∷ [])) ≤ w)
    → length (next_from go s o c lower) ≤ (gap c.low (top (occurs s.parts (length lower)) o c) + 1) * w
next_few s go w some None c lower each =
    let high = top (occurs s.parts (length lower)) None c in
    let all = parts_few (λ n. go (lower ++ n ∷ [])) w each (c.low ∷ above c.low high) in
    subst (λ k. length (flat_map (λ n. go (lower ++ n ∷ [])) (c.low ∷ above c.low high)) ≤ k * w) (let e = length-ascending (c.low +ℤ pos 1) (gap c.low high) in omega arith) all
next_few s go w some (Some p) c lower each = by (allows c n)
  where
    n : ℤ
    n = value (cell_in lower) (setting_term (part s p))

    one : 1 * w ≤ (gap c.low c.low + 1) * w
    one = mul-le-mul_right w (omega arith)

    by : (b : Bool) → length (cond b (go (lower ++ n ∷ [])) (None ∷ [])) ≤ (gap c.low c.low + 1) * w
    by true = let here = each n in omega (arith, one)
    by false = omega (arith, one)

tries_few : (s : Condition) (cs : List Cell) (lower : List ℤ) → length (tries_from s cs lower) ≤ ways (ranges s.parts (length lower) cs)
tries_few s [] lower = omega arith
tries_few s (c ∷ cs) lower =
    next_few s (tries_from s cs) (ways (ranges s.parts (length lower + 1) cs)) (ways_some (ranges s.parts (length lower + 1) cs)) c.set_by c lower
    (λ n. subst (λ i. length (tries_from s cs (lower ++ n ∷ [])) ≤ ways (ranges s.parts i cs)) (length_push lower n) (tries_few s cs (lower ++ n ∷ [])))

-- And so many ways are there as choices.
abbrev chosen : List (ℕ × Cell) → ℕ
chosen es = product (map (λ e. unsigned_abs (e.1.high -ℤ e.1.low) + 1) es)

one_chosen : (i w : ℕ) (c : Cell) (more : List (ℕ × Cell)) → w ≡ chosen more → (o : Option ℕ) (b : Bool) → (gap c.low (top b o c) + 1) * w ≡ chosen (cond (not (is_set o) && b) ((i, c) ∷ more) more)
one_chosen i w c more rest None true = ap (λ k. (gap c.low c.high + 1) * k) rest
one_chosen i w c more rest None false = let none : gap c.low c.low ≡ 0 = grind (arith, ints) in ap (λ k. (k + 1) * w) none ∙ omega (arith, rest)
one_chosen i w c more rest (Some p) b = let none : gap c.low c.low ≡ 0 = grind (arith, ints) in ap (λ k. (k + 1) * w) none ∙ omega (arith, rest)

ways_chosen : (parts : List CellTerm) (i : ℕ) (cs : List Cell) → ways (ranges parts i cs) ≡ chosen (filter (is_free parts) (enumerate_from i cs))
ways_chosen parts i [] = refl
ways_chosen parts i (c ∷ cs) = one_chosen i (ways (ranges parts (i + 1) cs)) c (filter (is_free parts) (enumerate_from (i + 1) cs)) (ways_chosen parts (i + 1) cs) c.set_by (occurs parts i)

pub ways_are_choices : (s : Condition) → ways (ranges s.parts 0 s.cells) ≡ choices s
ways_are_choices s = ways_chosen s.parts 0 s.cells

when_failed : (o : Option (List ℤ)) (b : Bool) (v : List ℤ) → cond b (proposed o) unsure ≡ failed v → o ≡ Some v
when_failed None true v e = absurd (let z : ◌≡◌ {A = ℕ} 0 1 = cc in omega arith)
when_failed None false v e = absurd (let z : ◌≡◌ {A = ℕ} 0 1 = cc in omega arith)
when_failed (Some w) true v e = ap Some (cc)
when_failed (Some w) false v e = absurd (let z : ◌≡◌ {A = ℕ} 0 1 = cc in omega arith)

when_nothing : (o : Option (List ℤ)) (b : Bool) → (cond b (proposed o) unsure ≢ unsure) → ((v : List ℤ) → o ≡ Some v → ⊥) → cond b (proposed o) unsure ≡ passed
when_nothing None true sure lost = refl
when_nothing (Some v) b sure lost = absurd (lost v refl)
when_nothing None false sure lost = absurd (sure refl)

when_sure : (o : Option (List ℤ)) (b : Bool) → (cond b (proposed o) unsure ≢ unsure) ↔ (b ≡ true)
when_sure None true = (λ h. refl, λ h e. absurd (let z : ◌≡◌ {A = ℕ} 0 1 = cc in omega arith))
when_sure (Some v) true = (λ h. refl, λ h e. absurd (let z : ◌≡◌ {A = ℕ} 0 1 = cc in omega arith))
when_sure o false = (λ h. absurd (h refl), λ h. clash h)

module _ (s : Condition) where
  abbrev found : Option (List ℤ)
  found = first s (tries_from s s.cells [])

  few : (trier s ≢ unsure) ↔ (ways (ranges s.parts 0 s.cells) ≤ 65536)
  few =
      let w = ways (ranges s.parts 0 s.cells) in
      let both = when_sure found (nat_le w 65536) in
      (λ sure. leb-true w 65536 (both.0 sure), λ le. both.1 (le-leb w 65536 le))

  module _ (keeps : Keeps s) where
    falsifies : (v : List ℤ) → found ≡ Some v → Falsifies s v × Idle s v
    falsifies v e = found_falsifies s keeps v s.cells [] refl (omega arith) refl (λ i lt. absurd (omega arith)) e

    soonest : (v : List ℤ) → found ≡ Some v → (w : List ℤ) → Falsifies s w → Idle s w → (w ≡ v) ⊎ Sooner v w
    soonest v e w f idle = found_soonest s keeps v w f idle s.cells [] refl (omega arith) (λ i lt. absurd (omega arith)) e

pub trier_settles : Settles trier
trier_settles = record {
  sure = λ s. let are = ways_are_choices s in (λ sure. let le = (few s).0 sure in omega arith, λ le. (few s).1 (omega arith));
  few = λ s sure. let le = (few s).0 sure in omega (arith, tries_few s s.cells []);
  proposes = λ s keeps v is. falsifies s keeps v (when_failed (found s) _ v is);
  soonest = λ s keeps v is. soonest s keeps v (when_failed (found s) _ v is);
  passes = λ s keeps is v f. none_found s keeps v f (when_passed (found s) _ is);
  passes_all = λ s keeps sure lost. when_nothing (found s) _ sure (λ v e. lost v (falsifies s keeps v e).0);
}
