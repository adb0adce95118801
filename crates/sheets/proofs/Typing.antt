-- Numbers of their types, and within the bounds of cells.
use Rattle.std.proofs.Common.{◌≡◌, ℕ, suc, ◌*◌, true, ◌&&◌, List, [], ◌∷◌, ◌++◌, map, length, ℤ, None, refl, ap, ◌∙◌, arith}
use Rattle.std.proofs.lemmas.Bool.{and_parts, and_from}
use Rattle.std.proofs.lemmas.List.{length-map}
use Rattle.reckoning.specs.Ranges.{between, within}
use Rattle.flow.proofs.Leading.{never}
use Rattle.jcode.specs.declared.variable.Domain.{Domain}
use Rattle.jcode.specs.Sentences.{Sentence, New}
use Rattle.jcode.specs.Units.{JUnit}
use Rattle.checking.specs.Types.{domains, domain_bounds}
use Rattle.sheets.specs.declared.cell.Cell.{Cell}
use Rattle.sheets.specs.Runs.{are_of, with_shadows, types_at, Fitting, listed}
use Rattle.sheets.specs.PathSheets.{Progress, cell_of, cells_of}
use Rattle.sheets.specs.Valuations.{is_within}

-- ---- within the bounds of cells that stand one after another
pub length-within : (cs : List Cell) (v : List ℤ) → is_within cs v ≡ true → length v ≡ length cs
length-within [] [] h = refl
length-within [] (x ∷ v) h = never h
length-within (c ∷ cs) [] h = never h
length-within (c ∷ cs) (x ∷ v) h = ap suc (length-within cs v (and_parts _ _ h).1)

pub within_append : (cs ds : List Cell) (v w : List ℤ) → is_within cs v ≡ true → is_within ds w ≡ true → is_within (cs ++ ds) (v ++ w) ≡ true
within_append [] ds [] w h k = k
within_append [] ds (x ∷ v) w h k = never h
within_append (c ∷ cs) ds [] w h k = never h
within_append (c ∷ cs) ds (x ∷ v) w h k = let p = and_parts _ _ h in and_from _ _ p.0 (within_append cs ds v w p.1 k)

-- a valuation of them is cut in two
pub within_cut : (cs ds : List Cell) (v : List ℤ) → is_within (cs ++ ds) v ≡ true → (now : List ℤ) × (later : List ℤ) × (v ≡ now ++ later) × (is_within cs now ≡ true) × (is_within ds later ≡ true)
within_cut [] ds v h = ([], v, refl, refl, h)
within_cut (c ∷ cs) ds [] h = never h
within_cut (c ∷ cs) ds (x ∷ v) h =
    let p = and_parts _ _ h in
    let r = within_cut cs ds v p.1 in
    (x ∷ r.0, r.1, ap (λ l. x ∷ l) r.2, and_from _ _ p.0 r.3, r.4)

-- and where the place is known
pub within_split : (cs ds : List Cell) (v w : List ℤ) → length v ≡ length cs → is_within (cs ++ ds) (v ++ w) ≡ true → (is_within cs v ≡ true) × (is_within ds w ≡ true)
within_split [] ds [] w l h = (refl, h)
within_split [] ds (x ∷ v) w l h = absurd (omega arith)
within_split (c ∷ cs) ds [] w l h = absurd (omega arith)
within_split (c ∷ cs) ds (x ∷ v) w l h =
    let same : length v ≡ length cs = omega arith in
    let p = and_parts _ _ h in
    let r = within_split cs ds v w same p.1 in
    (and_from _ _ p.0 r.0, r.1)

-- ---- the cells that a statement adds have the types of what it gives
abbrev pub unset : Cell → Cell
unset c = record c { set_by = None }

pub unset_all : (ds : List Domain) → map unset (map (cell_of None) ds) ≡ map (cell_of None) ds
unset_all [] = refl
unset_all (d ∷ ds) = ap (λ cs. cell_of None d ∷ cs) (unset_all ds)

pub unset_cells_of : {T : Type 0} (u : JUnit) (w : Progress) (st : Sentence T) → map unset (cells_of u w st) ≡ map (cell_of None) (types_at u (listed st))
unset_cells_of u w (New vs e t) = unset_all (types_at u vs)
unset_cells_of u w st = refl

within_unset : (cs : List Cell) (v : List ℤ) → is_within cs v ≡ is_within (map unset cs) v
within_unset [] v = refl
within_unset (c ∷ cs) [] = refl
within_unset (c ∷ cs) (x ∷ v) = ap (λ b. within (between c.low c.high) x && b) (within_unset cs v)

pub within_typed : (ds : List Domain) (v : List ℤ) → is_within (map (cell_of None) ds) v ≡ are_of ds v
within_typed [] [] = refl
within_typed [] (x ∷ v) = refl
within_typed (d ∷ ds) [] = refl
within_typed (d ∷ ds) (x ∷ v) = ap (λ b. within (domain_bounds d) x && b) (within_typed ds v)

pub within_cells_of : {T : Type 0} (u : JUnit) (w : Progress) (st : Sentence T) (v : List ℤ) → is_within (cells_of u w st) v ≡ are_of (types_at u (listed st)) v
within_cells_of u w st v = within_unset (cells_of u w st) v ∙ ap (λ cs. is_within cs v) (unset_cells_of u w st) ∙ within_typed (types_at u (listed st)) v

-- ---- two numbers for each variable
pub length-are_of : (ds : List Domain) (v : List ℤ) → are_of ds v ≡ true → length v ≡ length ds
length-are_of [] [] h = refl
length-are_of [] (x ∷ v) h = never h
length-are_of (d ∷ ds) [] h = never h
length-are_of (d ∷ ds) (x ∷ v) h = ap suc (length-are_of ds v (and_parts _ _ h).1)

pub length-with_shadows : (ds : List Domain) → length (with_shadows ds) ≡ 2 * length ds
length-with_shadows [] = refl
length-with_shadows (d ∷ ds) = omega (arith, length-with_shadows ds)

pub length-types_at : (u : JUnit) (vs : List ℕ) → length (types_at u vs) ≡ 2 * length vs
length-types_at u [] = refl
length-types_at u (v ∷ vs) = omega (arith, length-types_at u vs)

pub length-domains : (u : JUnit) → length (domains u) ≡ length u.variables
length-domains u = length-map u.variables (λ d. d.domain)

pub length-fitting : (u : JUnit) (s : List ℤ) → Fitting u s → length s ≡ 2 * length u.variables
length-fitting u s h = length-are_of (with_shadows (domains u)) s h ∙ length-with_shadows (domains u) ∙ ap (λ n. 2 * n) (length-domains u)
