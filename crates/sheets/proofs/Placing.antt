-- The types of current cells are those of the entries of a store.
use Rattle.std.proofs.Common.{◌≡◌, ℕ, zero, suc, ◌+◌, ◌*◌, ◌<◌, List, [], ◌∷◌, ◌++◌, map, length, get_or, set, drop, Some, None, Option, refl, sym, ap, ap₂, ◌∙◌, arith}
use Rattle.std.proofs.lemmas.List.{length-map, map-append, get_or-map, set-get_or, drop_at}
use Rattle.std.proofs.lemmas.Option.{slice_get-get_or, slice_get-map}
use Rattle.std.proofs.ByRecursion.{All-weaker}
use Rattle.std.specs.List.{AllByRecursion as All, flat_map, slice_get}
use Rattle.std.specs.Option.{option_map}
use Rattle.reckoning.specs.Ranges.{between}
use Rattle.jcode.specs.declared.mention.Aspect.{Aspect}
use Rattle.jcode.specs.declared.mention.Aspect.TheVariants.{Value, Shadow}
use Rattle.jcode.specs.declared.mention.Mention.{Mention}
use Rattle.jcode.specs.declared.mention.Stage.{Stage}
use Rattle.jcode.specs.declared.mention.Stage.TheVariants.{Current, New}
use Rattle.jcode.specs.declared.variable.Domain.{Domain}
use Rattle.jcode.specs.declared.variable.Domain.TheVariants.{Integer, Boolean}
use Rattle.jcode.specs.Units.{JUnit}
use Rattle.checking.specs.Types.{domains, domain_kind, domain_bounds, aspect_domain, mention_domain}
use Rattle.sheets.specs.declared.cell.Cell.{Cell}
use Rattle.sheets.specs.Runs.{sentence, with_shadows, types_at, stored, entry_of, staged, read, listed}
use Rattle.sheets.specs.Sheets.{cell_kind, cell_bounds}
use Rattle.sheets.specs.PathSheets.{Progress, cell_of, cells_from, cells_of, onward, cells_along, started, sheet_of}
use Rattle.sheets.proofs.Storing.{length-stored, map-stored, All-stored, length-cells_from, cells_below, entry_below, looked, looked_next, left_over, read_looked}
use Rattle.sheets.proofs.Typing.{unset, unset_all, unset_cells_of, length-with_shadows, length-types_at}

-- ---- the types of a store's entries
value_type : (ds : List Domain) (v : ℕ) (z : Domain) → get_or (with_shadows ds) (2 * v) z ≡ get_or ds v z
value_type [] v z = refl
value_type (d ∷ ds) zero z = refl
value_type (d ∷ ds) (suc v) z = ap (λ k. get_or (with_shadows (d ∷ ds)) k z) (let e : 2 * suc v ≡ suc (suc (2 * v)) = omega arith in e) ∙ value_type ds v z

shadow_type : (ds : List Domain) (v : ℕ) → get_or (with_shadows ds) (2 * v + 1) Boolean ≡ Boolean
shadow_type [] v = refl
shadow_type (d ∷ ds) zero = refl
shadow_type (d ∷ ds) (suc v) = ap (λ k. get_or (with_shadows (d ∷ ds)) k Boolean) (let e : 2 * suc v + 1 ≡ suc (suc (2 * v + 1)) = omega arith in e) ∙ shadow_type ds v

-- a variable's new cells have its own types
stored_types : (ds : List Domain) (vs : List ℕ) → stored vs (with_shadows (map (λ v. get_or ds v Integer) vs)) (with_shadows ds) ≡ with_shadows ds
stored_types ds [] = refl
stored_types ds (v ∷ vs) =
    let ws = with_shadows ds in
    let value_same : set ws (2 * v) (get_or ds v Integer) ≡ ws = ap (set ws (2 * v)) (sym (value_type ds v Integer)) ∙ set-get_or ws (2 * v) Integer in
    let shadow_same : set ws (2 * v + 1) Boolean ≡ ws = ap (set ws (2 * v + 1)) (sym (shadow_type ds v)) ∙ set-get_or ws (2 * v + 1) Boolean in
    ap (λ s. stored vs (with_shadows (map (λ v. get_or ds v Integer) vs)) (set s (2 * v + 1) Boolean)) value_same ∙ ap (stored vs (with_shadows (map (λ v. get_or ds v Integer) vs))) shadow_same ∙ stored_types ds vs

-- types, laid out as a store is
abbrev pub laid_types : List Domain → List (Option Domain)
laid_types ds = map Some (with_shadows ds)

read_types : (ds : List Domain) (m : Mention) → m.variable < length ds → read None (laid_types ds) (laid_types ds) m ≡ mention_domain ds m
read_types ds m h = go m.aspect m.stage m.variable h
  where
    at : (a : Aspect) (v : ℕ) → v < length ds → get_or (laid_types ds) (entry_of a v) None ≡ aspect_domain a (slice_get ds v)
    at Value v h =
        let inside = entry_below Value v (length ds) h in
        get_or-map Some (with_shadows ds) (2 * v) Integer None (omega (arith, length-with_shadows ds)) ∙ ap Some (value_type ds v Integer) ∙ sym (slice_get-get_or ds v Integer h)
    at Shadow v h =
        let inside = entry_below Shadow v (length ds) h in
        get_or-map Some (with_shadows ds) (2 * v + 1) Boolean None (omega (arith, length-with_shadows ds)) ∙ ap Some (shadow_type ds v)

    go : (a : Aspect) (t : Stage) (v : ℕ) → v < length ds → get_or (staged t (laid_types ds) (laid_types ds)) (entry_of a v) None ≡ aspect_domain a (slice_get ds v)
    go a Current v h = at a v h
    go a New v h = at a v h

-- ---- cells by their types
abbrev pub types_along : JUnit → List ℕ → List Domain
types_along u p = flat_map (λ i. types_at u (listed (sentence u i))) p

unset_along : (u : JUnit) (w : Progress) (p : List ℕ) → map unset (cells_along u w p) ≡ map (cell_of None) (types_along u p)
unset_along u w [] = refl
unset_along u w (i ∷ p) =
    map-append unset (cells_of u w (sentence u i)) (cells_along u (onward w (sentence u i)) p)
    ∙ ap₂ ◌++◌ (unset_cells_of u w (sentence u i)) (unset_along u (onward w (sentence u i)) p)
    ∙ sym (map-append (cell_of None) (types_at u (listed (sentence u i))) (types_along u p))

abbrev pub sheet_types : JUnit → List ℕ → List Domain
sheet_types u p = with_shadows (domains u) ++ types_along u p

pub unset_sheet : (u : JUnit) (p : List ℕ) → map unset (sheet_of u p).cells ≡ map (cell_of None) (sheet_types u p)
unset_sheet u p =
    map-append unset (map (cell_of None) (with_shadows (domains u))) (cells_along u (started u) p)
    ∙ ap₂ ◌++◌ (unset_all (with_shadows (domains u))) (unset_along u (started u) p)
    ∙ sym (map-append (cell_of None) (with_shadows (domains u)) (types_along u p))

-- which type a cell has, if there is such a cell
abbrev pub held_types : JUnit → List ℕ → List (Option Domain)
held_types u p = map Some (sheet_types u p)

get_or_somes : {X : Type 0} (xs : List X) (i : ℕ) → slice_get xs i ≡ get_or (map Some xs) i None
get_or_somes [] i = refl
get_or_somes (x ∷ xs) zero = refl
get_or_somes (x ∷ xs) (suc i) = get_or_somes xs i

-- what does not hang on who sets a cell hangs on its type
module _ {X : Type 0} (f : Cell → X) (same : (c : Cell) → f c ≡ f (unset c)) (u : JUnit) (p : List ℕ) (i : ℕ) where
  of_unset : (o : Option Cell) → option_map f o ≡ option_map f (option_map unset o)
  of_unset None = refl
  of_unset (Some c) = ap Some (same c)

  of_type : (o : Option Domain) → option_map f (option_map (cell_of None) o) ≡ option_map (λ d. f (cell_of None d)) o
  of_type None = refl
  of_type (Some d) = refl

  pub by_type : option_map f (slice_get (sheet_of u p).cells i) ≡ option_map (λ d. f (cell_of None d)) (get_or (held_types u p) i None)
  by_type =
      of_unset (slice_get (sheet_of u p).cells i)
      ∙ ap (option_map f) (sym (slice_get-map unset (sheet_of u p).cells i) ∙ ap (λ cs. slice_get cs i) (unset_sheet u p) ∙ slice_get-map (cell_of None) (sheet_types u p) i)
      ∙ of_type (slice_get (sheet_types u p) i)
      ∙ ap (option_map (λ d. f (cell_of None d))) (get_or_somes (sheet_types u p) i)

pub kind_by_type : (u : JUnit) (p : List ℕ) (i : ℕ) → cell_kind (sheet_of u p).cells i ≡ option_map domain_kind (get_or (held_types u p) i None)
kind_by_type = by_type (λ c. c.kind) (λ c. refl)

pub bounds_by_type : (u : JUnit) (p : List ℕ) (i : ℕ) → cell_bounds (sheet_of u p).cells i ≡ option_map domain_bounds (get_or (held_types u p) i None)
bounds_by_type = by_type (λ c. between c.low c.high) (λ c. refl)

-- ---- statement by statement
-- the current cells lie below the next one and have the types of a store's entries, and the next cells have those of the statements to come
pub record Placed (u : JUnit) (held : List (Option Domain)) (w : Progress) (p : List ℕ) : Type 0 where
  pub complete : length w.current ≡ 2 * length u.variables
  pub typed : looked held None w.current ≡ laid_types (domains u)
  pub below : All (λ c. c < w.cells) w.current
  pub coming : drop w.cells held ≡ map Some (types_along u p)

module _ (u : JUnit) where
  pub placed_start : (p : List ℕ) → Placed u (held_types u p) (started u) p
  placed_start p =
      let ws = with_shadows (domains u) in
      let both = map-append Some ws (types_along u p) in
      let size : length (laid_types (domains u)) ≡ 2 * length u.variables = length-map ws Some ∙ length-with_shadows (domains u) ∙ ap (λ n. 2 * n) (length-map u.variables (λ d. d.domain)) in
      record {
        complete = length-cells_from 0 u.variables;
        typed = looked_next (held_types u p) None 0 u.variables (laid_types (domains u)) (map Some (types_along u p)) both size;
        below = cells_below (2 * length u.variables) 0 u.variables (omega arith);
        coming = ap (drop (2 * length u.variables)) both ∙ drop_at (laid_types (domains u)) (map Some (types_along u p)) (2 * length u.variables) size;
      }

  module _ (held : List (Option Domain)) (w : Progress) (i : ℕ) (p : List ℕ) (placed : Placed u held w (i ∷ p)) where
    abbrev vs : List ℕ
    vs = listed (sentence u i)

    abbrev own : List ℕ
    own = cells_from w.cells vs

    coming_here : drop w.cells held ≡ map Some (types_at u vs) ++ map Some (types_along u p)
    coming_here = placed.coming ∙ map-append Some (types_at u vs) (types_along u p)

    as_many : length (map Some (types_at u vs)) ≡ 2 * length vs
    as_many = length-map (types_at u vs) Some ∙ length-types_at u vs

    pub typed_after : looked held None (onward w (sentence u i)).current ≡ laid_types (domains u)
    typed_after =
        map-stored (λ c. get_or held c None) vs own w.current
        ∙ ap₂ (stored vs) (looked_next held None w.cells vs (map Some (types_at u vs)) (map Some (types_along u p)) coming_here as_many) placed.typed
        ∙ sym (map-stored Some vs (types_at u vs) (with_shadows (domains u)))
        ∙ ap (map Some) (stored_types (domains u) vs)

    pub placed_next : Placed u held (onward w (sentence u i)) p
    placed_next = record {
      complete = length-stored vs own w.current ∙ placed.complete;
      typed = typed_after;
      below = All-stored (λ c. c < w.cells + 2 * length vs) vs own w.current (cells_below (w.cells + 2 * length vs) w.cells vs (omega arith))
          (All-weaker (λ c. c < w.cells) (λ c. c < w.cells + 2 * length vs) (λ c h. omega arith) w.current placed.below);
      coming = left_over held None w.cells vs (map Some (types_at u vs)) (map Some (types_along u p)) coming_here as_many;
    }

  -- what a mention becomes has its type
  pub mention_typed : (held : List (Option Domain)) (before after : List ℕ) → length before ≡ 2 * length u.variables → length after ≡ 2 * length u.variables
      → looked held None before ≡ laid_types (domains u) → looked held None after ≡ laid_types (domains u)
      → (m : Mention) → m.variable < length u.variables → get_or held (read 0 before after m) None ≡ mention_domain (domains u) m
  mention_typed held before after k l s t m h =
      read_looked held None (length u.variables) before after k l m h
      ∙ ap₂ (λ b a. read None b a m) s t
      ∙ read_types (domains u) m (omega (arith, length-map u.variables (λ d. d.domain)))
