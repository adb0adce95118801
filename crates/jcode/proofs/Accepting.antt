-- What reading answers is exactly what the notation allows.
use Rattle.std.proofs.Common.{◌≡◌, ℕ, ◌<◌, List, length, Ok, Err, Result, sym, refl, ap, ◌∙◌, subst, arith}
use Rattle.jcode.specs.declared.reader.Outline.{Outline}
use Rattle.jcode.specs.declared.refusal.ReadFault.{ReadFault}
use Rattle.jcode.specs.declared.refusal.Refusal.TheVariants.{Table}
use Rattle.jcode.specs.declared.refusal.Layer.TheVariants.{Reading}
use Rattle.jcode.specs.Refusals.{layer_of}
use Rattle.jcode.specs.Bytes.{separator, slice}
use Rattle.jcode.specs.Language.{◌⊙◌, Spelt}
use Rattle.jcode.specs.Spelling.{Heading, Declarations, Statements, scope_with, Spells, Within}
use Rattle.jcode.specs.Pieces.{Answer, got, refused}
use Rattle.jcode.specs.ReadUnits.{Located, Tables, read_unit, outline, answered, left_by}
use Rattle.jcode.specs.Outgrown.{IsOutgrown}
use Rattle.jcode.specs.Units.{JUnit, declared_in, retold, unit_in}
use Rattle.jcode.specs.Notation.{sizes_of, unit_told, IsUnit, TellsUnit, AcceptsExactly}
use Rattle.jcode.proofs.Names.{length_map}
use Rattle.jcode.proofs.Places.{parts, spelt_as, just_next}
use Rattle.jcode.proofs.Agreement.{Finds, found, short}
use Rattle.jcode.proofs.Fronts.{passes_byte}
use Rattle.jcode.proofs.Saying.{all_rows_told}
use Rattle.jcode.proofs.Whole.{unit_agrees, unit_ends}
use Rattle.jcode.proofs.Holding.{held_whole}
use Rattle.jcode.proofs.Outgrowing.{unit_outgrows}
use Rattle.jcode.proofs.Layers.{unit_layered}
use Rattle.jcode.proofs.Unique.{one_unit}

-- what an answer was, by what is told of it
answered_ok : (a : Answer Located) (o : Outline) → answered a ≡ Ok o → (u : Located) × (j : ℕ) × (a ≡ got u j) × (outline u j ≡ o)
answered_ok (got u j) o e = (u, j, refl, (let same : outline u j ≡ o = cc in same))
answered_ok (refused f) o e = let z : ◌≡◌ {A = ℕ} 0 1 = cc in absurd (omega arith)

answered_err : (a : Answer Located) (f : ReadFault) → answered a ≡ Err f → a ≡ refused f
answered_err (got u j) f e = let z : ◌≡◌ {A = ℕ} 0 1 = cc in absurd (omega arith)
answered_err (refused g) f e = let same : g ≡ f = cc in ap refused same

-- no unit is empty
unit_forward : (bytes : List ℕ) (start : ℕ) (u : JUnit) (next : ℕ) → Spelt (Spells u) bytes start next → start < next
unit_forward bytes start u next s =
    let whole = parts (spelt_as {Q = Heading u.name ⊙ Declarations u.variables ⊙ Statements (scope_with u.variables) u.statements} (λ w h. h.1) s) in
    let begin = parts whole.1 in
    let five = just_next begin.1 in
    let a = begin.2.forward in
    let b = whole.2.forward in
    omega arith

module _ (bytes : List ℕ) (start : ℕ) (before : Tables) where
  abbrev answer : Answer Located
  answer = read_unit before bytes start

  -- what is told of what was read
  tells : (u : Located) (j : ℕ) → answer ≡ got u j → TellsUnit bytes start (sizes_of before) (outline u j) (unit_in bytes u)
  tells u j e =
      let ends = unit_ends before bytes start u j e in
      let h = ends.0 in
      let s = (unit_agrees before bytes).sound start u j (omega arith) e in
      record {
        is = record { spelt = s.spelt; whole = passes_byte separator refl bytes j ∙ ends.1; keeps = s.keeps };
        fits = s.fits;
        forward = unit_forward bytes start (unit_in bytes u) j s.spelt;
        within = s.spelt.within;
        variables = sym (length_map (declared_in bytes) u.variables);
        statements = sym (length_map (retold (slice bytes)) u.sentences);
        rows = ap length (sym (all_rows_told (slice bytes) u.sentences));
      }

  -- a unit that stands there is read, or the tables are too short for it
  reads : (u : JUnit) (next : ℕ) → IsUnit bytes start next u → Finds (sizes_of before) bytes (unit_in bytes) (Within (sizes_of before) u) answer u next
  reads u next is = (unit_agrees before bytes).complete start u next is.spelt is.keeps (sym (passes_byte separator refl bytes next) ∙ is.whole)

  module _ (result : Result Outline ReadFault) (after : Tables) (told : result ≡ answered answer) (left : after ≡ left_by before answer) where
    holds : (u : Located) (j : ℕ) → answer ≡ got u j → unit_told bytes (outline u j) after ≡ unit_in bytes u
    holds u j e = ap (unit_told bytes (outline u j)) (left ∙ ap (left_by before) e) ∙ held_whole bytes before u j

    only : (o : Outline) → result ≡ Ok o → TellsUnit bytes start (sizes_of before) o (unit_told bytes o after)
    only o e =
        let m = answered_ok answer o (sym told ∙ e) in
        subst (λ o. TellsUnit bytes start (sizes_of before) o (unit_told bytes o after)) m.3
        (subst (TellsUnit bytes start (sizes_of before) (outline m.0 m.1)) (sym (holds m.0 m.1 m.2)) (tells m.0 m.1 m.2))

    all : (u : JUnit) (next : ℕ) → IsUnit bytes start next u → Within (sizes_of before) u → (o : Outline) × (result ≡ Ok o) × (o.next ≡ next) × (unit_told bytes o after ≡ u)
    all u next is fits = by (reads u next is)
      where
        by : Finds (sizes_of before) bytes (unit_in bytes) (Within (sizes_of before) u) answer u next → (o : Outline) × (result ≡ Ok o) × (o.next ≡ next) × (unit_told bytes o after ≡ u)
        by (found a e eq) = (outline a next, told ∙ ap answered e, refl, holds a next e ∙ eq)
        by (short place e lacks) = absurd (lacks fits)

    refuses : (f : ReadFault) → result ≡ Err f → (u : JUnit) (next : ℕ) → IsUnit bytes start next u → (f.refusal ≡ Table) × (Within (sizes_of before) u → ⊥)
    refuses f e u next is = by (reads u next is)
      where
        by : Finds (sizes_of before) bytes (unit_in bytes) (Within (sizes_of before) u) answer u next → (f.refusal ≡ Table) × (Within (sizes_of before) u → ⊥)
        by (found a h eq) = let z : ◌≡◌ {A = ℕ} 0 1 = (let r : Err f ≡ Ok (outline a next) = sym e ∙ told ∙ ap answered h in cc) in absurd (omega arith)
        by (short place h lacks) =
            let r : Err f ≡ Err (record { refusal = Table; place = place }) = sym e ∙ told ∙ ap answered h in
            let same : f ≡ record { refusal = Table; place = place } = cc in
            (ap (λ f. f.refusal) same, lacks)

    outgrown : (place : ℕ) → result ≡ Err (record { refusal = Table; place = place }) → IsOutgrown (sizes_of before) bytes start place
    outgrown place e = unit_outgrows before bytes start place (answered_err answer _ (sym told ∙ e))

pub accepts : (bytes : List ℕ) (start : ℕ) (before : Tables) (result : Result Outline ReadFault) (after : Tables) → result ≡ answered (read_unit before bytes start) → after ≡ left_by before (read_unit before bytes start) → AcceptsExactly bytes start before result after
accepts bytes start before result after told left = record {
  only = only bytes start before result after told left;
  all = all bytes start before result after told left;
  one = one_unit;
  refused = refuses bytes start before result after told left;
  outgrown = outgrown bytes start before result after told left;
}

pub refuses_reading : (bytes : List ℕ) (start : ℕ) (before : Tables) (result : Result Outline ReadFault) → result ≡ answered (read_unit before bytes start) → (f : ReadFault) → result ≡ Err f → layer_of f.refusal ≡ Reading
refuses_reading bytes start before result told f e = (unit_layered bytes before start).layer f (answered_err (read_unit before bytes start) f (sym told ∙ e))
