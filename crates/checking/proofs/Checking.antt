-- What reading leaves keeps the rules of reading, and is checked as the unit that stands there.
use Rattle.std.proofs.Common.{◌≡◌, ℕ, ◌+◌, ◌≤◌, true, ◌&&◌, List, [], ◌∷◌, length, Ok, sym, refl, ap, ◌∙◌, subst, inr, ⊎_elim}
use Rattle.std.specs.List.{list_all}
use Rattle.std.proofs.lemmas.Bool.{le-leb}
use Rattle.jcode.specs.declared.reader.Outline.{Outline}
use Rattle.jcode.specs.declared.refusal.Refusal.{Refusal}
use Rattle.jcode.specs.declared.span.Span.{Span}
use Rattle.jcode.specs.Language.{between}
use Rattle.jcode.specs.Notation.{sizes_of, fronts, IsUnit, TellsUnit, AcceptsExactly}
use Rattle.jcode.specs.ReadUnits.{Located, Tables, laid_all, rows_all, read_unit, answered, left_by}
use Rattle.jcode.specs.Sentences.{Sentence, Hang, Break, Require, Proclaim, New, Assign, Split, When, Branch, Join}
use Rattle.jcode.specs.Spelling.{Spells, Within}
use Rattle.jcode.specs.Units.{JUnit, unit_of}
use Rattle.jcode.proofs.Accepting.{accepts}
use Rattle.jcode.proofs.Holding.{all_held}
use Rattle.jcode.proofs.Unique.{one_unit}
use Rattle.jcode.proofs.Within.{unit_fits, is_told}
use Rattle.checking.specs.declared.fault.CheckFault.{CheckFault}
use Rattle.checking.specs.declared.fault.CheckFault.TheVariants.{Reading, Rule}
use Rattle.checking.specs.Breaks.{BreaksRule, NoneOf, FirstOf, FirstBroken, Unbroken}
use Rattle.checking.specs.Readable.{Readable, sentences_in}
use Rattle.checking.specs.Readings.{Leaves, LeavesReadable, LeavesSound}
use Rattle.checking.specs.Spelled.{lies_in, text_fits, Laid}
use Rattle.checking.proofs.Keeping.{spelled_is_readable}
use Rattle.checking.proofs.Outlining.{tables_of, was_read}

-- of what was read, the statements are those that were laid
sentences_read : (u : Located) → sentences_in (tables_of u) ≡ u.sentences
sentences_read u = all_held (rows_all u.sentences) 0 u.sentences [] refl refl

module _ (bytes : List ℕ) where
  within : (s : Span) → s.start + s.length ≤ length bytes → lies_in bytes s ≡ true
  within s le = le-leb _ _ le

  text_tested : (s : Sentence Span) → is_told bytes (lies_in bytes) within s ≡ text_fits bytes s
  text_tested Hang = refl
  text_tested (Break t) = refl
  text_tested (Require e t) = refl
  text_tested (Proclaim e) = refl
  text_tested (New vs e t) = refl
  text_tested (Assign v e f) = refl
  text_tested (Split l) = refl
  text_tested (When e l) = refl
  text_tested (Branch t l) = refl
  text_tested (Join l) = refl

  texts_tested : (ss : List (Sentence Span)) → list_all (is_told bytes (lies_in bytes) within) ss ≡ list_all (text_fits bytes) ss
  texts_tested [] = refl
  texts_tested (s ∷ ss) = λ k. text_tested s k && texts_tested ss k

module _ (bytes : List ℕ) (start : ℕ) (before : Tables) where
  abbrev after : Tables
  after = left_by before (read_unit before bytes start)

  exactly : AcceptsExactly bytes start before (answered (read_unit before bytes start)) after
  exactly = accepts bytes start before (answered (read_unit before bytes start)) after refl refl

  module _ (o : Outline) (told : answered (read_unit before bytes start) ≡ Ok o) where
    abbrev unit_left : JUnit
    unit_left = unit_of bytes o.name (fronts o after)

    tells : TellsUnit bytes start (sizes_of before) o unit_left
    tells = exactly.only o told

    is_laid : Laid bytes o.name (fronts o after)
    is_laid =
        let w = was_read before after (read_unit before bytes start) o (sym told) refl in
        let f = unit_fits bytes (lies_in bytes) (within bytes) before start w.unit w.next w.read in
        let sentences : sentences_in (fronts o after) ≡ w.unit.sentences = ap sentences_in w.cut ∙ sentences_read w.unit in
        record {
          laid = ap (λ t. t.statements) w.cut ∙ ap (laid_all 0) (sym sentences);
          filled = ap (λ t. t.rows) w.cut ∙ ap rows_all (sym sentences);
          limited = tells.is.keeps;
          named = ap (λ o. lies_in bytes o.name) w.told ∙ f.named;
          declared = ap (λ t. list_all (λ v. lies_in bytes v.name) t.variables) w.cut ∙ f.declared;
          told = ap (list_all (text_fits bytes)) sentences ∙ sym (texts_tested bytes w.unit.sentences) ∙ f.told;
        }

    is_readable : Readable bytes o.name (fronts o after)
    is_readable = spelled_is_readable bytes o.name (fronts o after) (is_laid, (between bytes start o.next, tells.is.spelt.belongs))

pub leaves_readable : LeavesReadable
leaves_readable bytes start before o t l = subst (Readable bytes o.name) l.left (is_readable bytes start before o l.told)

-- the rules of a unit, where it is another's
broken_as : (u v : JUnit) → u ≡ v → (r : Refusal) (i : ℕ) → BreaksRule u r i → BreaksRule v r i
broken_as u v e r i b = subst (λ u. BreaksRule u r i) e b

pub leaves_sound : LeavesSound
leaves_sound bytes start next before u = (only, all)
  where
    only : (o : Outline) × (t : Tables) × Leaves bytes start before o t × (o.next ≡ next) × (unit_of bytes o.name t ≡ u) × Unbroken bytes o.name t → IsUnit bytes start next u × Within (sizes_of before) u × NoneOf (BreaksRule u)
    only h =
        let t = tells bytes start before h.0 h.2.told in
        let same : unit_left bytes start before h.0 h.2.told ≡ u = ap (unit_of bytes h.0.name) h.2.left ∙ h.4 in
        let is : IsUnit bytes start h.0.next u = subst (IsUnit bytes start h.0.next) same t.is in
        (subst (λ n. IsUnit bytes start n u) h.3 is, subst (Within (sizes_of before)) same t.fits, λ r i b. h.5 r i (inr (broken_as _ _ (sym h.4) r i b)))

    all : IsUnit bytes start next u × Within (sizes_of before) u × NoneOf (BreaksRule u) → (o : Outline) × (t : Tables) × Leaves bytes start before o t × (o.next ≡ next) × (unit_of bytes o.name t ≡ u) × Unbroken bytes o.name t
    all h =
        let a = (exactly bytes start before).all u next h.0 h.1 in
        let l : Leaves bytes start before a.0 (fronts a.0 (after bytes start before)) = record { told = a.1; left = refl } in
        (a.0, fronts a.0 (after bytes start before), l, a.2, a.3, λ r i b. ⊎_elim (λ p. p.2 (leaves_readable bytes start before a.0 _ l)) (λ b. h.2 r i (broken_as _ _ a.3 r i b)) b)

-- a check of what was read
module _ (bytes : List ℕ) (name : Span) (t : Tables) where
  -- of a unit that stands where a reading left these tables
  abbrev OfRead : (JUnit → Type 0) → Type 0
  OfRead P = (start : ℕ) (before : Tables) (o : Outline) (u : JUnit) → Leaves bytes start before o t → o.name ≡ name → IsUnit bytes start o.next u → P u

  of_read : (P : JUnit → Type 0) → (Readable bytes name t → P (unit_of bytes name t)) → OfRead P
  of_read P h start before o u l named stands =
      let same : unit_left bytes start before o l.told ≡ unit_of bytes name t = (λ k. unit_of bytes (named k) (l.left k)) in
      let mine = subst (λ v. Spells v (between bytes start o.next)) same (tells bytes start before o l.told).is.spelt.belongs in
      subst P (one_unit _ u _ mine stands.spelt.belongs) (h (subst (λ s. Readable bytes s t) named (leaves_readable bytes start before o t l)))

  pub passes_read : Unbroken bytes name t → OfRead (λ u. NoneOf (BreaksRule u) × (unit_of bytes name t ≡ u))
  passes_read none = of_read (λ u. NoneOf (BreaksRule u) × (unit_of bytes name t ≡ u)) (λ ok. (λ r i b. none r i (inr b), refl))

  pub fails_read : (f : CheckFault) → FirstBroken bytes name t f → OfRead (λ u. FirstOf (BreaksRule u) f)
  fails_read (Reading f) h = absurd h
  fails_read (Rule r i) h =
      of_read (λ u. FirstOf (BreaksRule u) (Rule r i))
      (λ ok. (⊎_elim (λ p. absurd (p.2 ok)) (λ b. b) h.0, λ q j e b. h.1 q j e (inr b)))
