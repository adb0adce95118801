-- Readings that blame no table, and give only refusals of reading.
use Rattle.std.proofs.Common.{◌≡◌, ℕ, zero, suc, ◌+◌, Bool, true, false, cond, List, ℤ, Some, None, Option, sym, refl, ap, ◌∙◌, arith}
use Rattle.jcode.specs.declared.refusal.Refusal.{Refusal}
use Rattle.jcode.specs.declared.refusal.Refusal.TheVariants.{Missing, Number, Limit, Table, Name}
use Rattle.jcode.specs.declared.refusal.ReadFault.{ReadFault}
use Rattle.jcode.specs.declared.refusal.Layer.TheVariants.{Reading}
use Rattle.jcode.specs.Refusals.{number_of, layer_of}
use Rattle.jcode.specs.declared.declaration_reader.DomainWord.{DomainWord}
use Rattle.jcode.specs.declared.declaration_reader.DomainWord.TheVariants as word
use Rattle.jcode.specs.declared.statement_reader.Verb.TheVariants as verb
use Rattle.jcode.specs.declared.term_reader.Head.{Head}
use Rattle.jcode.specs.declared.term_reader.Head.TheVariants.{Constant as ConstantHead, Defined, New as NewHead, Operator as OperatorHead}
use Rattle.jcode.specs.declared.span.Span.{Span}
use Rattle.jcode.specs.declared.variable.Variable.{Variable}
use Rattle.jcode.specs.Pieces.{Answer, got, refused, Reader, refuse, and_then, ◌▷◌, ◌giving◌, repeated, passed, numbered, read_mark, read_gap, read_may_gap, read_word, read_name, read_keyword, read_decimal, read_number, read_inner, read_text}
use Rattle.jcode.specs.Scopes.{Scope}
use Rattle.jcode.specs.ReadTerms.{found, known, read_variable, read_renewed, read_defined, by_head_found, read_row, read_close, read_lead}
use Rattle.jcode.specs.ReadStatements.{goes_on, read_single, read_again, read_repeated, read_target, read_unseen, read_more, read_names, read_listing, read_text_end, read_label_end, read_gap_label, by_verb}
use Rattle.jcode.specs.ReadUnits.{read_high, read_bounds, by_domain, read_domain, read_colon, read_class, read_closing, read_declared, read_fresh, read_declaration, read_finish, read_heading}
use Rattle.jcode.proofs.Outcomes.{refused_got}

-- what is refused is refused by reading
pub record Layered {A : Type 0} (o : Answer A) : Type 0 where
  pub layer : (f : ReadFault) → o ≡ refused f → layer_of f.refusal ≡ Reading

-- the tables are not blamed
pub record Fair {A : Type 0} (o : Answer A) : Type 0 where
  pub fair : (place : ℕ) → o ≡ refuse Table place → ⊥
  pub layered : Layered o

pub got_layered : {A : Type 0} (a : A) (j : ℕ) → Layered (got a j)
got_layered a j = record { layer = λ f e. absurd (refused_got (sym e)) }

pub reading : {A : Type 0} (r : Refusal) (p : ℕ) → layer_of r ≡ Reading → Layered {A = A} (refuse r p)
reading r p h = record {
  layer = λ f e.
      let same : record { refusal = r; place = p } ≡ f = cc in
      ap (λ f. layer_of f.refusal) (sym same) ∙ h;
}

pub then_layered : {A B : Type 0} (o : Answer A) (f : A → ℕ → Answer B) → Layered o → ((a : A) (j : ℕ) → Layered (f a j)) → Layered (and_then o f)
then_layered (got a j) f h k = k a j
then_layered (refused y) f h k = record { layer = λ g e. h.layer g (let same : y ≡ g = cc in ap refused same) }

pub cond_layered : {A : Type 0} (t : Bool) (x y : Answer A) → Layered x → Layered y → Layered (cond t x y)
cond_layered true x y h k = h
cond_layered false x y h k = k

pub got_fair : {A : Type 0} (a : A) (j : ℕ) → Fair (got a j)
got_fair a j = record { fair = λ place e. refused_got (sym e); layered = got_layered a j }

other : {A : Type 0} (r : Refusal) (p : ℕ) → (number_of r ≡ 4 → ⊥) → layer_of r ≡ Reading → Fair {A = A} (refuse r p)
other r p apart h = record {
  fair = λ place e.
      let same : ◌≡◌ {A = ReadFault} (record { refusal = r; place = p }) (record { refusal = Table; place = place }) = cc in
      absurd (apart (ap (λ f. number_of f.refusal) same));
  layered = reading r p h;
}

pub missing : {A : Type 0} (p : ℕ) → Fair {A = A} (refuse Missing p)
missing p = other Missing p (λ e. omega arith) refl

number : {A : Type 0} (p : ℕ) → Fair {A = A} (refuse Number p)
number p = other Number p (λ e. omega arith) refl

pub limit : {A : Type 0} (p : ℕ) → Fair {A = A} (refuse Limit p)
limit p = other Limit p (λ e. omega arith) refl

name : {A : Type 0} (p : ℕ) → Fair {A = A} (refuse Name p)
name p = other Name p (λ e. omega arith) refl

pub then_fair : {A B : Type 0} (o : Answer A) (f : A → ℕ → Answer B) → Fair o → ((a : A) (j : ℕ) → Fair (f a j)) → Fair (and_then o f)
then_fair (got a j) f h k = k a j
then_fair (refused y) f h k = record {
  fair = λ place e. h.fair place (let same : y ≡ record { refusal = Table; place = place } = cc in ap refused same);
  layered = then_layered (refused y) f h.layered (λ a j. (k a j).layered);
}

cond_fair : {A : Type 0} (t : Bool) (x y : Answer A) → (t ≡ true → Fair x) → (t ≡ false → Fair y) → Fair (cond t x y)
cond_fair true x y h k = h refl
cond_fair false x y h k = k refl

module _ (bytes : List ℕ) where
  abbrev pub Always : {A : Type 0} → Reader A → Type 0
  Always r = (i : ℕ) → Fair (r bytes i)

  repeat : {A : Type 0} (more : List ℕ → ℕ → Bool) (step : Bool → List A → Reader A) (done : List A → Reader (List A)) → ((is_full : Bool) (seen : List A) → Always (step is_full seen)) → ((seen : List A) → Always (done seen)) → (left : ℕ) (seen : List A) → Always (repeated more step done left seen)
  repeat more step done h k zero seen i = search (cond_fair, then_fair, h, k, got_fair)
  repeat more step done h k (suc left) seen i = search (cond_fair, then_fair, h, k, repeat more step done h k left)

  pub white_fair : (i : ℕ) (o : Option ℕ) → Fair (passed i o)
  white_fair i (Some n) = got_fair tt (i + n)
  white_fair i None = missing i

  pub mark_fair : (w : List ℕ) → Always (read_mark w)
  mark_fair w i = search (cond_fair, missing, got_fair)

  pub word_fair : Always read_word
  word_fair i = search (cond_fair, got_fair, missing)

  pub name_fair : Always read_name
  name_fair i = search (then_fair, cond_fair, got_fair, word_fair, limit)

  pub keyword_fair : (k : List ℕ) → Always (read_keyword k)
  keyword_fair k i = search (then_fair, cond_fair, got_fair, word_fair, missing)

  numbers : (p j : ℕ) (o : Option ℕ) → Fair (numbered p j o)
  numbers p j (Some n) = got_fair n j
  numbers p j None = number p

  decimals : (p low high : ℕ) → Always (read_decimal p low high)
  decimals p low high i = search (cond_fair, missing, numbers)

  a_number : Always read_number
  a_number i = search (then_fair, cond_fair, decimals, got_fair)

  inner : Always read_inner
  inner i = search (cond_fair, limit, got_fair)

  pub text_fair : Always read_text
  text_fair i = search (then_fair, mark_fair, inner, got_fair)

  pub close_fair : Always read_close
  unfolding read_close
  close_fair i = search (mark_fair)

  pub text_end_fair : Always read_text_end
  unfolding read_text_end
  text_end_fair i = search (then_fair, got_fair, text_fair, white_fair)

  pub label_end_fair : Always read_label_end
  unfolding read_label_end
  label_end_fair i = search (then_fair, got_fair, decimals, white_fair)

  pub gap_label_fair : Always read_gap_label
  unfolding read_gap_label
  gap_label_fair i = search (then_fair, got_fair, decimals, white_fair)

  finds : (at : ℕ) (o : Option ℕ) (j : ℕ) → Fair (found at o j)
  finds at (Some v) j = got_fair v j
  finds at None j = name at

  module _ (sc : Scope) where
    knows : (s : Span) (j : ℕ) → Fair (known sc bytes s j)
    knows s j = search (then_fair, cond_fair, limit, got_fair, finds)

    variable : Always (read_variable sc)
    variable i = search (then_fair, word_fair, knows)

    renewed : (place : ℕ) → Always (read_renewed sc place)
    renewed place i = search (cond_fair, then_fair, white_fair, name_fair, finds, name)

    defined : Always (read_defined sc)
    defined i = search (cond_fair, then_fair, renewed, variable, got_fair)

    heads : (at : ℕ) (o : Option Head) → Always (by_head_found sc at o)
    heads at (Some ConstantHead) i = search (then_fair, white_fair, a_number, got_fair)
    heads at (Some Defined) i = search (then_fair, white_fair, defined)
    heads at (Some NewHead) i = search (then_fair, renewed, got_fair)
    heads at (Some (OperatorHead o)) i = search (got_fair)
    heads at None i = name at

    pub row_fair : Always (read_row sc)
    row_fair i = search (then_fair, word_fair, cond_fair, heads, knows, got_fair)

    -- a term's beginning, past its bracket
    pub inside_fair : Always (read_may_gap ▷ read_row sc)
    inside_fair i = search (row_fair)

    unseen : (is_full : Bool) (seen : List ℕ) → Always (read_unseen sc is_full seen)
    unfolding read_unseen
    unseen is_full seen i = search (then_fair, cond_fair, name_fair, variable, limit, name, got_fair)

    more : (left : ℕ) (seen : List ℕ) → Always (read_more sc left seen)
    more = repeat goes_on (λ is_full seen. read_gap ▷ read_unseen sc is_full seen) (λ seen. read_close giving (λ _. seen)) (λ is_full seen i. search (then_fair, white_fair, unseen)) (λ seen i. search (then_fair, close_fair, got_fair))

    pub names_fair : Always (read_names sc)
    unfolding read_names
    names_fair i = search (cond_fair, then_fair, got_fair, variable, more)

    pub listing_fair : Always (read_listing sc)
    unfolding read_listing
    listing_fair i = search (then_fair, mark_fair, names_fair)

    single : Always (read_single sc)
    unfolding read_single
    single i = search (then_fair, mark_fair, got_fair, variable, close_fair)

    again : (v : ℕ) → Always (read_again sc v)
    unfolding read_again
    again v i = search (then_fair, variable, cond_fair, got_fair, name)

    twice : (v : ℕ) → Always (read_repeated sc v)
    unfolding read_repeated
    twice v i = search (then_fair, mark_fair, got_fair, again, close_fair)

    pub target_fair : Always (read_target sc)
    target_fair i = search (then_fair, got_fair, single, twice)

  pub branch_fair : (sc : Scope) (room used : ℕ) → Always (by_verb sc room used verb.Branch)
  branch_fair sc room used i = search (then_fair, got_fair, white_fair, text_fair, label_end_fair)

  pub finish_fair : Always read_finish
  unfolding read_finish
  finish_fair i = search (then_fair, keyword_fair, white_fair)

  pub lead_fair : (b : Bool) → Always (read_lead b)
  lead_fair true i = search (white_fair)
  lead_fair false i = search (got_fair)

  high : (low : ℤ) → Always (read_high low)
  unfolding read_high
  high low i = search (then_fair, a_number, cond_fair, got_fair, number)

  bounds : Always read_bounds
  unfolding read_bounds
  bounds i = search (then_fair, white_fair, a_number, high)

  by_name : (at : ℕ) (o : Option DomainWord) → Always (by_domain at o)
  by_name at (Some word.Integer) i = got_fair _ i
  by_name at (Some word.Boolean) i = got_fair _ i
  by_name at (Some word.Subrange) i = bounds i
  by_name at None i = missing at

  domain : Always read_domain
  unfolding read_domain
  domain i = search (then_fair, word_fair, by_name)

  colon : Always read_colon
  unfolding read_colon
  colon i = search (then_fair, got_fair, mark_fair)

  class : Always read_class
  unfolding read_class
  class i = search (then_fair, got_fair, mark_fair, keyword_fair) depth 8

  closing : Always read_closing
  unfolding read_closing
  closing i = search (then_fair, close_fair, white_fair)

  declared : Always read_declared
  unfolding read_declared
  declared i = search (then_fair, got_fair, colon, class, domain, closing)

  fresh : (seen : List Variable) → Always (read_fresh seen)
  unfolding read_fresh
  fresh seen i = search (then_fair, name_fair, cond_fair, name, got_fair)

  pub declaration_fair : (seen : List Variable) → Always (read_declaration seen)
  declaration_fair seen i = search (then_fair, fresh, declared, got_fair)

  pub heading_fair : Always read_heading
  unfolding read_heading
  heading_fair i = search (then_fair, keyword_fair, white_fair, name_fair, got_fair)
